-- What feeding bytes one by one says in all: document 02, §7, "equal to feeding the bytes one by one". The reply bytes are `heard_back` (chip, specs/Run); here are
-- the number of reply frames, and the faults of §4.
use Rattle.std.specs.Prelude.{List, [], ◌++◌, ◌∷◌, ◌+◌, ℕ, Err, Ok, Result}
use Rattle.chip.specs.Run.{Spoken}
use Rattle.part.specs.declared.refusal.Refusal.{Refusal}
use Rattle.chip_reply.specs.declared.Sent.{Sent}
use Rattle.frame.specs.Judgement.{is_good}
use Rattle.frame.specs.declared.judgement.Judgement.{Judgement}
use Rattle.frame.specs.declared.judgement.Judgement.TheVariants.{Good}
use Rattle.words.specs.Words.{if◌then◌otherwise◌}

-- The reply frames of an answer, and of all answers together.
abbrev pub frame_count : Result Sent Refusal → ℕ
frame_count (Ok sent) = sent.frames
frame_count (Err r) = 0

unfoldable pub frames_back : List Spoken → ℕ
frames_back [] = 0
frames_back (x ∷ xs) = frame_count x.answer + frames_back xs

-- The judgements of the frames that were bad, one after the other.
abbrev pub fault_if_bad : Judgement → List Judgement
fault_if_bad j = if is_good j then [] otherwise j ∷ []

unfoldable pub faults_back : List Spoken → List Judgement
faults_back [] = []
faults_back (x ∷ xs) = fault_if_bad x.fault ++ faults_back xs

-- The first of them; where there is none, no fault.
unfoldable pub first_fault : List Judgement → Judgement
first_fault [] = Good
first_fault (j ∷ js) = j
