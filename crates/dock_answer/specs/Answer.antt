-- The answer to one frame: document 01, "The dock's flow". "The whole answer to one frame is handed in at once". Which fault it has: document 02, §4.
use Rattle.dock_answer.specs.declared.Said.{Said}
use Rattle.std.specs.Prelude.{Bool, false, true, List, [], ◌∷◌, ◌+◌, ◌-◌, ℕ, eqb, drop, get_or, length, take, None, Some}
use Rattle.dock_answer.specs.declared.Form.{Form}
use Rattle.dock_answer.specs.declared.Form.TheVariants.{OfLastPage, OfPage, OneStatus, WithRate, WithSignature}
use Rattle.dock_answer.specs.declared.JudgedAnswer.{JudgedAnswer}
use Rattle.frame.specs.Frame.{overhead, payload_at}
use Rattle.frame.specs.Judgement.{is_good}
use Rattle.frame.specs.Wire.{judge_reply}
use Rattle.frame.specs.declared.judgement.Judgement.{Judgement}
use Rattle.frame.specs.declared.judgement.Judgement.TheVariants.{Good}
use Rattle.lent.specs.Lent.{same}
use Rattle.part.specs.Rate.{mode_of}
use Rattle.part.specs.Signature.{signature}
use Rattle.part.specs.declared.Part.{Part}
use Rattle.words.specs.Words.{◌and◌, if◌then◌otherwise◌}

-- Of the frames of an answer the last is the one behind which none is left.
abbrev pub none_left : List ℕ → Bool
none_left [] = true
none_left (n ∷ ns) = false

-- ".. it is readable if it is exactly these frames": frames that carry so many bytes each, one behind the other, and nothing after the last. An answer that is
-- not has the fault of "its first faulty frame".
unfoldable pub judge_frames : List ℕ → List ℕ → Judgement
judge_frames [] bs = Good
judge_frames (n ∷ ns) bs =
    let front = judge_reply n (none_left ns) bs in
    if is_good front then judge_frames ns (drop (n + overhead) bs) otherwise front

-- A byte of what the first frame carries, and where what the second carries begins, after a first frame that carries so many bytes.
abbrev pub in_first : ℕ → List ℕ → ℕ
in_first i bs = get_or bs (payload_at + i) 0

abbrev pub second_after : ℕ → ℕ
second_after n = n + overhead + payload_at

-- "one byte for a command (9Ah: three if the first is 06h; C0h: then 22 bytes if it is 06h), two for a page (then one more frame of one byte after
-- 06h 06h to 40h's last)": by the first two bytes that the first frame carries.
unfoldable pub shape : Form → ℕ → ℕ → List ℕ
shape OneStatus s t = 1 ∷ []
shape WithRate s t = if eqb s 0x06 then 3 ∷ [] otherwise 1 ∷ []
shape WithSignature s t = if eqb s 0x06 then 1 ∷ 22 ∷ [] otherwise 1 ∷ []
shape OfPage s t = 2 ∷ []
shape OfLastPage s t = if eqb s 0x06 and eqb t 0x06 then 2 ∷ 1 ∷ [] otherwise 2 ∷ []

unfoldable pub judge_answer : Form → List ℕ → Judgement
judge_answer f bs = judge_frames (shape f (in_first 0 bs) (in_first 1 bs)) bs

abbrev pub readable : Form → List ℕ → Bool
readable f bs = is_good (judge_answer f bs)

-- How long an answer of that shape is, and how many bytes are still wanted of one that has begun, before it can be readable: a byte that has not come asks for
-- nothing more.
unfoldable pub long : List ℕ → ℕ
long [] = 0
long (n ∷ ns) = n + overhead + long ns

unfoldable pub wanted : Form → List ℕ → ℕ
wanted f bs = long (shape f (in_first 0 bs) (in_first 1 bs)) - length bs

-- The statuses of a readable answer; the third of a last page stands where the first two are 06h, and is not looked at elsewhere.
unfoldable pub statuses : Form → List ℕ → List ℕ
statuses OneStatus bs = in_first 0 bs ∷ []
statuses WithRate bs = in_first 0 bs ∷ []
statuses WithSignature bs = in_first 0 bs ∷ []
statuses OfPage bs = in_first 0 bs ∷ in_first 1 bs ∷ []
statuses OfLastPage bs = in_first 0 bs ∷ in_first 1 bs ∷ get_or bs (second_after 2) 0 ∷ []

-- "The first unexpected status in an answer decides": the first that is not 06h; 06h where all are.
unfoldable pub deciding : List ℕ → ℕ
deciding [] = 0x06
deciding (s ∷ ss) = if eqb s 0x06 then deciding ss otherwise s

-- "9Ah (the reply must hold the part's clock and the supply's mode)"
unfoldable pub rate_matches : Part → ℕ → ℕ → ℕ → Bool
rate_matches p supply clock mode = eqb clock p.clock and eqb mode (mode_of p supply)

-- "C0h (its reply must match the part)": the 22 bytes that the second frame carries.
unfoldable pub signature_matches : Part → List ℕ → Bool
signature_matches p bs = same (take 22 (drop (second_after 1) bs)) (signature p)

unfoldable pub matching : Part → ℕ → Form → List ℕ → Bool
matching p supply OneStatus bs = true
matching p supply WithRate bs = rate_matches p supply (in_first 1 bs) (in_first 2 bs)
matching p supply WithSignature bs = signature_matches p bs
matching p supply OfPage bs = true
matching p supply OfLastPage bs = true

abbrev pub said_as : ℕ → Bool → Said
said_as status matches = record { status = status; matches = matches }

-- What it says, where it is readable, and the fault that it has where it is not.
unfoldable pub read_answer : Part → ℕ → Form → List ℕ → JudgedAnswer
read_answer p supply f bs =
    record {
      decoded = if readable f bs then Some (said_as (deciding (statuses f bs)) (matching p supply f bs)) otherwise None;
      fault = judge_answer f bs;
    }
