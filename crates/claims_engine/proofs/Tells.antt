-- What a list of utterances says in all, and how the engine's sums of replies and faults grow by it (document 02, §7 and §4).
-- Assumes nothing.
use mathlib.Core.Bool.{Bool, false, true}
use mathlib.Core.List.{List, [], ◌++◌, ◌∷◌, append_assoc, append-nil, map}
use mathlib.Core.Path.{◌∙◌, ◌≡◌, ap, refl, sym}
use Prim.Native.Nat.{◌+◌, suc, zero, ℕ}
use native.Mathlib.Omega.{arith}
use lib.ListN.{length, length-append, replicate}
use Rattle.chip.specs.Run.{Spoken, heard_back}
use Rattle.claims_engine.specs.Feeding.{fault_if_bad, faults_back, first_fault, frames_back, frame_count}
use Rattle.claims_fed.specs.Fed.{silence}
use Rattle.claims_good.specs.Good.{Utterance, uttered}
use Rattle.engine.specs.Engine.{Stand}
use Rattle.frame.specs.Judgement.{is_good}
use Rattle.frame.specs.declared.judgement.Judgement.{Judgement}
use Rattle.frame.specs.declared.judgement.Judgement.TheVariants.{Good, UnfitLength, WrongFirst, WrongFooter, WrongSum}
use Rattle.words.specs.Words.{if◌then◌otherwise◌}

-- The bytes, the frames and the faults of a list of utterances.
unfoldable pub said_by : List Utterance → List ℕ
said_by [] = []
said_by (u ∷ us) = u.bytes ++ said_by us

unfoldable pub frames_by : List Utterance → ℕ
frames_by [] = 0
frames_by (u ∷ us) = frame_count u.answer + frames_by us

unfoldable pub faults_by : List Utterance → List Judgement
faults_by [] = []
faults_by (u ∷ us) = fault_if_bad u.fault ++ faults_by us

pub said-back : (ss : List Spoken) → heard_back ss ≡ said_by (map uttered ss)
unfolding heard_back said_by
said-back [] = refl
said-back (s ∷ ss) = rw (said-back ss)

pub frames-back : (ss : List Spoken) → frames_back ss ≡ frames_by (map uttered ss)
unfolding frames_back frames_by
frames-back [] = refl
frames-back (s ∷ ss) = rw (frames-back ss)

pub faults-back : (ss : List Spoken) → faults_back ss ≡ faults_by (map uttered ss)
unfolding faults_back faults_by
faults-back [] = refl
faults-back (s ∷ ss) = rw (faults-back ss)

-- The first of two faults: of two that are told one after the other.
abbrev pub or_else : Judgement → Judgement → Judgement
or_else j k = if is_good j then k otherwise j

or_assoc : (i j k : Judgement) → or_else (or_else i j) k ≡ or_else i (or_else j k)
unfolding if◌then◌otherwise◌
or_assoc Good j k = refl
or_assoc (WrongFooter at) j k = refl
or_assoc (WrongSum at) j k = refl
or_assoc UnfitLength j k = refl
or_assoc WrongFirst j k = refl

pub or-good : (j : Judgement) → or_else j Good ≡ j
unfolding if◌then◌otherwise◌
or-good Good = refl
or-good (WrongFooter at) = refl
or-good (WrongSum at) = refl
or-good UnfitLength = refl
or-good WrongFirst = refl

-- One list after another.
pub said-append : (us vs : List Utterance) → said_by (us ++ vs) ≡ said_by us ++ said_by vs
unfolding said_by
said-append [] vs = refl
said-append (u ∷ us) vs = rw (said-append us vs, append_assoc)

pub frames-append : (us vs : List Utterance) → frames_by (us ++ vs) ≡ frames_by us + frames_by vs
unfolding frames_by
frames-append [] vs = omega arith
frames-append (u ∷ us) vs = omega (arith, frames-append us vs)

pub faults-append : (us vs : List Utterance) → faults_by (us ++ vs) ≡ faults_by us ++ faults_by vs
unfolding faults_by
faults-append [] vs = refl
faults-append (u ∷ us) vs = rw (faults-append us vs, append_assoc)

first-joined : (j : Judgement) (js : List Judgement) → first_fault (fault_if_bad j ++ js) ≡ or_else j (first_fault js)
unfolding first_fault if◌then◌otherwise◌
first-joined Good js = refl
first-joined (WrongFooter at) js = refl
first-joined (WrongSum at) js = refl
first-joined UnfitLength js = refl
first-joined WrongFirst js = refl

pub first-append : (us vs : List Utterance) → first_fault (faults_by (us ++ vs)) ≡ or_else (first_fault (faults_by us)) (first_fault (faults_by vs))
unfolding faults_by first_fault if◌then◌otherwise◌
first-append [] vs = refl
first-append (u ∷ us) vs =
    first-joined u.fault (faults_by (us ++ vs)) ∙ ap (or_else u.fault) (first-append us vs) ∙ sym (or_assoc u.fault _ _)
    ∙ ap (λ (j : Judgement). or_else j (first_fault (faults_by vs))) (sym (first-joined u.fault (faults_by us)))

-- Silence says nothing.
pub record Silent (us : List Utterance) : Type 0 where
  pub said : said_by us ≡ []
  pub frames : frames_by us ≡ 0
  pub faults : faults_by us ≡ []

pub silence-says : (n : ℕ) → Silent (replicate n silence)
unfolding said_by frames_by faults_by if◌then◌otherwise◌
silence-says zero = record { said = refl; frames = refl; faults = refl }
silence-says (suc n) = let r = silence-says n in record { said = r.said; frames = omega (arith, r.frames); faults = r.faults }

-- How the engine's sums grow from s to t by these utterances.
pub record Tells (s : Stand) (us : List Utterance) (t : Stand) : Type 0 where
  pub said : t.said ≡ s.said ++ said_by us
  pub frames : t.frames ≡ s.frames + frames_by us
  pub faults : t.faults ≡ s.faults + length (faults_by us)
  pub first : t.first ≡ or_else s.first (first_fault (faults_by us))

pub tells-append : {r s t : Stand} (us vs : List Utterance) → Tells r us s → Tells s vs t → Tells r (us ++ vs) t
tells-append {r} {s} {t} us vs a b =
    record {
      said = b.said ∙ rw (a.said, said-append us vs, append_assoc);
      frames = b.frames ∙ rw (a.frames, frames-append us vs) (omega arith);
      faults = b.faults ∙ rw (a.faults, faults-append us vs, length-append) (omega arith);
      first =
          b.first ∙ ap (λ (j : Judgement). or_else j (first_fault (faults_by vs))) a.first ∙ or_assoc r.first _ _
          ∙ ap (or_else r.first) (sym (first-append us vs));
    }

-- Nothing is said, and the sums stay.
pub tells-silent : {s t : Stand} (us : List Utterance) → Silent us → t.said ≡ s.said → t.frames ≡ s.frames → t.faults ≡ s.faults → t.first ≡ s.first → Tells s us t
unfolding first_fault
tells-silent {s} {t} us q a b c d =
    record {
      said = a ∙ rw (q.said, append-nil);
      frames = b ∙ rw q.frames (omega arith);
      faults = c ∙ rw q.faults (omega arith);
      first = d ∙ rw q.faults (sym (or-good s.first));
    }

-- One utterance.
pub tells-one : {s t : Stand} (u : Utterance) → t.said ≡ s.said ++ u.bytes → t.frames ≡ s.frames + frame_count u.answer
    → t.faults ≡ (if is_good u.fault then s.faults otherwise s.faults + 1) → t.first ≡ or_else s.first u.fault → Tells s (u ∷ []) t
unfolding said_by frames_by faults_by first_fault if◌then◌otherwise◌
tells-one {s} {t} u a b c d =
    record {
      said = a ∙ rw append-nil;
      frames = omega arith;
      faults = c ∙ go (is_good u.fault);
      first = d ∙ ap (or_else s.first) (sym (first-joined u.fault [] ∙ or-good u.fault));
    }
  where
    go : (v : Bool) → (if v then s.faults otherwise s.faults + 1) ≡ s.faults + length ((if v then [] otherwise u.fault ∷ []) ++ [])
    go true = omega arith
    go false = omega arith

-- What is told after silence.
pub tells-after : {s t : Stand} (us vs : List Utterance) → Silent us → Tells s (us ++ vs) t → Tells s vs t
tells-after {s} {t} us vs q a =
    let e : faults_by (us ++ vs) ≡ faults_by vs = faults-append us vs ∙ rw q.faults in
    record {
      said = a.said ∙ rw (said-append us vs, q.said);
      frames = a.frames ∙ rw (frames-append us vs, q.frames) (omega arith);
      faults = a.faults ∙ rw e;
      first = a.first ∙ rw e;
    }
