-- Laws of a stretch of bytes: how far a loop over it has come, and how many bytes are taken.
-- Assumes nothing.
use mathlib.Core.Bool.{Bool, false, true}
use mathlib.Core.List.{List, [], ◌∷◌}
use mathlib.Core.Path.{◌∙◌, ◌≡◌, ap, refl, sym}
use Prim.Native.Nat.{◌+◌, ◌<◌, ◌≤◌, ℕ}
use native.Mathlib.Numerals.{add-one}
use native.Mathlib.Omega.{arith}
use lib.Dec.{eqb}
use lib.ListN.{drop, drop_of_length-le, get_or, length}
use lib.Seq.{drop-cons}
use borrow.Author.Tests.{eq-eqb, ne_eqb}
use Rattle.chip.proofs.Saying.{Fitting, none-fits, step_fits}
use Rattle.chip.specs.Run.{before, onward}
use Rattle.chip.specs.Step.{Outcome, step_of}
use Rattle.chip_reply.specs.Reply.{sent_as}
use Rattle.chip_reply.specs.declared.Sent.{Sent}
use Rattle.std.specs.Prelude.{Err, Ok, Result}
use Rattle.chip.specs.declared.Event.TheVariants.{Byte}
use Rattle.chip_core.specs.Effect.{Memory}
use Rattle.chip_feed.specs.Feed.{Feeding, fed_on, feed_from, feed_of, feeding}
use Rattle.chip_state.specs.declared.Chip.{Chip}
use Rattle.part.specs.Part.{Arrays}
use Rattle.part.specs.declared.Part.{Part}
use Rattle.part.specs.declared.refusal.Refusal.{Refusal}
use Rattle.words.specs.Words.{if◌then◌otherwise◌}

-- How far a loop over bytes has come: t is what the bytes still to come make of o.
pub record FedFrom (p : Part) (bs : List ℕ) (i : ℕ) (o : Outcome) (t : Feeding) : Type 0 where
  pub rest : feed_from p i (drop i bs) o ≡ t

pub fed-start : (p : Part) (bs : List ℕ) (o : Outcome) → FedFrom p bs 0 o (feed_of p bs o)
unfolding feed_of
fed-start p bs o = record { rest = refl }

-- A stretch of bytes: none, or one byte, its answer's way on, and the rest.
pub feed-is : (p : Part) (bs : List ℕ) (o : Outcome) → feed_of p bs o ≡ feed_from p 0 bs o
unfolding feed_of
feed-is p bs o = refl

pub feed-none : (p : Part) (n : ℕ) (o : Outcome) → feed_from p n [] o ≡ feeding n o
unfolding feed_from
feed-none p n o = refl

pub feed-next : (p : Part) (n b : ℕ) (bs : List ℕ) (o : Outcome)
    → feed_from p n (b ∷ bs) o ≡ fed_on (onward p o (Byte b)).answer n (onward p o (Byte b)) (feed_from p (n + 1) bs (onward p o (Byte b)))
unfolding feed_from
feed-next p n b bs o = refl

-- One byte more, and its answer's way on.
fed-byte : (p : Part) (bs : List ℕ) (i : ℕ) (o x : Outcome) (t : Feeding) → FedFrom p bs i o t → x ≡ step_of p o.chip (Byte (get_or bs i 0)) o.memory o.room
    → i < length bs → fed_on x.answer i x (feed_from p (i + 1) (drop (i + 1) bs) x) ≡ t
unfolding feed_from
fed-byte p bs i o x t f e h = rw (e, add-one) (rw (drop-cons bs i 0 h, add-one) at f.rest)

pub on-silent : (a : Result Sent Refusal) (i n k : ℕ) (x : Outcome) (rest : Feeding) → a ≡ Ok (sent_as n k) → k ≤ 0 → fed_on a i x rest ≡ rest
unfolding fed_on if◌then◌otherwise◌
on-silent a i n k x rest e z = rw (e, eq-eqb k 0 (omega arith))

pub on-said : (a : Result Sent Refusal) (i n k : ℕ) (x : Outcome) (rest : Feeding) → a ≡ Ok (sent_as n k) → 0 < k → feeding (i + 1) x ≡ fed_on a i x rest
unfolding fed_on if◌then◌otherwise◌
on-said a i n k x rest e z = rw (e, ne_eqb k 0 (λ q. omega arith))

pub on-refused : (a : Result Sent Refusal) (i : ℕ) (r : Refusal) (x : Outcome) (rest : Feeding) → a ≡ Err r → feeding i x ≡ fed_on a i x rest
unfolding fed_on
on-refused a i r x rest e = rw e

-- An outcome whose answer has been looked at.
pub looked-at : {x : Outcome} {a : Result Sent Refusal} → x.answer ≡ a → ◌≡◌ {A = Outcome} (record { answer = a; fault = x.fault; chip = x.chip; memory = x.memory; room = x.room }) x
looked-at {x} {a} e = ap (λ (z : Result Sent Refusal). record { answer = z; fault = x.fault; chip = x.chip; memory = x.memory; room = x.room }) (sym e)

pub fed-turn : {p : Part} {bs : List ℕ} {i n k : ℕ} {o x : Outcome} {t : Feeding} → FedFrom p bs i o t → x ≡ step_of p o.chip (Byte (get_or bs i 0)) o.memory o.room
    → i < length bs → x.answer ≡ Ok (sent_as n k) → k ≤ 0 → FedFrom p bs (i + 1) x t
fed-turn {p} {bs} {i} {n} {k} {o} {x} {t} f e h a z = record { rest = sym (on-silent x.answer i n k x _ a z) ∙ fed-byte p bs i o x t f e h }

pub fed-said : {p : Part} {bs : List ℕ} {i n k : ℕ} {o x : Outcome} {t : Feeding} → FedFrom p bs i o t → x ≡ step_of p o.chip (Byte (get_or bs i 0)) o.memory o.room
    → i < length bs → x.answer ≡ Ok (sent_as n k) → 0 < k → feeding (i + 1) x ≡ t
fed-said {p} {bs} {i} {n} {k} {o} {x} {t} f e h a z = on-said x.answer i n k x _ a z ∙ fed-byte p bs i o x t f e h

pub fed-refused : {p : Part} {bs : List ℕ} {i : ℕ} {r : Refusal} {o x : Outcome} {t : Feeding} → FedFrom p bs i o t
    → x ≡ step_of p o.chip (Byte (get_or bs i 0)) o.memory o.room → i < length bs → x.answer ≡ Err r → feeding i x ≡ t
fed-refused {p} {bs} {i} {r} {o} {x} {t} f e h a = on-refused x.answer i r x _ a ∙ fed-byte p bs i o x t f e h

pub fed-end : {p : Part} {bs : List ℕ} {i : ℕ} {o : Outcome} {t : Feeding} → FedFrom p bs i o t → length bs ≤ i → feeding i o ≡ t
unfolding feed_from
fed-end {p} {bs} {i} {o} {t} f h = rw (drop_of_length-le bs h) at f.rest

-- How many bytes are taken: none twice, none that is not there, and at least one where there is one and it is not refused.
on-taken : (a : Result Sent Refusal) (n h : ℕ) (x : Outcome) (rest : Feeding) → n < h → n + 1 ≤ rest.taken → rest.taken ≤ h
    → (n ≤ (fed_on a n x rest).taken) × ((fed_on a n x rest).taken ≤ h)
unfolding fed_on if◌then◌otherwise◌
on-taken (Err r) n h x rest l u v = (omega arith, omega arith)
on-taken (Ok sent) n h x rest l u v = go (eqb sent.frames 0)
  where
    go : (t : Bool) → (n ≤ (if t then rest otherwise feeding (n + 1) x).taken) × ((if t then rest otherwise feeding (n + 1) x).taken ≤ h)
    go true = (omega arith, v)
    go false = (omega arith, omega arith)

pub feed-within : (p : Part) (n : ℕ) (bs : List ℕ) (o : Outcome) → (n ≤ (feed_from p n bs o).taken) × ((feed_from p n bs o).taken ≤ n + length bs)
unfolding feed_from
feed-within p n [] o = (omega arith, omega arith)
feed-within p n (b ∷ bs) o =
    let i = feed-within p (n + 1) bs (onward p o (Byte b)) in
    on-taken (onward p o (Byte b)).answer n (n + length (b ∷ bs)) (onward p o (Byte b)) (feed_from p (n + 1) bs (onward p o (Byte b))) (omega arith) i.0 (omega (arith, i.1))

on-takes : (a : Result Sent Refusal) (n m k : ℕ) (x : Outcome) (rest : Feeding) → x.answer ≡ a → n + 1 ≤ rest.taken → (fed_on a n x rest).left.answer ≡ Ok (sent_as m k)
    → n + 1 ≤ (fed_on a n x rest).taken
unfolding fed_on if◌then◌otherwise◌
on-takes (Err r) n m k x rest e u q = absurd (let z : ◌≡◌ {A = ℕ} 0 1 = cc in omega arith)
on-takes (Ok sent) n m k x rest e u q = go (eqb sent.frames 0)
  where
    go : (t : Bool) → n + 1 ≤ (if t then rest otherwise feeding (n + 1) x).taken
    go true = u
    go false = omega arith

pub feed-takes : (p : Part) (n m k b : ℕ) (bs : List ℕ) (o : Outcome) → (feed_from p n (b ∷ bs) o).left.answer ≡ Ok (sent_as m k) → n + 1 ≤ (feed_from p n (b ∷ bs) o).taken
unfolding feed_from
feed-takes p n m k b bs o q =
    on-takes (onward p o (Byte b)).answer n m k (onward p o (Byte b)) (feed_from p (n + 1) bs (onward p o (Byte b))) refl
    (feed-within p (n + 1) bs (onward p o (Byte b))).0 q

-- What a stretch says lies in the room, as what a step says does.
fed-on-fits : (a : Result Sent Refusal) (n : ℕ) (x : Outcome) (rest : Feeding) → Fitting x.answer (length x.room) → Fitting rest.left.answer (length rest.left.room)
    → Fitting (fed_on a n x rest).left.answer (length (fed_on a n x rest).left.room)
unfolding fed_on if◌then◌otherwise◌
fed-on-fits (Err r) n x rest f g = f
fed-on-fits (Ok sent) n x rest f g = go (eqb sent.frames 0)
  where
    go : (t : Bool) → Fitting (if t then rest otherwise feeding (n + 1) x).left.answer (length (if t then rest otherwise feeding (n + 1) x).left.room)
    go true = g
    go false = f

feed-from-fits : (p : Part) (n : ℕ) (bs : List ℕ) (o : Outcome) → Arrays p → Fitting o.answer (length o.room)
    → Fitting (feed_from p n bs o).left.answer (length (feed_from p n bs o).left.room)
unfolding feed_from
feed-from-fits p n [] o a f = f
feed-from-fits p n (b ∷ bs) o a f =
    let g = step_fits p o.chip (Byte b) o.memory o.room a in
    fed-on-fits _ n _ _ g (feed-from-fits p (n + 1) bs (onward p o (Byte b)) a g)

pub feed-fits : (p : Part) (bs : List ℕ) (c : Chip) (m : Memory) (room : List ℕ) → Arrays p
    → Fitting (feed_of p bs (before c m room)).left.answer (length (feed_of p bs (before c m room)).left.room)
unfolding feed_of
feed-fits p bs c m room a = feed-from-fits p 0 bs (before c m room) a (none-fits (length room))
