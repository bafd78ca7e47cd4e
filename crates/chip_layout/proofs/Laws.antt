-- Laws about the layout: the six pieces of a state; what an admitted call may rely on; what a verdict on it reads, and what the verdict's number says.
-- Assumes nothing.
use mathlib.Core.Bool.{not, true}
use mathlib.Core.List.{List, [], ◌++◌, ◌∷◌}
use mathlib.Core.Path.{◌∙◌, ◌≡◌, ap, refl, sym}
use Prim.Native.Nat.{◌+◌, ◌<◌, ◌≤◌, ℕ}
use native.Mathlib.Omega.{arith}
use lib.Dec.{eqb, ltb}
use lib.ListN.{drop, get_or, length, length-append, set, take}
use lib.Seq.{get_or-drop, get_or-take}
use borrow.Author.Tests.{eqb-true, not-false}
use Rattle.chip_state.proofs.Laws.{verdict-bare, verdict-left}
use Rattle.chip_state.specs.Refusals.{good_state, handed_with, verdict_of, verdict_on}
use Rattle.chip_state.specs.declared.Chip.{Chip}
use Rattle.chip_state.specs.declared.Handed.{Handed}
use Rattle.chip_layout.specs.Admission.{acceptance_number, chip_acceptance, chip_acceptance_by, chip_admission}
use Rattle.chip_layout.specs.Layout.{awaited_of, chip_in, collector_in, core_in, head_of, is_state, chip_bytes, phase_number, state_size}
use Rattle.chip_core.specs.declared.Awaited.{Awaited}
use Rattle.chip_core.specs.declared.Core.{Core}
use Rattle.numbers.proofs.Laws.{low-long}
use Rattle.numbers.specs.Numbers.{bit, low_first, number_at}
use Rattle.lent.proofs.Laws.{Written, part-put, written_byte, written-full, written-put, written_start}
use Rattle.std.specs.Prelude.{Err, Ok, Result}
use Rattle.chip_options.proofs.Laws.{option-bytes}
use Rattle.chip_options.specs.declared.Options.{Options}
use Rattle.part.proofs.Laws.{described-bare, number-some, passed, row_ends, row-goes-on, size-bare}
use Rattle.part.specs.Part.{bare, described, size}
use Rattle.part.specs.Refusal.{Condition, ◌when◌, first_of, number}
use Rattle.part.specs.declared.Area.TheVariants.{CodeFlash, DataFlash}
use Rattle.part.specs.declared.Part.{Part}
use Rattle.part.specs.declared.refusal.Refusal.{Refusal}
use Rattle.part.specs.declared.refusal.Refusal.TheVariants.{BadPart, BadState, CodeLength, DataLength, ShortRoom}

head-long : (o : Options) (rate phase cmd : ℕ) → length (head_of o rate phase cmd) ≡ 9
unfolding head_of
head-long o rate phase cmd = rw (option-bytes o)

-- A stretch of k bytes copied over those from a place on.
abbrev copied : ℕ → ℕ → List ℕ → List ℕ → List ℕ
copied at k l s = take at l ++ (s ++ drop k (drop at l))

written-copied : {w r l : List ℕ} (at k : ℕ) (s : List ℕ) → Written w r l → at ≡ length w → length s ≡ k → at + k ≤ length r → Written (w ++ s) r (copied at k l s)
written-copied {w} {r} {l} at k s p e n h = written-put at s p (part-put l at k s (omega (arith, p.long)) n) e (omega arith)

-- The pieces of a state, copied one after the other, are the state.
pub layout_is : (c : Chip) (w : Awaited) (q z : ℕ) (r first next last count bytes : List ℕ) → w ≡ awaited_of c.core.phase → q ≡ phase_number c.core.phase
    → first ≡ head_of c.core.options c.core.rate q w.command → next ≡ low_first 8 w.next → last ≡ low_first 8 w.last → count ≡ low_first 8 c.collector.len
    → bytes ≡ c.collector.bytes → z ≡ bit w.differed → length r ≡ state_size → length c.collector.bytes ≡ 260
    → set (copied 33 260 (copied 25 8 (copied 17 8 (copied 9 8 (first ++ drop 9 r) next) last) count) bytes) 293 z ≡ chip_bytes c
unfolding chip_bytes
layout_is c w q z r first next last count bytes A B g h i j k D P x =
    let G : length first ≡ 9 = ap length g ∙ head-long _ _ _ _ in
    let H : length next ≡ 8 = ap length h ∙ low-long 8 _ in
    let I : length last ≡ 8 = ap length i ∙ low-long 8 _ in
    let J : length count ≡ 8 = ap length j ∙ low-long 8 _ in
    let X : length bytes ≡ 260 = ap length k ∙ x in
    let K : Written first r (first ++ drop 9 r) = written-copied 0 9 first (written_start r) refl G (omega arith) in
    let L = written-copied 9 8 next K (omega arith) H (omega arith) in
    let M = written-copied 17 8 last L (simp length-append (omega arith)) I (omega arith) in
    let N = written-copied 25 8 count M (simp length-append (omega arith)) J (omega arith) in
    let O = written-copied 33 260 bytes N (simp length-append (omega arith)) X (omega arith) in
    let S = written_byte 293 z O (simp length-append (omega arith)) (omega arith) in
    rw (← A, ← B, ← g, ← h, ← i, ← j, ← k, ← D) (written-full S (simp length-append (omega arith)))

-- A call that is accepted has a state.
admitted : (p : Part) (state : List ℕ) (code «data» : ℕ) → chip_admission p state code «data» ≡ Ok tt → is_state state ≡ true
unfolding chip_admission
admitted p state code «data» e =
    let f = passed _ _ (passed _ _ (passed _ _ (passed _ _ e).rest).rest).rest in
    not-false _ f.not-held

settling : (v : Result Unit Refusal) (p : Part) (state : List ℕ) (code «data» room : ℕ) → chip_acceptance_by v p state code «data» room ≡ Ok tt → v ≡ Ok tt
unfolding chip_acceptance_by
settling (Err r) p state code «data» room e = e
settling (Ok _) p state code «data» room e = refl

pub accepted-admission : (p : Part) (state : List ℕ) (code «data» room : ℕ) → chip_acceptance p state code «data» room ≡ Ok tt → chip_admission p state code «data» ≡ Ok tt
unfolding chip_acceptance
accepted-admission p state code «data» room e = settling (chip_admission p state code «data») p state code «data» room e

pub accepted-admits : (p : Part) (state : List ℕ) (code «data» room : ℕ) → chip_acceptance p state code «data» room ≡ Ok tt → is_state state ≡ true
accepted-admits p state code «data» room e = admitted p state code «data» (accepted-admission p state code «data» room e)

-- And the chip itself accepts the state that is read.
judged : (v : Result Unit Refusal) (p : Part) (state : List ℕ) (code «data» room : ℕ) → chip_acceptance_by v p state code «data» room ≡ Ok tt
    → verdict_on p (chip_in state) code «data» room ≡ Ok tt
unfolding chip_acceptance_by
judged (Err r) p state code «data» room e = absurd (let z : ◌≡◌ {A = ℕ} 0 1 = cc in omega arith)
judged (Ok _) p state code «data» room e = e

pub chip-accepts : (p : Part) (state : List ℕ) (code «data» room : ℕ) → chip_acceptance p state code «data» room ≡ Ok tt
    → verdict_on p (chip_in state) code «data» room ≡ Ok tt
unfolding chip_acceptance
chip-accepts p state code «data» room e =
    judged (chip_admission p state code «data») p state code «data» room e

-- What is read.
pub chip-in-is : (bs : List ℕ) → chip_in bs ≡ record { core = core_in bs; collector = collector_in bs }
unfolding chip_in
chip-in-is bs = refl

-- The verdict on the chip that is read needs only its record, the count, and two of the collected bytes.
first-collected : (bs : List ℕ) (i : ℕ) → i < 260 → get_or (take 260 (drop 33 bs)) i 0 ≡ get_or bs (33 + i) 0
first-collected bs i h = get_or-take 260 (drop 33 bs) i 0 h ∙ get_or-drop 33 bs i 0

same-handed : (h : Handed) {n i j : ℕ} → h.count ≡ n → h.head ≡ i → h.len ≡ j
    → h ≡ record { count = n; head = i; len = j; code = h.code; «data» = h.«data»; room = h.room }
same-handed h e f g = rw (← e, ← f, ← g)

pub verdict-read : (p : Part) (k : Core) (h : Handed) (state : List ℕ) (v : Result Unit Refusal) → v ≡ verdict_of p k h → k ≡ core_in state
    → h.count ≡ number_at 8 25 state → h.head ≡ get_or state 33 0 → h.len ≡ get_or state 34 0 → v ≡ verdict_on p (chip_in state) h.code h.«data» h.room
unfolding collector_in
verdict-read p k h state v e f g i j =
    let x : h ≡ record { count = number_at 8 25 state; head = get_or state 33 0; len = get_or state 34 0; code = h.code; «data» = h.«data»; room = h.room } = same-handed h g i j in
    rw (chip-in-is state, e, f, first-collected state 0 (omega arith), first-collected state 1 (omega arith)) (ap (verdict_of p (core_in state)) x)

-- What decides a call, in one row: what bars it before the chip is asked, and then the chip's own two.
pub acceptance-row : (p : Part) (state : List ℕ) (code «data» room : ℕ)
    → chip_acceptance p state code «data» room
    ≡ first_of
    (BadPart when not (described p)
    ∷ CodeLength when not (eqb code (size p CodeFlash))
    ∷ DataLength when not (eqb «data» (size p DataFlash))
    ∷ BadState when not (is_state state)
    ∷ BadState when not (good_state p (core_in state) (number_at 8 25 state) (get_or state 33 0) (get_or state 34 0))
    ∷ ShortRoom when ltb room 32
    ∷ [])
unfolding chip_acceptance chip_acceptance_by chip_admission
acceptance-row p state code «data» room = go (chip_admission p state code «data») refl
  where
    bars : List Condition
    bars =
        BadPart when not (described p)
        ∷ CodeLength when not (eqb code (size p CodeFlash))
        ∷ DataLength when not (eqb «data» (size p DataFlash))
        ∷ BadState when not (is_state state)
        ∷ []

    own : List Condition
    own = BadState when not (good_state p (core_in state) (number_at 8 25 state) (get_or state 33 0) (get_or state 34 0)) ∷ ShortRoom when ltb room 32 ∷ []

    handed : Handed
    handed = record { count = number_at 8 25 state; head = get_or state 33 0; len = get_or state 34 0; code = code; «data» = «data»; room = room }

    go : (v : Result Unit Refusal) → first_of bars ≡ v → chip_acceptance_by v p state code «data» room ≡ first_of (bars ++ own)
    go (Err r) e = sym (row_ends bars own r e)
    go (Ok _) e =
        let a = passed _ _ e in
        let b = passed _ _ a.rest in
        let c = passed _ _ b.rest in
        sym (verdict-read p (core_in state) handed state (verdict_of p (core_in state) handed) refl refl refl refl refl)
        ∙ verdict-left p (core_in state) handed (not-false _ a.not-held) (eqb-true _ _ (not-false _ b.not-held)) (eqb-true _ _ (not-false _ c.not-held))
        ∙ sym (row-goes-on bars own e)

-- No name of a part is looked at.
pub admission-bare : (p : Part) (state : List ℕ) (code «data» : ℕ) → chip_admission (bare p) state code «data» ≡ chip_admission p state code «data»
unfolding chip_admission
admission-bare p state code «data» = rw (described-bare p, size-bare p CodeFlash, size-bare p DataFlash)

by_bare : (v : Result Unit Refusal) (p : Part) (state : List ℕ) (code «data» room : ℕ) → chip_acceptance_by v (bare p) state code «data» room ≡ chip_acceptance_by v p state code «data» room
unfolding chip_acceptance_by
by_bare (Err r) p state code «data» room = refl
by_bare (Ok _) p state code «data» room = verdict-bare p (chip_in state).core (handed_with (chip_in state).collector code «data» room)

pub acceptance-bare : (p : Part) (state : List ℕ) (code «data» room : ℕ) → chip_acceptance (bare p) state code «data» room ≡ chip_acceptance p state code «data» room
unfolding chip_acceptance
acceptance-bare p state code «data» room =
    ap (λ (v : Result Unit Refusal). chip_acceptance_by v (bare p) state code «data» room) (admission-bare p state code «data»)
    ∙ by_bare (chip_admission p state code «data») p state code «data» room

-- A number found on the part without its names is the part's.
pub judge-bare : {n : ℕ} {q : Part} (p : Part) (state : List ℕ) (code «data» room : ℕ) → n ≡ acceptance_number (chip_acceptance q state code «data» room) → q ≡ bare p
    → n ≡ acceptance_number (chip_acceptance p state code «data» room)
judge-bare p state code «data» room e f =
    e ∙ ap (λ (x : Part). acceptance_number (chip_acceptance x state code «data» room)) f ∙ ap acceptance_number (acceptance-bare p state code «data» room)

pub refused-number : (r : Refusal) → number r ≡ acceptance_number (Err r)
unfolding acceptance_number
refused-number r = refl

pub accepted-number : 0 ≡ acceptance_number (Ok tt)
unfolding acceptance_number
accepted-number = refl

-- A call with the number 0 is accepted.
accepted-by : (v : Result Unit Refusal) → acceptance_number v ≡ 0 → v ≡ Ok tt
unfolding acceptance_number
accepted-by (Err r) e = absurd (number-some r e)
accepted-by (Ok _) e = refl

pub judged-accepted : {n : ℕ} (p : Part) (state : List ℕ) (code «data» room : ℕ) → n ≡ acceptance_number (chip_acceptance p state code «data» room) → n ≡ 0
    → chip_acceptance p state code «data» room ≡ Ok tt
judged-accepted p state code «data» room e z = accepted-by (chip_acceptance p state code «data» room) (sym e ∙ z)

-- One with another number is refused, and the number is the refusal's.
pub record Numbered (v : Result Unit Refusal) (n : ℕ) : Type 0 where
  pub refusal : Refusal
  pub refused : v ≡ Err refusal
  pub is : n ≡ number refusal

refused-by : {n : ℕ} (v : Result Unit Refusal) → n ≡ acceptance_number v → (n ≡ 0 → ⊥) → Numbered v n
unfolding acceptance_number
refused-by (Err r) e z = record { refusal = r; refused = refl; is = e }
refused-by (Ok _) e z = absurd (z e)

pub judged-refused : {n : ℕ} (p : Part) (state : List ℕ) (code «data» room : ℕ) → n ≡ acceptance_number (chip_acceptance p state code «data» room) → (n ≡ 0 → ⊥)
    → Numbered (chip_acceptance p state code «data» room) n
judged-refused p state code «data» room e z = refused-by (chip_acceptance p state code «data» room) e z

-- Who refuses: the door, before the chip is asked, or the chip.
pub data Refuser (p : Part) (state : List ℕ) (code «data» room : ℕ) (r : Refusal) : Type 0 where
  by_door : chip_admission p state code «data» ≡ Err r → Refuser p state code «data» room r
  by_chip : chip_admission p state code «data» ≡ Ok tt → verdict_on p (chip_in state) code «data» room ≡ Err r → Refuser p state code «data» room r

refuser-by : (v : Result Unit Refusal) (p : Part) (state : List ℕ) (code «data» room : ℕ) (r : Refusal) → chip_admission p state code «data» ≡ v
    → chip_acceptance_by v p state code «data» room ≡ Err r → Refuser p state code «data» room r
unfolding chip_acceptance_by
refuser-by (Err s) p state code «data» room r e f = by_door (e ∙ f)
refuser-by (Ok _) p state code «data» room r e f = by_chip e f

pub refuser : (p : Part) (state : List ℕ) (code «data» room : ℕ) (r : Refusal) → chip_acceptance p state code «data» room ≡ Err r → Refuser p state code «data» room r
unfolding chip_acceptance
refuser p state code «data» room r e = refuser-by (chip_admission p state code «data») p state code «data» room r refl e
