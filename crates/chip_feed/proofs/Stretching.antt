-- A stretch of bytes that are only added to what is collected, in the loop over all: each is a step that answers nothing.
-- Assumes nothing.
use mathlib.Core.Bool.{Bool, false, true}
use mathlib.Core.List.{List, [], ◌∷◌}
use mathlib.Core.Path.{◌∙◌, ◌≡◌, ap, refl, subst, sym}
use Prim.Native.Nat.{◌+◌, ◌-◌, ◌<◌, ◌≤◌, suc, zero, ℕ}
use native.Mathlib.Numerals.{add-one}
use native.Mathlib.Omega.{arith}
use lib.Dec.{eqb}
use lib.ListN.{drop, get_or, length, take}
use lib.Seq.{drop-cons}
use borrow.Author.Tests.{eqb-true}
use Rattle.chip.proofs.Adding.{added-at, after, byte-heard, len-heard, still-accepted, verdict_at}
use Rattle.chip_feed.proofs.Feeding.{FedFrom, fed-turn}
use Rattle.chip.specs.Run.{before}
use Rattle.chip_feed.specs.Feed.{Feeding, feed_from}
use Rattle.chip_feed.specs.Inner.Turn.{added_next}
use Rattle.chip.specs.Step.{Outcome, step_of}
use Rattle.chip_state.specs.declared.Chip.{Chip}
use Rattle.chip.specs.declared.Event.TheVariants.{Byte}
use Rattle.chip_core.specs.Effect.{Memory}
use Rattle.frame.proofs.Laws.Collector.{added-count, added_more, added_none, added-places}
use Rattle.frame.proofs.Laws.Frame.{Lacks, lacks}
use Rattle.frame.specs.Collector.{added}
use Rattle.frame.specs.Frame.{counted, lacking_of}
use Rattle.frame.specs.declared.collector.Collector.{Collector}
use Rattle.part.specs.declared.Part.{Part}
use Rattle.std.specs.Prelude.{Ok}
use Rattle.words.specs.Words.{if◌then◌otherwise◌}

-- The loop over a stretch: what the bytes still to come make of it stays the same.
any-answer : {p : Part} {bs : List ℕ} {i : ℕ} {o : Outcome} {t : Feeding} → FedFrom p bs i o t → i < length bs → FedFrom p bs i (before o.chip o.memory o.room) t
unfolding feed_from
any-answer {p} {bs} {i} {o} {t} f h =
    record { rest = ap (λ (x : List ℕ). feed_from p i x (before o.chip o.memory o.room)) (drop-cons bs i 0 h) ∙ (rw (drop-cons bs i 0 h) at f.rest) }

abbrev stretched : Chip → List ℕ → Chip
stretched c bs = record { core = c.core; collector = added c.collector bs }

take-most : (m : ℕ) (l : List ℕ) → length (take m l) ≤ m
take-most zero l = omega arith
take-most (suc m) [] = omega arith
take-most (suc m) (x ∷ xs) = omega (arith, take-most m xs)

stretch-fed : (p : Part) (bs : List ℕ) (k i : ℕ) (c : Chip) (m : Memory) (room : List ℕ) (t : Feeding) → FedFrom p bs i (before c m room) t
    → length c.collector.bytes ≡ 260 → counted (get_or c.collector.bytes 1 0) ≤ 256 → verdict_at p c m room ≡ Ok tt → 2 ≤ c.collector.len
    → c.collector.len + k ≤ counted (get_or c.collector.bytes 1 0) + 3 → i + k ≤ length bs
    → FedFrom p bs (i + k) (before (stretched c (take k (drop i bs))) m room) t
stretch-fed p bs zero i c m room t f l s a h n r =
    subst (λ (z : Collector). FedFrom p bs (i + 0) (before (record { core = c.core; collector = z }) m room) t) (sym (added_none c.collector l (omega arith)))
    (subst (λ (j : ℕ). FedFrom p bs j (before c m room) t) (omega arith) f)
stretch-fed p bs (suc k) i c m room t f l s a h n r =
    let b = get_or bs i 0 in
    let z = take k (drop (i + 1) bs) in
    let e : before (after c b) m room ≡ step_of p c (Byte b) m room = byte-heard p c m room l a h (omega arith) b in
    let g : FedFrom p bs (i + 1) (before (after c b) m room) t = fed-turn f e (omega arith) refl (omega arith) in
    let v : verdict_at p (after c b) m room ≡ (Ok tt) = still-accepted p c m room l a h (omega arith) b s in
    let q : get_or (added c.collector (b ∷ [])).bytes 1 0 ≡ get_or c.collector.bytes 1 0 = added-at p c m room l a h (omega arith) 1 b (omega arith) in
    let w : counted (get_or (added c.collector (b ∷ [])).bytes 1 0) ≡ counted (get_or c.collector.bytes 1 0) = ap counted q in
    let o : (added c.collector (b ∷ [])).len ≡ c.collector.len + 1 = added-count c.collector (b ∷ []) l (omega arith) in
    let x : FedFrom p bs (i + 1 + k) (before (stretched (after c b) z) m room) t =
    stretch-fed p bs k (i + 1) (after c b) m room t g (added-places c.collector (b ∷ []) l (omega arith)) (omega arith) v (omega (arith, o)) (omega (arith, o, w)) (omega arith) in
    let y : take (suc k) (drop i bs) ≡ b ∷ z = rw (drop-cons bs i 0 (omega arith), add-one) in
    let u : added (added c.collector (b ∷ [])) z ≡ added c.collector (take (suc k) (drop i bs)) =
    added_more c.collector (b ∷ []) z l (omega (arith, take-most k (drop (i + 1) bs))) ∙ ap (added c.collector) (sym y) in
    subst (λ (j : ℕ). FedFrom p bs j (before (stretched c (take (suc k) (drop i bs))) m room) t) (omega arith)
    (subst (λ (d : Collector). FedFrom p bs (i + 1 + k) (before (record { core = c.core; collector = d }) m room) t) u x)

the-part : (i k : ℕ) → i + k - i ≡ k
the-part i k = omega arith

-- How many bytes a turn takes: the LEN byte, or as many as the frame begun lacks.
pub data Takes (count len rest n : ℕ) : Type 0 where
  the_len : count ≡ 1 → n ≡ 1 → 0 < rest → Takes count len rest n
  the_rest : Lacks count len rest n → Takes count len rest n

takes : (count len rest n : ℕ) → 0 < rest → n ≡ added_next count len rest → 0 < n → Takes count len rest n
unfolding added_next if◌then◌otherwise◌
takes count len rest n r e h = go (eqb count 1) refl e
  where
    go : (t : Bool) → eqb count 1 ≡ t → n ≡ (if t then 1 otherwise lacking_of count len rest) → Takes count len rest n
    go true t e = the_len (eqb-true count 1 t) e r
    go false t e = the_rest (lacks count len rest n e h)

pub takes-there : (count len rest n : ℕ) → 0 < rest → n ≡ added_next count len rest → 0 < n → n ≤ rest
takes-there count len rest n r e h = go (takes count len rest n r e h)
  where
    go : Takes count len rest n → n ≤ rest
    go (the_len c o q) = omega arith
    go (the_rest x) = x.there

one-taken : (bs : List ℕ) (i k : ℕ) → k ≡ 1 → i < length bs → take (i + k - i) (drop i bs) ≡ get_or bs i 0 ∷ []
one-taken bs i k e h = let n : i + k - i ≡ 1 = omega arith in rw (n, drop-cons bs i 0 h)

-- A turn of the loop that takes bytes that are only added.
pub fed-stretch : {p : Part} {bs : List ℕ} {i : ℕ} {o : Outcome} {t : Feeding} (k : ℕ) (d : Collector) → FedFrom p bs i o t → length o.chip.collector.bytes ≡ 260
    → counted (get_or o.chip.collector.bytes 1 0) ≤ 256 → verdict_at p o.chip o.memory o.room ≡ Ok tt
    → k ≡ added_next o.chip.collector.len (get_or o.chip.collector.bytes 1 0) (length bs - i) → 0 < k → i < length bs
    → d ≡ added o.chip.collector (take (i + k - i) (drop i bs))
    → FedFrom p bs (i + k) (before (record { core = o.chip.core; collector = d }) o.memory o.room) t
fed-stretch {p} {bs} {i} {o} {t} k d f l s a e h q g = go (takes _ _ (length bs - i) k (omega arith) e h)
  where
    go : Takes o.chip.collector.len (get_or o.chip.collector.bytes 1 0) (length bs - i) k
        → FedFrom p bs (i + k) (before (record { core = o.chip.core; collector = d }) o.memory o.room) t
    go (the_len c n r) =
        let b = get_or bs i 0 in
        let y : d ≡ added o.chip.collector (b ∷ []) = g ∙ ap (added o.chip.collector) (one-taken bs i k n q) in
        let x : FedFrom p bs (i + 1) (before (after o.chip b) o.memory o.room) t =
        fed-turn (any-answer f q) (len-heard p o.chip o.memory o.room l a c b) q refl (omega arith) in
        subst (λ (j : ℕ). FedFrom p bs j (before (record { core = o.chip.core; collector = d }) o.memory o.room) t) (omega arith)
        (subst (λ (z : Collector). FedFrom p bs (i + 1) (before (record { core = o.chip.core; collector = z }) o.memory o.room) t) (sym y) x)
    go (the_rest x) =
        subst (λ (z : Collector). FedFrom p bs (i + k) (before (record { core = o.chip.core; collector = z }) o.memory o.room) t)
        (sym (g ∙ ap (λ (j : ℕ). added o.chip.collector (take j (drop i bs))) (the-part i k)))
        (stretch-fed p bs k i o.chip o.memory o.room t (any-answer f q) l s a x.begun x.short (omega (arith, x.there)))
