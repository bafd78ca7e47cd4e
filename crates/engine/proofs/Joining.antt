-- A frame that the chip holds the begin of: the bytes that follow are joined to those held, as far as the longest frame reaches.
-- Assumes nothing.
use mathlib.Core.Bool.{Bool, false, true}
use mathlib.Core.List.{List, [], ◌++◌, ◌∷◌}
use mathlib.Core.Path.{◌∙◌, ◌≡◌, ap, refl, subst, sym}
use Prim.Native.Nat.{◌+◌, ◌-◌, ◌<◌, ◌≤◌, suc, zero, ℕ}
use native.Mathlib.Decide.{dec_lt}
use native.Mathlib.Omega.{arith}
use lib.Dec.{ltb}
use lib.ListN.{get_or-append, drop, get_or, length, length-append, take, take-append-drop}
use lib.Seq.{drop-append-add, get_or-take, length-take-le, take_all, take-append-add, take_at, take-take}
use borrow.Author.Tests.{ltb-false, ltb-true}
use Rattle.chip_core.specs.Hearing.{hearing}
use Rattle.chip_core.specs.declared.Core.{Core}
use Rattle.chip_core.specs.declared.Hearing.{Hearing}
use Rattle.chip_state.proofs.Laws.{FrontFor, accepts, front-for, good-within, state-collected}
use Rattle.chip_state.proofs.Laws as state
use Rattle.chip_state.specs.Refusals.{verdict_on}
use Rattle.chip_state.specs.declared.Chip.{Chip}
use Rattle.engine.proofs.Fronts.{front-command, front-data, front-holds, front-whole}
use Rattle.engine.proofs.Turns.{complete-long, play-on, turn-whole}
use Rattle.engine.specs.Engine.{Stand, after_frame, front_of, facing, played_out}
use Rattle.engine.specs.declared.Front.TheVariants.{Held, Whole}
use Rattle.engine.specs.Inner.Answering.{whole_of}
use Rattle.frame.proofs.Laws.Collector.{complete-is, heard-at, heard-is, length-heard}
use Rattle.frame.proofs.Laws.Frame.{counted-some, full-yes}
use Rattle.frame.specs.Collector.{heard}
use Rattle.frame.specs.Frame.{complete, counted, full}
use Rattle.frame.specs.declared.Header.TheVariants.{Command, Data}
use Rattle.frame.specs.declared.collector.Collector.{Collector}
use Rattle.lent.proofs.Laws.{Written, written-put}
use Rattle.lent.specs.Lent.{left, put_of}
use Rattle.lent.specs.declared.Short.{Short}
use Rattle.std.specs.Prelude.{Ok, Result}
use Rattle.part.specs.declared.Part.{Part}
use Rattle.words.specs.Words.{if◌then◌otherwise◌}

-- A part is lent from its start.
pub from_start : (n : ℕ) (l : List ℕ) → take (n - 0) l ≡ take n l
from_start n l = let e : n - 0 ≡ n = omega arith in ap (λ (j : ℕ). take j l) e

-- How much is joined: all that there is, or as much as the longest frame takes.
pub record Joins (count n k : ℕ) : Type 0 where
  pub there : k ≤ n
  pub placed : count + k ≤ 260
  pub enough : count + k < 260 → n ≡ k

pub joins : (count n k : ℕ) → k ≡ (if ltb n (260 - count) then n otherwise 260 - count) → count ≤ 260 → Joins count n k
unfolding if◌then◌otherwise◌
joins count n k e h = go (ltb n (260 - count)) refl e
  where
    go : (t : Bool) → ltb n (260 - count) ≡ t → k ≡ (if t then n otherwise 260 - count) → Joins count n k
    go true t e = let l : n < 260 - count = ltb-true n (260 - count) t in record { there = omega arith; placed = omega arith; enough = λ q. sym e }
    go false t e = let l : 260 - count ≤ n = ltb-false n (260 - count) t in record { there = omega arith; placed = omega arith; enough = λ q. absurd (omega arith) }

heard-lies : (c : Collector) → c.len ≤ length c.bytes → Written (heard c) c.bytes c.bytes
heard-lies c h =
    let n : length (heard c) ≡ c.len = length-heard c h in
    record { is = sym (ap (λ (x : List ℕ). x ++ drop (length (heard c)) c.bytes) (heard-is c) ∙ ap (λ (x : ℕ). take c.len c.bytes ++ drop x c.bytes) n ∙ take-append-drop c.len c.bytes); room = omega arith; long = refl }

pub joined_is : (c : Collector) (bs l : List ℕ) (k : ℕ) (a : Result Unit Short) → length c.bytes ≡ 260 → c.len + k ≤ 260 → k ≤ length bs → left a l ≡ put_of c.bytes c.len (take k bs)
    → take (c.len + k) l ≡ heard c ++ take k bs
joined_is c bs l k a h p t e =
    let n : length (heard c) ≡ c.len = length-heard c (omega arith) in
    let m : length (take k bs) ≡ k = length-take-le k bs t in
    let w : Written (heard c ++ take k bs) c.bytes l = written-put c.len (take k bs) (heard-lies c (omega arith)) e (sym n) (omega arith) in
    let j : length (heard c ++ take k bs) ≡ c.len + k = length-append (heard c) (take k bs) ∙ omega arith in
    ap (take (c.len + k)) w.is ∙ take_at (heard c ++ take k bs) _ (c.len + k) j

whole_is : (xs : List ℕ) → complete xs ≡ true → whole_of xs ≡ counted (get_or xs 1 0) + 4
unfolding whole_of if◌then◌otherwise◌
whole_is xs e = rw e

pub joined-ahead : (c : Collector) (bs l : List ℕ) (k : ℕ) (a : Result Unit Short) → length c.bytes ≡ 260 → c.len ≤ 260 → Joins c.len (length bs) k
    → left a l ≡ put_of c.bytes c.len (take k bs) → take (c.len + k) l ≡ take 260 (heard c ++ bs)
joined-ahead c bs l k a h p j e =
    let n : length (heard c) ≡ c.len = length-heard c (omega arith) in
    let m : length (heard c ++ bs) ≡ c.len + length bs = length-append (heard c) bs ∙ omega arith in
    joined_is c bs l k a h j.placed j.there e ∙ sym (ap (λ (i : ℕ). take (i + k) (heard c ++ bs)) (sym n) ∙ take-append-add (heard c) bs k) ∙ go n m (dec_lt (c.len + k) 260)
  where
    go : length (heard c) ≡ c.len → length (heard c ++ bs) ≡ c.len + length bs → Dec (c.len + k < 260) → take (c.len + k) (heard c ++ bs) ≡ take 260 (heard c ++ bs)
    go n m (yes q) = take_all (c.len + k) (heard c ++ bs) (omega (arith, j.enough q)) ∙ sym (take_all 260 (heard c ++ bs) (omega (arith, j.enough q)))
    go n m (no q) = let i : c.len + k ≡ 260 = omega (arith, j.placed) in ap (λ (i : ℕ). take i (heard c ++ bs)) i

-- Whether a frame is whole can be told from as many bytes as the longest frame has.
wholes : (xs ys : List ℕ) → complete xs ≡ complete ys → get_or xs 1 0 ≡ get_or ys 1 0 → whole_of xs ≡ whole_of ys
unfolding whole_of
wholes xs ys e f = rw (e, f)

full_at : (n x : ℕ) → counted x ≤ 256 → 260 ≤ n → full n x ≡ true
full_at n x c h = full-yes n x (omega arith) (omega arith)

pub whole-joined : (xs : List ℕ) → counted (get_or (take 260 xs) 1 0) ≤ 256 → whole_of (take 260 xs) ≡ whole_of xs
whole-joined xs c = go (dec_lt (length xs) 260)
  where
    go : Dec (length xs < 260) → whole_of (take 260 xs) ≡ whole_of xs
    go (yes k) = ap whole_of (take_all 260 xs (omega arith))
    go (no k) =
        let f : get_or (take 260 xs) 1 0 ≡ get_or xs 1 0 = get_or-take 260 xs 1 0 (omega arith) in
        let m : length (take 260 xs) ≡ 260 = length-take-le 260 xs (omega arith) in
        let d : counted (get_or xs 1 0) ≤ 256 = rw (← f) c in
        wholes (take 260 xs) xs (complete-is (take 260 xs) ∙ full_at _ _ c (omega arith) ∙ sym (full_at _ _ d (omega arith)) ∙ sym (complete-is xs)) f

pub whole_long : (xs : List ℕ) (m : ℕ) → m ≡ whole_of xs → (m ≡ 0 → ⊥) → (m ≤ length xs) × (m ≡ counted (get_or xs 1 0) + 4)
unfolding whole_of if◌then◌otherwise◌
whole_long xs m e z = go (complete xs) refl e
  where
    go : (t : Bool) → complete xs ≡ t → m ≡ (if t then counted (get_or xs 1 0) + 4 otherwise 0) → (m ≤ length xs) × (m ≡ counted (get_or xs 1 0) + 4)
    go true t e = (omega (arith, complete-long xs t), e)
    go false t e = absurd (z e)

take-most : (n : ℕ) (xs : List ℕ) → length (take n xs) ≤ n
take-most zero xs = omega arith
take-most (suc n) [] = omega arith
take-most (suc n) (x ∷ xs) = omega (arith, take-most n xs)

none-whole : (xs : List ℕ) → 0 ≡ whole_of xs → counted (get_or xs 1 0) ≤ 256 → length xs < 260
none-whole xs e c = go (dec_lt (length xs) 260)
  where
    go : Dec (length xs < 260) → length xs < 260
    go (yes k) = k
    go (no k) = absurd (let z = sym (whole_is xs (complete-is xs ∙ full_at _ _ c (omega arith))) ∙ sym e in omega arith)

-- What a chip that is accepted holds, where it holds anything, is the front of a frame that is awaited.
pub held-front : (p : Part) (c : Chip) (code d : ℕ) → verdict_on p c code d 32 ≡ Ok tt → (c.collector.len ≡ 0 → ⊥)
    → FrontFor (hearing c.core.phase) c.collector.len (get_or c.collector.bytes 0 0) (get_or c.collector.bytes 1 0)
held-front p c code d a z =
    front-for (hearing c.core.phase) _ _ _ (omega arith) (state-collected p c.core _ _ _ (hearing c.core.phase) (accepts a).state refl)

pub held-within : (p : Part) (c : Chip) (code d : ℕ) → verdict_on p c code d 32 ≡ Ok tt → c.collector.len < 260
held-within p c code d a = good-within (hearing c.core.phase) _ _ _ (state-collected p c.core _ _ _ (hearing c.core.phase) (accepts a).state refl)

-- With more bytes behind it that front is held, or the frame is whole.
front-held : (f : Hearing) (n head len : ℕ) (xs : List ℕ) (m : ℕ) → FrontFor f n head len → 1 ≤ length xs → get_or xs 0 0 ≡ head → m ≡ whole_of xs → m ≡ 0 → front_of f xs ≡ Held
front-held f n head len xs m (state.of_command x) l e v z = sym (front-command f xs refl (λ q. omega arith)) ∙ sym (front-holds Command xs m (e ∙ x.heads) v z)
front-held f n head len xs m (state.of_data {w} x) l e v z = sym (front-data f w xs refl (λ q. omega arith)) ∙ sym (front-holds Data xs m (e ∙ x.heads) v z)

front-wholly : (f : Hearing) (n head len : ℕ) (xs : List ℕ) (m : ℕ) → FrontFor f n head len → 1 ≤ length xs → get_or xs 0 0 ≡ head → m ≡ whole_of xs → (m ≡ 0 → ⊥)
    → front_of f xs ≡ Whole m
front-wholly f n head len xs m (state.of_command x) l e v z = sym (front-command f xs refl (λ q. omega arith)) ∙ sym (front-whole Command xs m (e ∙ x.heads) v z)
front-wholly f n head len xs m (state.of_data {w} x) l e v z = sym (front-data f w xs refl (λ q. omega arith)) ∙ sym (front-whole Data xs m (e ∙ x.heads) v z)

-- A whole frame is longer than what was held of it.
lacking-of : (f : Hearing) (n head len : ℕ) → FrontFor f n head len → full n len ≡ false
lacking-of f n head len (state.of_command x) = x.lacks
lacking-of f n head len (state.of_data x) = x.lacks

longer : (f : Hearing) (n head len m x : ℕ) → FrontFor f n head len → (2 ≤ n → x ≡ len) → m ≡ counted x + 4 → n < m
longer f n head len m x h e w = go (dec_lt n m)
  where
    go : Dec (n < m) → n < m
    go (yes k) = k
    go (no k) =
        let s : 1 ≤ counted x = counted-some x in
        let l : x ≡ len = e (omega arith) in
        let c : counted x ≡ counted len = ap counted l in
        absurd (let z : ◌≡◌ {A = Bool} true false = sym (full-yes n len (omega arith) (omega arith)) ∙ lacking-of f n head len h in let y : ◌≡◌ {A = ℕ} 0 1 = cc in omega arith)

-- The bytes held with those that follow lie ahead, and in the array l as far as the longest frame reaches; n is how long the frame is that lies whole there.
module _ (p : Part) (c : Chip) (bs l : List ℕ) (e n code d : ℕ) (accepted : verdict_on p c code d 32 ≡ Ok tt) (places : length c.collector.bytes ≡ 260)
    (some : c.collector.len ≡ 0 → ⊥) (laid : take e l ≡ take 260 (heard c.collector ++ bs)) (placed : e ≤ 260) (whole : n ≡ whole_of (take e l))
    (counts : counted (get_or (take e l) 1 0) ≤ 256) where
  abbrev ahead : List ℕ
  ahead = heard c.collector ++ bs

  within : c.collector.len < 260
  within = held-within p c code d accepted

  heard-long : length (heard c.collector) ≡ c.collector.len
  heard-long = length-heard c.collector (omega (arith, within))

  long : length ahead ≡ c.collector.len + length bs
  long = length-append (heard c.collector) bs ∙ omega (arith, heard-long)

  whole-ahead : n ≡ whole_of ahead
  whole-ahead = whole ∙ ap whole_of laid ∙ whole-joined ahead (rw (← laid) counts)

  front : FrontFor (hearing c.core.phase) c.collector.len (get_or c.collector.bytes 0 0) (get_or c.collector.bytes 1 0)
  front = held-front p c code d accepted some

  byte_of : (i : ℕ) → i < c.collector.len → get_or ahead i 0 ≡ get_or c.collector.bytes i 0
  byte_of i h = get_or-append (heard c.collector) bs 0 i (omega (arith, heard-long)) ∙ heard-at c.collector i h

  -- No frame is whole: all is held.
  all_short : n ≡ 0 → length (take e l) < 260
  all_short z = none-whole (take e l) (sym z ∙ whole) counts

  all-joined : n ≡ 0 → take e l ≡ ahead
  all-joined z = laid ∙ go (dec_lt (length ahead) 260)
    where
      go : Dec (length ahead < 260) → take 260 ahead ≡ ahead
      go (yes k) = take_all 260 ahead (omega arith)
      go (no k) = absurd (let j : length (take e l) ≡ 260 = ap length laid ∙ length-take-le 260 ahead (omega arith) in omega (arith, all_short z))

  all_held : n ≡ 0 → front_of (hearing c.core.phase) ahead ≡ Held
  all_held z = front-held _ _ _ _ ahead n front (omega (arith, long)) (byte_of 0 (omega arith)) whole-ahead z

  -- A frame is whole: it is longer than what was held, and it is answered first.
  whole-past : (n ≡ 0 → ⊥) → (c.collector.len < n) × (n ≤ e) × (n ≤ c.collector.len + length bs)
  whole-past z =
      let w = whole_long ahead n whole-ahead z in
      let v = whole_long (take e l) n whole z in
      (longer _ _ _ _ n (get_or ahead 1 0) front (λ h. byte_of 1 (omega arith)) w.1, omega (arith, v.0, take-most e l), omega (arith, w.0, long))

  frame_is : (z : n ≡ 0 → ⊥) → take n ahead ≡ take n l
  frame_is z = let w = whole-past z in sym (take-take n 260 ahead (omega (arith, w.1))) ∙ ap (take n) (sym laid) ∙ take-take n e l w.1

  rest-is : (z : n ≡ 0 → ⊥) → drop n ahead ≡ drop (n - c.collector.len) bs
  rest-is z =
      let w = whole-past z in
      let j : n ≡ length (heard c.collector) + (n - c.collector.len) = omega (arith, heard-long, w.0) in
      ap (λ (i : ℕ). drop i ahead) j ∙ drop-append-add (heard c.collector) bs (n - c.collector.len)

  resumes : (z : n ≡ 0 → ⊥) (s : Stand) → s.core ≡ c.core
      → played_out p (facing ahead s) ≡ played_out p (facing (drop (n - c.collector.len) bs) (after_frame p (take n l) s))
  resumes z s q =
      let f : front_of (hearing s.core.phase) ahead ≡ Whole n =
      ap (λ (k : Core). front_of (hearing k.phase) ahead) q ∙ front-wholly _ _ _ _ ahead n front (omega (arith, long)) (byte_of 0 (omega arith)) whole-ahead z in
      play-on p (facing ahead s) ∙ ap (played_out p) (turn-whole p (facing ahead s) n f)
      ∙ ap (λ (y : List ℕ). played_out p (facing (drop n ahead) (after_frame p y s))) (frame_is z)
      ∙ ap (λ (y : List ℕ). played_out p (facing y (after_frame p (take n l) s))) (rest-is z)

-- All of it.
pub record Joined (p : Part) (c : Chip) (bs l : List ℕ) (e n : ℕ) : Type 0 where
  pub short : n ≡ 0 → length (take e l) < 260
  pub none : n ≡ 0 → take e l ≡ heard c.collector ++ bs
  pub holds : n ≡ 0 → front_of (hearing c.core.phase) (heard c.collector ++ bs) ≡ Held
  pub past : (n ≡ 0 → ⊥) → (c.collector.len < n) × (n ≤ e) × (n ≤ c.collector.len + length bs)
  pub on : (n ≡ 0 → ⊥) → (s : Stand) → s.core ≡ c.core
      → played_out p (facing (heard c.collector ++ bs) s) ≡ played_out p (facing (drop (n - c.collector.len) bs) (after_frame p (take n l) s))

pub joined : (p : Part) (c : Chip) (bs l : List ℕ) (e n code d : ℕ) → verdict_on p c code d 32 ≡ Ok tt → length c.collector.bytes ≡ 260
    → (c.collector.len ≡ 0 → ⊥) → take e l ≡ take 260 (heard c.collector ++ bs) → e ≤ 260 → n ≡ whole_of (take (e - 0) l) → counted (get_or (take (e - 0) l) 1 0) ≤ 256
    → Joined p c bs l e n
joined p c bs l e n code d a b o t k w v =
    let i = w ∙ ap whole_of (from_start e l) in
    let j = subst (λ (x : List ℕ). counted (get_or x 1 0) ≤ 256) (from_start e l) v in
    record {
      short = all_short p c bs l e n code d a b o t k i j;
      none = all-joined p c bs l e n code d a b o t k i j;
      holds = all_held p c bs l e n code d a b o t k i j;
      past = whole-past p c bs l e n code d a b o t k i j;
      on = resumes p c bs l e n code d a b o t k i j;
    }
