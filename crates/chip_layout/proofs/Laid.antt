-- Laws about what is written where a state lies: whatever is collected, the first 25 bytes of a state and its last are written back the same, so a new count, or one byte more,
-- is all that a gap or a byte that is only added changes; and what an accepted or refused call may rely on.
-- Assumes nothing.
use mathlib.Core.Bool.{Bool, false, true}
use mathlib.Core.List.{List, [], ◌++◌, ◌∷◌, append_assoc}
use mathlib.Core.Path.{◌∙◌, ◌≡◌, ap, refl, sym}
use Prim.Native.Nat.{◌%◌, ◌+◌, ◌-◌, ◌/◌, ◌<◌, ◌≤◌, suc, zero, ℕ}
use native.Mathlib.Omega.{arith}
use lib.Dec.{eqb}
use lib.ListN.{drop, get_or, length, length-append, length-drop, replicate, set, take, take-append-drop}
use lib.Seq.{drop-cons, drop-drop, drop-length, get_or-drop, get_or-take, length-take-le, set-append_left, take-add}
use borrow.Author.Tests.{eqb-true, le-ltb, leb-true, lt-ltb, ltb-true, ne_eqb}
use Rattle.chip_core.specs.declared.Awaited.{Awaited}
use Rattle.chip_layout.specs.Admission.{chip_acceptance, chip_acceptance_by, chip_admission}
use Rattle.chip_layout.specs.InPlace.{byte_laid, count_laid, is_added}
use Rattle.chip_layout.specs.Layout.{awaited_held, awaited_of, chip_bytes, chip_in, collector_in, core_in, head_of, is_state, nothing_awaited, phase_in, phase_number, state_size}
use Rattle.chip_options.proofs.Laws.{option-bytes, options-back}
use Rattle.chip_options.specs.Options.{option_bytes, options_in}
use Rattle.chip_options.specs.declared.Options.{Options}
use Rattle.chip_state.specs.Refusals.{verdict_on}
use Rattle.frame.proofs.Laws.Collector.{added-leaves, dropped-leaves}
use Rattle.frame.proofs.Laws.Frame.{counted-small, lacks}
use Rattle.frame.proofs.Laws.Sum.{Below, below_at}
use Rattle.frame.specs.Collector.{added, collecting, dropped}
use Rattle.frame.specs.Frame.{lacking_of}
use Rattle.frame.specs.declared.collector.Collector.{Collector}
use Rattle.lent.proofs.Laws.{all-is}
use Rattle.lent.specs.Lent.{all_are}
use Rattle.std.specs.Prelude.{Err, Ok}
use Rattle.numbers.proofs.Laws.{bit_is, low-2, low-long, low-number, number-4, number-8, number-below}
use Rattle.numbers.specs.Numbers.{bit, low_first, number_at}
use Rattle.part.specs.declared.Part.{Part}
use Rattle.part.specs.declared.refusal.Refusal.{Refusal}
use Rattle.words.proofs.Laws.{and_left, and_right}
use Rattle.words.specs.Words.{◌from◌to◌, ◌or◌, if◌then◌otherwise◌}

-- In phases 1 to 3 nothing is awaited, in bytes as in the record.
abbrev NothingAwaited : List ℕ → Type 0
NothingAwaited bs = all_are 0x00 (take 17 (drop 8 bs)) ≡ true

no_difference : (n : ℕ) → n ≡ 0 → false ≡ eqb n 1
no_difference n e = rw e

zeros-at : (n i : ℕ) → ◌≡◌ {A = ℕ} (get_or (replicate n 0) i 0) 0
zeros-at zero i = refl
zeros-at (suc n) zero = refl
zeros-at (suc n) (suc i) = zeros-at n i

zero-at : (bs : List ℕ) (i : ℕ) → NothingAwaited bs → 8 ≤ i → i < 25 → get_or bs i 0 ≡ 0
zero-at bs i e h k =
    let x : 8 + (i - 8) ≡ i = omega arith in
    ap (λ (j : ℕ). get_or bs j 0) (sym x) ∙ sym (get_or-drop 8 bs (i - 8) 0) ∙ sym (get_or-take 17 (drop 8 bs) (i - 8) 0 (omega arith))
    ∙ ap (λ (l : List ℕ). get_or l (i - 8) 0) (all-is 0x00 (take 17 (drop 8 bs)) e) ∙ zeros-at (length (take 17 (drop 8 bs))) (i - 8)

zero-4 : (bs : List ℕ) (at : ℕ) → NothingAwaited bs → 8 ≤ at → at + 4 ≤ 25 → number_at 4 at bs ≡ 0
zero-4 bs at e h k =
    let i : get_or bs at 0 ≡ 0 = zero-at bs at e h (omega arith) in
    let j : get_or bs (at + 1) 0 ≡ 0 = zero-at bs (at + 1) e (omega arith) (omega arith) in
    let l : get_or bs (at + 2) 0 ≡ 0 = zero-at bs (at + 2) e (omega arith) (omega arith) in
    let m : get_or bs (at + 3) 0 ≡ 0 = zero-at bs (at + 3) e (omega arith) (omega arith) in
    omega (arith, number-4 at bs)

zero-8 : (bs : List ℕ) (at : ℕ) → NothingAwaited bs → 8 ≤ at → at + 8 ≤ 25 → number_at 8 at bs ≡ 0
zero-8 bs at e h k = omega (arith, number-8 at bs, zero-4 bs at e h (omega arith), zero-4 bs (at + 4) e (omega arith) (omega arith))

none-awaited : (bs : List ℕ) → NothingAwaited bs → get_or bs 293 0 ≡ 0 → nothing_awaited ≡ awaited_held bs
unfolding awaited_held
none-awaited bs e z =
    ap (λ (x : ℕ). record { command = x; next = 0; last = 0; differed = false }) (sym (zero-at bs 8 e (omega arith) (omega arith)))
    ∙ ap (λ (x : ℕ). record { command = get_or bs 8 0; next = x; last = 0; differed = false }) (sym (zero-8 bs 9 e (omega arith) (omega arith)))
    ∙ ap (λ (x : ℕ). record { command = get_or bs 8 0; next = number_at 8 9 bs; last = x; differed = false }) (sym (zero-8 bs 17 e (omega arith) (omega arith)))
    ∙ ap (λ (b : Bool). record { command = get_or bs 8 0; next = number_at 8 9 bs; last = number_at 8 17 bs; differed = b }) (no_difference (get_or bs 293 0) z)

-- A phase from 1 to 4 is written back, and so is what it awaits.
phase-back : (n : ℕ) (w : Awaited) → 1 ≤ n → n ≤ 4 → phase_number (phase_in n w) ≡ n
unfolding phase_in if◌then◌otherwise◌
phase-back zero w h k = absurd (omega arith)
phase-back (suc zero) w h k = refl
phase-back (suc (suc zero)) w h k = refl
phase-back (suc (suc (suc zero))) w h k = refl
phase-back (suc (suc (suc (suc zero)))) w h k = refl
phase-back (suc (suc (suc (suc (suc n))))) w h k = absurd (omega arith)

awaited-back : (n : ℕ) (w : Awaited) → 1 ≤ n → n ≤ 4 → ((n ≡ 4 → ⊥) → nothing_awaited ≡ w) → awaited_of (phase_in n w) ≡ w
unfolding phase_in if◌then◌otherwise◌
awaited-back zero w h k e = absurd (omega arith)
awaited-back (suc zero) w h k e = e (λ x. omega arith)
awaited-back (suc (suc zero)) w h k e = e (λ x. omega arith)
awaited-back (suc (suc (suc zero))) w h k e = e (λ x. omega arith)
awaited-back (suc (suc (suc (suc zero)))) w h k e = refl
awaited-back (suc (suc (suc (suc (suc n))))) w h k e = absurd (omega arith)

-- Pieces that are equal, joined.
joined : {a b c d e f : List ℕ} → a ≡ b → c ≡ d → e ≡ f → a ++ c ++ e ≡ b ++ d ++ f
joined p q r = cc

three-taken : (a b c : ℕ) (bs : List ℕ) → take a bs ++ take b (drop a bs) ++ take c (drop (a + b) bs) ≡ take (a + b + c) bs
three-taken a b c bs = sym (take-add (a + b) c bs ∙ ap (λ (l : List ℕ). l ++ take c (drop (a + b) bs)) (take-add a b bs))

-- The six bytes of the options: which options they are, by what reading them back says.
abbrev options_held : List ℕ → Options
options_held bs = record { flags = get_or bs 0 0; boot = get_or bs 1 0; start = number_at 2 2 bs; end = number_at 2 4 bs }

first_two : (bs : List ℕ) → 2 ≤ length bs → get_or bs 0 0 ∷ get_or bs 1 0 ∷ [] ≡ take 2 bs
first_two [] h = absurd (omega arith)
first_two (a ∷ []) h = absurd (omega arith)
first_two (a ∷ b ∷ bs) h = refl

two_back : (bs : List ℕ) (at : ℕ) → ((i : ℕ) → get_or bs i 0 < 256) → at + 2 ≤ length bs
    → number_at 2 at bs % 256 ∷ number_at 2 at bs / 256 % 256 ∷ [] ≡ take 2 (drop at bs)
two_back bs at each h = sym (low-2 (number_at 2 at bs)) ∙ low-number 2 at bs each h

held_bytes_lem : (bs : List ℕ) → ((i : ℕ) → get_or bs i 0 < 256) → 6 ≤ length bs → option_bytes (options_held bs) ≡ take 6 bs
held_bytes_lem bs each h =
    option-bytes (options_held bs)
    ∙ joined (first_two bs (omega arith)) (two_back bs 2 each (omega arith)) (two_back bs 4 each (omega arith))
    ∙ three-taken 2 2 2 bs

held-options : (bs : List ℕ) → ((i : ℕ) → get_or bs i 0 < 256) → 6 ≤ length bs → options_in bs ≡ options_held bs
held-options bs each h =
    ap options_in (sym (take-append-drop 6 bs)) ∙ ap (λ (l : List ℕ). options_in (l ++ drop 6 bs)) (sym (held_bytes_lem bs each h))
    ∙ options-back (options_held bs) (drop 6 bs) (number-below 2 2 bs each) (number-below 2 4 bs each)

three-at : (bs : List ℕ) → 9 ≤ length bs → drop 6 bs ≡ get_or bs 6 0 ∷ get_or bs 7 0 ∷ get_or bs 8 0 ∷ drop 9 bs
three-at bs h =
    drop-cons bs 6 0 (omega arith)
    ∙ ap (λ (l : List ℕ). get_or bs 6 0 ∷ l) (drop-cons bs 7 0 (omega arith) ∙ ap (λ (l : List ℕ). get_or bs 7 0 ∷ l) (drop-cons bs 8 0 (omega arith)))

head-back : (bs : List ℕ) (q cmd : ℕ) → ((i : ℕ) → get_or bs i 0 < 256) → 9 ≤ length bs → q ≡ get_or bs 7 0 → cmd ≡ get_or bs 8 0
    → head_of (options_in bs) (get_or bs 6 0) q cmd ≡ take 9 bs
unfolding head_of
head-back bs q cmd each h e f =
    ap (λ (o : Options). option_bytes o ++ (get_or bs 6 0 ∷ q ∷ cmd ∷ [])) (held-options bs each (omega arith))
    ∙ ap (λ (l : List ℕ). l ++ (get_or bs 6 0 ∷ q ∷ cmd ∷ [])) (held_bytes_lem bs each (omega arith))
    ∙ ap (λ (x : ℕ). take 6 bs ++ (get_or bs 6 0 ∷ x ∷ cmd ∷ [])) e
    ∙ ap (λ (x : ℕ). take 6 bs ++ (get_or bs 6 0 ∷ get_or bs 7 0 ∷ x ∷ [])) f
    ∙ sym (take-add 6 3 bs ∙ ap (λ (l : List ℕ). take 6 bs ++ take 3 l) (three-at bs h))

-- The last byte.
last-back : (bs : List ℕ) (w : Awaited) → length bs ≡ state_size → get_or bs 293 0 ≤ 1 → w ≡ awaited_held bs → bit w.differed ∷ [] ≡ drop 293 bs
unfolding awaited_held
last-back bs w h k e =
    ap (λ (x : Awaited). bit x.differed ∷ []) e ∙ ap (λ (x : ℕ). x ∷ []) (bit_is (get_or bs 293 0) k)
    ∙ sym (drop-cons bs 293 0 (omega arith) ∙ ap (λ (l : List ℕ). get_or bs 293 0 ∷ l) (ap (λ (n : ℕ). drop n bs) (sym h) ∙ drop-length bs))

pieces : (bs : List ℕ) (w : Awaited) (q n : ℕ) (cs : List ℕ) → ((i : ℕ) → get_or bs i 0 < 256) → length bs ≡ state_size → get_or bs 293 0 ≤ 1 → w ≡ awaited_held bs
    → q ≡ get_or bs 7 0
    → head_of (options_in bs) (get_or bs 6 0) q w.command ++ low_first 8 w.next ++ low_first 8 w.last ++ low_first 8 n ++ cs ++ bit w.differed ∷ []
    ≡ take 25 bs ++ low_first 8 n ++ cs ++ drop 293 bs
unfolding awaited_held
pieces bs w q n cs each h g e f =
    let next : low_first 8 w.next ≡ take 8 (drop 9 bs) = ap (λ (x : Awaited). low_first 8 x.next) e ∙ low-number 8 9 bs each (omega arith) in
    let last : low_first 8 w.last ≡ take 8 (drop 17 bs) = ap (λ (x : Awaited). low_first 8 x.last) e ∙ low-number 8 17 bs each (omega arith) in
    ap (λ (l : List ℕ). l ++ low_first 8 n ++ cs ++ bit w.differed ∷ [])
    (joined (head-back bs q w.command each (omega arith) f (ap (λ (x : Awaited). x.command) e)) next last ∙ three-taken 9 8 8 bs)
    ∙ ap (λ (l : List ℕ). take 25 bs ++ low_first 8 n ++ cs ++ l) (last-back bs w h g e)

-- Whatever is collected, the first 25 bytes and the last are written back the same.
pub laid-anew : (bs : List ℕ) (n : ℕ) (cs : List ℕ) → Below 256 bs → length bs ≡ state_size → is_state bs ≡ true
    → chip_bytes (record { core = core_in bs; collector = collecting cs n }) ≡ take 25 bs ++ low_first 8 n ++ cs ++ drop 293 bs
unfolding is_state chip_bytes ◌from◌to◌ ◌or◌
laid-anew bs n cs b long e =
    let range = and_left _ _ e in
    let back = and_right _ _ e in
    let low : 1 ≤ get_or bs 7 0 = leb-true _ _ (and_left _ _ range) in
    let high : get_or bs 7 0 ≤ 4 = leb-true _ _ (and_right _ _ range) in
    let bound : get_or bs 293 0 ≤ 1 = leb-true _ _ (and_left _ _ back) in
    let kind = and_right _ _ back in
    let w : awaited_of (phase_in (get_or bs 7 0) (awaited_held bs)) ≡ awaited_held bs =
    awaited-back (get_or bs 7 0) (awaited_held bs) low high
    (λ x. let none = or-else (ne_eqb _ _ x) kind in none-awaited bs (and_left _ _ none) (eqb-true _ _ (and_right _ _ none))) in
    pieces bs (awaited_of (phase_in (get_or bs 7 0) (awaited_held bs))) (phase_number (phase_in (get_or bs 7 0) (awaited_held bs))) n cs (λ i. below_at i (omega arith) b) long bound w
    (phase-back (get_or bs 7 0) (awaited_held bs) low high)
  where
    or-else : {t u : Bool} → t ≡ false → t or u ≡ true → u ≡ true
    or-else {t} {u} f e = sym (ap (λ (x : Bool). x or u) f) ∙ e

-- What is collected, as it stands in the bytes, and what stands from there on.
abbrev held_bytes : List ℕ → List ℕ
held_bytes bs = take 260 (drop 33 bs)

collected-is : (bs : List ℕ) → collector_in bs ≡ collecting (held_bytes bs) (number_at 8 25 bs)
unfolding collector_in
collected-is bs = refl

held_on : (bs : List ℕ) → held_bytes bs ++ drop 293 bs ≡ drop 33 bs
held_on bs = ap (λ (l : List ℕ). held_bytes bs ++ l) (sym (drop-drop 260 33 bs)) ∙ take-append-drop 260 (drop 33 bs)

pub collected-long : (bs : List ℕ) → length bs ≡ state_size → length (collector_in bs).bytes ≡ 260
unfolding collector_in
collected-long bs h = length-take-le 260 (drop 33 bs) (rw length-drop (omega arith))

collector-laid : (bs : List ℕ) (c : Collector) (n : ℕ) (cs : List ℕ) → Below 256 bs → length bs ≡ state_size → is_state bs ≡ true → c ≡ collecting cs n
    → take 25 bs ++ low_first 8 n ++ (cs ++ drop 293 bs) ≡ chip_bytes (record { core = core_in bs; collector = c })
collector-laid bs c n cs b h e f =
    sym (ap (λ (x : Collector). chip_bytes (record { core = core_in bs; collector = x })) f ∙ laid-anew bs n cs b h e
    ∙ append_assoc (take 25 bs ++ low_first 8 n) cs (drop 293 bs))

-- A gap: only the count is new.
pub gap-laid : (bs : List ℕ) → Below 256 bs → length bs ≡ state_size → is_state bs ≡ true
    → count_laid 0 bs ≡ chip_bytes (record { core = core_in bs; collector = dropped (collector_in bs) })
unfolding count_laid
gap-laid bs b h e =
    ap (λ (l : List ℕ). take 25 bs ++ low_first 8 0 ++ l) (sym (held_on bs))
    ∙ collector-laid bs (dropped (collector_in bs)) 0 (held_bytes bs) b h e (ap dropped (collected-is bs) ∙ dropped-leaves (collecting (held_bytes bs) (number_at 8 25 bs)))

-- A byte that is only added: the count and that byte.
set_after : (xs ys : List ℕ) (n i b : ℕ) → length xs ≡ n → set (xs ++ ys) (n + i) b ≡ xs ++ set ys i b
set_after [] ys n i b h = let z : n + i ≡ i = omega arith in ap (λ (j : ℕ). set ys j b) z
set_after (x ∷ xs) ys zero i b h = absurd (omega arith)
set_after (x ∷ xs) ys (suc n) i b h =
    let z : suc n + i ≡ suc (n + i) = omega arith in
    ap (λ (j : ℕ). set (x ∷ (xs ++ ys)) j b) z ∙ ap (λ (l : List ℕ). x ∷ l) (set_after xs ys n i b (omega arith))

byte_put : (b : ℕ) (bs : List ℕ) → number_at 8 25 bs < 260 → byte_laid b bs ≡ set (count_laid (number_at 8 25 bs + 1) bs) (33 + number_at 8 25 bs) b
unfolding byte_laid if◌then◌otherwise◌
byte_put b bs h = simp (lt-ltb (number_at 8 25 bs) 260 h)

pub byte-laid : (bs : List ℕ) (b : ℕ) → Below 256 bs → length bs ≡ state_size → is_state bs ≡ true → number_at 8 25 bs < 260
    → byte_laid b bs ≡ chip_bytes (record { core = core_in bs; collector = added (collector_in bs) (b ∷ []) })
unfolding count_laid
byte-laid bs b w h e k =
    let n : ℕ = number_at 8 25 bs in
    let x : length (take 25 bs ++ low_first 8 (n + 1)) ≡ 33 = rw (length-append, length-take-le 25 bs (omega arith), low-long 8 (n + 1)) in
    let l : length (held_bytes bs) ≡ 260 = length-take-le 260 (drop 33 bs) (rw length-drop (omega arith)) in
    let s : set (drop 33 bs) n b ≡ set (held_bytes bs) n b ++ drop 293 bs =
    ap (λ (y : List ℕ). set y n b) (sym (held_on bs)) ∙ set-append_left (held_bytes bs) (drop 293 bs) n b (omega arith) in
    byte_put b bs k ∙ set_after (take 25 bs ++ low_first 8 (n + 1)) (drop 33 bs) 33 n b x ∙ ap (λ (y : List ℕ). take 25 bs ++ low_first 8 (n + 1) ++ y) s
    ∙ collector-laid bs (added (collector_in bs) (b ∷ [])) (n + 1) (set (held_bytes bs) n b) w h e
    (ap (λ (c : Collector). added c (b ∷ [])) (collected-is bs) ∙ added-leaves (collecting (held_bytes bs) n) b l k)

-- Where the next byte is only added, there is a place for it, and the frame begun lacks it.
pub added-within : (bs : List ℕ) → Below 256 bs → is_added bs ≡ true → number_at 8 25 bs < 260
unfolding is_added
added-within bs b e =
    let h : 0 < lacking_of (number_at 8 25 bs) (get_or bs 34 0) 1 = ltb-true _ _ e in
    omega (arith, h, (lacks (number_at 8 25 bs) (get_or bs 34 0) 1 _ refl h).short, counted-small (get_or bs 34 0) (below_at 34 (omega arith) b))

pub added-lacks : (bs : List ℕ) → is_added bs ≡ true → 0 < lacking_of (collector_in bs).len (get_or (collector_in bs).bytes 1 0) 1
unfolding is_added collector_in
added-lacks bs e = rw (get_or-take 260 (drop 33 bs) 1 0 (omega arith), get_or-drop 33 bs 1 0) (ltb-true _ _ e)

-- As the code writes: the count copied to its place, and the byte stored.
pub count-copied : (s c : List ℕ) (n : ℕ) → c ≡ low_first 8 n → take 25 s ++ (c ++ drop 8 (drop 25 s)) ≡ count_laid n s
unfolding count_laid
count-copied s c n e = rw (e, drop-drop 8 25 s, append_assoc)

pub byte-stored : (s l : List ℕ) (n b : ℕ) → l ≡ count_laid (n + 1) s → n ≡ number_at 8 25 s → n < 260 → set l (33 + n) b ≡ byte_laid b s
byte-stored s l n b e f h =
    ap (λ (x : List ℕ). set x (33 + n) b) e ∙ ap (λ (i : ℕ). set (count_laid (i + 1) s) (33 + i) b) f ∙ sym (byte_put b s (omega arith))

pub byte_left : (s : List ℕ) (n b : ℕ) → n ≡ number_at 8 25 s → 260 ≤ n → s ≡ byte_laid b s
unfolding byte_laid if◌then◌otherwise◌
byte_left s n b e h = simp (le-ltb (number_at 8 25 s) 260 (omega arith))

-- A verdict before the chip is asked is the call's; otherwise it is the chip's.
pub refused-before : (p : Part) (state : List ℕ) (code «data» room : ℕ) (r : Refusal) → chip_admission p state code «data» ≡ Err r
    → chip_acceptance p state code «data» room ≡ Err r
unfolding chip_acceptance chip_acceptance_by
refused-before p state code «data» room r e = rw e

pub left-to-chip : (p : Part) (state : List ℕ) (code «data» room : ℕ) → chip_admission p state code «data» ≡ Ok tt
    → chip_acceptance p state code «data» room ≡ verdict_on p (chip_in state) code «data» room
unfolding chip_acceptance chip_acceptance_by
left-to-chip p state code «data» room e = rw e
