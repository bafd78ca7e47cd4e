-- How far the loop over a line's bytes has come.
-- Assumes nothing.
use mathlib.Core.List.{List, [], ◌++◌, ◌∷◌, append-nil}
use mathlib.Core.Path.{◌∙◌, ◌≡◌, ap, refl, sym}
use Prim.Native.Nat.{◌%◌, ◌*◌, ◌+◌, ◌/◌, ◌<◌, ◌≤◌, suc, ℕ}
use native.Mathlib.Decide.{dec_lt}
use native.Mathlib.Numerals.{add-one}
use native.Mathlib.Omega.{arith}
use lib.ListN.{drop, drop_of_length-le, get_or, length, length-append, set}
use lib.Seq.{append_snoc, drop-cons}
use borrow.Author.Tests.{le-ltb, lt-ltb}
use Rattle.replay_hex.specs.Hex.{digit_of, line_of, separator}
use Rattle.replay_hex.specs.Inner.Places.{separator_at}
use Rattle.lent.proofs.Laws.{Written, put-short, written_byte, written-laid, written_start}
use Rattle.lent.specs.Lent.{left, put_of}
use Rattle.std.specs.Prelude.{Err, Ok}
use Rattle.words.specs.Words.{if◌then◌otherwise◌}

pub line-long : (bs : List ℕ) → length (line_of bs) ≡ 3 * length bs
unfolding line_of
line-long [] = refl
line-long (b ∷ bs) = omega (arith, line-long bs)

-- The mark after a byte is told by what follows it.
mark-is : (bs : List ℕ) (i : ℕ) → i < length bs → separator_at i (length bs) ≡ separator (drop (suc i) bs)
unfolding separator_at separator if◌then◌otherwise◌
mark-is bs i h = go (dec_lt (i + 1) (length bs))
  where
    go : Dec (i + 1 < length bs) → separator_at i (length bs) ≡ separator (drop (suc i) bs)
    go (yes k) = rw (lt-ltb (i + 1) (length bs) k, drop-cons bs (suc i) 0 (omega arith))
    go (no k) =
        let past : length bs ≤ suc i = omega arith in
        rw (le-ltb (i + 1) (length bs) (omega arith), drop_of_length-le bs past)

-- The tests of a digit and of a mark.
pub decimal : (n : ℕ) → n < 10 → digit_of n ≡ 0x30 + n
unfolding digit_of if◌then◌otherwise◌
decimal n h = simp (lt-ltb n 10 h)

pub past_nine : (n : ℕ) → 10 ≤ n → digit_of n ≡ 0x37 + n
unfolding digit_of if◌then◌otherwise◌
past_nine n h = simp (le-ltb n 10 h)

pub ruleset digits = (decimal, past_nine)

pub within : (i len : ℕ) → i + 1 < len → separator_at i len ≡ 0x20
unfolding separator_at if◌then◌otherwise◌
within i len h = simp (lt-ltb (i + 1) len h)

pub last : (i len : ℕ) → len ≤ i + 1 → separator_at i len ≡ 0x0A
unfolding separator_at if◌then◌otherwise◌
last i len h = simp (le-ltb (i + 1) len h)

pub ruleset marks = (within, last)

-- What i bytes have written, and what is still to come.
pub record LinedFrom (bs : List ℕ) (i : ℕ) (whole text : List ℕ) : Type 0 where
  pub done : List ℕ
  pub stands : Written done whole text
  pub long : length done ≡ 3 * i
  pub rest : done ++ line_of (drop i bs) ≡ line_of bs

pub lined-start : (bs text : List ℕ) → LinedFrom bs 0 text text
lined-start bs text = record { done = []; stands = written_start text; long = refl; rest = refl }

snoc-three : (w : List ℕ) (a b c : ℕ) (ts : List ℕ) → (((w ++ a ∷ []) ++ b ∷ []) ++ c ∷ []) ++ ts ≡ w ++ a ∷ b ∷ c ∷ ts
snoc-three w a b c ts = append_snoc ((w ++ a ∷ []) ++ b ∷ []) c ts ∙ append_snoc (w ++ a ∷ []) b (c ∷ ts) ∙ append_snoc w a (b ∷ c ∷ ts)

snoc-long : (w : List ℕ) (a : ℕ) → length (w ++ a ∷ []) ≡ length w + 1
snoc-long w a = length-append w (a ∷ [])

pub lined-turn : {bs : List ℕ} {i : ℕ} {whole text : List ℕ} (h l m j : ℕ) → LinedFrom bs i whole text → i < length bs → length bs * 3 ≤ length whole
    → h ≡ digit_of (get_or bs i 0 / 16) → l ≡ digit_of (get_or bs i 0 % 16) → m ≡ separator_at i (length bs) → j ≡ 3 * i
    → LinedFrom bs (i + 1) whole (set (set (set text j h) (j + 1) l) (j + 2) m)
unfolding line_of
lined-turn {bs} {i} {whole} {text} h l m j q k r a b c e =
    let w = q.done in
    let one : length (w ++ h ∷ []) ≡ 3 * i + 1 = snoc-long w h ∙ ap (λ (n : ℕ). n + 1) q.long in
    let two : length ((w ++ h ∷ []) ++ l ∷ []) ≡ 3 * i + 2 = omega (arith, one, snoc-long (w ++ h ∷ []) l) in
    let three : length (((w ++ h ∷ []) ++ l ∷ []) ++ m ∷ []) ≡ 3 * i + 3 = omega (arith, two, snoc-long ((w ++ h ∷ []) ++ l ∷ []) m) in
    let d : drop i bs ≡ get_or bs i 0 ∷ drop (suc i) bs = drop-cons bs i 0 k in
    record {
      done = ((w ++ h ∷ []) ++ l ∷ []) ++ m ∷ [];
      stands =
          written_byte (j + 2) m (written_byte (j + 1) l (written_byte j h q.stands (omega (arith, q.long)) (omega arith)) (omega (arith, one)) (omega arith)) (omega (arith, two)) (omega arith);
      long = omega (arith, three);
      rest =
          snoc-three w h l m (line_of (drop (i + 1) bs))
          ∙ ap (λ (n : ℕ). w ++ h ∷ l ∷ m ∷ line_of (drop n bs)) (add-one i)
          ∙ rw (a, b, c ∙ mark-is bs i k) (ap (λ (x : List ℕ). w ++ line_of x) (sym d) ∙ q.rest);
    }

pub lined-end : {bs : List ℕ} {i : ℕ} {whole text : List ℕ} → LinedFrom bs i whole text → i ≡ length bs → left (Ok tt) text ≡ put_of whole 0 (line_of bs)
unfolding line_of
lined-end {bs} {i} {whole} {text} q e =
    let past : length bs ≤ i = omega arith in
    let w : q.done ≡ line_of bs = sym (append-nil q.done) ∙ ap (λ (x : List ℕ). q.done ++ line_of x) (sym (drop_of_length-le bs past)) ∙ q.rest in
    written-laid q.stands ∙ ap (λ (x : List ℕ). put_of whole 0 x) w

pub line-short : (bs text : List ℕ) → length text / 3 < length bs → left (Err (record {})) text ≡ put_of text 0 (line_of bs)
line-short bs text h = put-short text 0 (line_of bs) (rw line-long (omega arith))

pub ruleset lines = (line-short, lined-start)
