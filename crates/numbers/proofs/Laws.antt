-- Laws about numbers in bytes: as the library reads and writes them, added up, from a place on, past the end; how long they are; written and read back, and read and written back.
-- Assumes nothing.
use mathlib.Core.Bool.{Bool, false, true}
use mathlib.Core.List.{List, [], ◌++◌, ◌∷◌, append_assoc}
use mathlib.Core.Path.{◌∙◌, ◌≡◌, ap, refl, sym}
use Prim.Native.Nat.{◌%◌, ◌*◌, ◌+◌, ◌/◌, ◌<◌, ◌^◌, ◌≤◌, suc, zero, ℕ}
use native.Mathlib.Numerals.{add-one}
use native.Mathlib.Omega.{arith}
use Rattle.std.proofs.lemmas.List.{append-nil, length-replicate}
use Rattle.std.proofs.Math.ListN.{drop_of_length-le}
use Rattle.std.proofs.Math.Nat.{div-div-eq-div-mul}
use lib.Dec.{eqb}
use lib.ListN.{get_or-append, get_or-eq_default, drop, get_or, length, replicate, take}
use lib.Seq.{drop-append_seam, drop-cons, get_or-drop}
use mir.Syntax.{Width, w8, w16, w32, w64, w128}
use Rattle.std.specs.Int.{byte_at, byte_len, bytes_low_first, from_bool, from_le_bytes, to_le_bytes}
use Rattle.numbers.specs.Numbers.{bit, bytes_at, low_first, number_at}

-- The bytes from a place on are the first ones of the rest: those that are there, and zeros after them.
bytes-drop : (k at i : ℕ) (bs : List ℕ) → bytes_at k i (drop at bs) ≡ bytes_at k (at + i) bs
unfolding bytes_at
bytes-drop zero at i bs = refl
bytes-drop (suc k) at i bs =
    let e : at + (i + 1) ≡ at + i + 1 = omega arith in
    rw (get_or-drop at bs i 0, bytes-drop k at (i + 1) bs, e)

bytes-none : (k i : ℕ) → bytes_at k i [] ≡ replicate k 0
unfolding bytes_at
bytes-none zero i = refl
bytes-none (suc k) i = ap (λ (l : List ℕ). 0 ∷ l) (bytes-none k (i + 1))

bytes-over : (k : ℕ) (bs : List ℕ) → take k bs ++ drop (length (take k bs)) (replicate k 0) ≡ bytes_at k 0 bs
unfolding bytes_at
bytes-over zero bs = refl
bytes-over (suc k) [] = ap (λ (l : List ℕ). 0 ∷ l) (sym (bytes-none k 1))
bytes-over (suc k) (b ∷ bs) = ap (λ (l : List ℕ). b ∷ l) (bytes-over k bs ∙ bytes-drop k 1 0 (b ∷ bs))

bytes-from : (k at : ℕ) (bs : List ℕ) → take k (drop at bs) ++ drop (length (take k (drop at bs))) (replicate k 0) ≡ bytes_at k at bs
bytes-from k at bs =
    let e : at + 0 ≡ at = omega arith in
    bytes-over k (drop at bs) ∙ bytes-drop k at 0 bs ∙ ap (λ (i : ℕ). bytes_at k i bs) e

-- As the code takes them: where all are there, and where some are not.
pub bytes-whole : (k at : ℕ) (bs s : List ℕ) → s ≡ take k (drop at bs) → length s ≡ k → s ≡ bytes_at k at bs
bytes-whole k at bs s e h =
    let n : drop (length s) (replicate k 0) ≡ [] = drop_of_length-le (replicate k 0) (rw length-replicate (omega arith)) in
    sym (append-nil s) ∙ ap (λ (l : List ℕ). s ++ l) (sym n) ∙ ap (λ (l : List ℕ). l ++ drop (length l) (replicate k 0)) e ∙ bytes-from k at bs

pub bytes-put : (k at : ℕ) (bs s t : List ℕ) → t ≡ s → s ≡ take k (drop at bs) → t ++ drop (length s) (replicate k 0) ≡ bytes_at k at bs
bytes-put k at bs s t f e =
    ap (λ (l : List ℕ). l ++ drop (length s) (replicate k 0)) f ∙ ap (λ (l : List ℕ). l ++ drop (length l) (replicate k 0)) e ∙ bytes-from k at bs

-- They are as many as are wanted, and where they are there, they are that stretch of the bytes.
pub bytes-long : (k at : ℕ) (bs : List ℕ) → length (bytes_at k at bs) ≡ k
unfolding bytes_at
bytes-long zero at bs = refl
bytes-long (suc k) at bs = ap suc (bytes-long k (at + 1) bs)

pub bytes-are : (k at : ℕ) (bs : List ℕ) → at + k ≤ length bs → bytes_at k at bs ≡ take k (drop at bs)
unfolding bytes_at
bytes-are zero at bs h = refl
bytes-are (suc k) at bs h = rw (bytes-are k (at + 1) bs (omega arith), drop-cons bs at 0 (omega arith), add-one)

-- The library's order of bytes is the documents': what it writes of a number, and what it reads of the bytes from a place on.
byte-is : (i n : ℕ) → byte_at i n ≡ n / 256 ^ i % 256
byte-is zero n = omega arith
byte-is (suc i) n = refl

low-from : (i k n : ℕ) → bytes_low_first i k n ≡ low_first k (n / 256 ^ i)
unfolding low_first
low-from i zero n = refl
low-from i (suc k) n =
    let e : n / 256 ^ i / 256 ≡ n / 256 ^ (suc i) = div-div-eq-div-mul n (256 ^ i) 256 ∙ ap (λ (m : ℕ). n / m) (omega arith) in
    rw (byte-is i n, low-from (suc i) k n, e)

pub le-written : (w : Width) (n : ℕ) → to_le_bytes w n ≡ low_first (byte_len w) n
le-written w n = let e : n / 256 ^ 0 ≡ n = omega arith in low-from 0 (byte_len w) n ∙ ap (low_first (byte_len w)) e

pub le-read : (w : Width) {n : ℕ} {a : List ℕ} (at : ℕ) (bs : List ℕ) → n ≡ from_le_bytes w a → a ≡ bytes_at (byte_len w) at bs → n ≡ number_at (byte_len w) at bs
unfolding number_at bytes_at
le-read w8 at bs e f = e ∙ rw f (omega arith)
le-read w16 at bs e f = e ∙ rw f (omega arith)
le-read w32 at bs e f = e ∙ rw f (omega arith)
le-read w64 at bs e f = e ∙ rw f (omega arith)
le-read w128 at bs e f = e ∙ rw f (omega arith)

-- Numbers of four and eight bytes, added up.
same_place : (bs : List ℕ) {i j : ℕ} → i ≡ j → get_or bs i 0 ≡ get_or bs j 0
same_place bs e = ap (λ (i : ℕ). get_or bs i 0) e

pub number-4 : (at : ℕ) (bs : List ℕ)
    → number_at 4 at bs ≡ get_or bs at 0 + 256 * get_or bs (at + 1) 0 + 65536 * get_or bs (at + 2) 0 + 16777216 * get_or bs (at + 3) 0
unfolding number_at
number-4 at bs =
    let i : get_or bs (at + 2) 0 ≡ get_or bs (at + 1 + 1) 0 = same_place bs (omega arith) in
    let j : get_or bs (at + 3) 0 ≡ get_or bs (at + 1 + 1 + 1) 0 = same_place bs (omega arith) in
    omega (arith, i, j)

pub number-8 : (at : ℕ) (bs : List ℕ) → number_at 8 at bs ≡ number_at 4 at bs + 4294967296 * number_at 4 (at + 4) bs
unfolding number_at
number-8 at bs =
    let i : at + 4 ≡ at + 1 + 1 + 1 + 1 = omega arith in
    let g : number_at 4 (at + 4) bs ≡ number_at 4 (at + 1 + 1 + 1 + 1) bs = ap (λ (j : ℕ). number_at 4 j bs) i in
    omega (arith, g)

-- From a place on, the number is the first one of the rest.
pub number-drop : (k at i : ℕ) (bs : List ℕ) → number_at k i (drop at bs) ≡ number_at k (at + i) bs
unfolding number_at
number-drop zero at i bs = refl
number-drop (suc k) at i bs =
    let e : at + (i + 1) ≡ at + i + 1 = omega arith in
    let f : number_at k (i + 1) (drop at bs) ≡ number_at k (at + i + 1) bs = number-drop k at (i + 1) bs ∙ ap (λ (j : ℕ). number_at k j bs) e in
    omega (arith, get_or-drop at bs i 0, f)

-- In joined bytes a number is one of the first part, or one of the second.
pub number-after : (k i : ℕ) (xs ys : List ℕ) → number_at k (length xs + i) (xs ++ ys) ≡ number_at k i ys
number-after k i xs ys = sym (number-drop k (length xs) i (xs ++ ys)) ∙ ap (number_at k i) (drop-append_seam xs ys)

pub number-before : (k at : ℕ) (xs ys : List ℕ) → at + k ≤ length xs → number_at k at (xs ++ ys) ≡ number_at k at xs
unfolding number_at
number-before zero at xs ys h = refl
number-before (suc k) at xs ys h = omega (arith, get_or-append xs ys 0 at (omega arith), number-before k (at + 1) xs ys (omega arith))

-- Past the end it is 0.
pub number_past : (k at : ℕ) (bs : List ℕ) → length bs ≤ at → number_at k at bs ≡ 0
unfolding number_at
number_past zero at bs h = refl
number_past (suc k) at bs h = omega (arith, get_or-eq_default bs 0 h, number_past k (at + 1) bs (omega arith))

-- What k bytes can hold.
pub number-below : (k at : ℕ) (bs : List ℕ) → ((i : ℕ) → get_or bs i 0 < 256) → number_at k at bs < 256 ^ k
unfolding number_at
number-below zero at bs b = omega arith
number-below (suc k) at bs b = omega (arith, b at, number-below k (at + 1) bs b)

-- A number in two bytes, one by one.
pub low-2 : (n : ℕ) → low_first 2 n ≡ n % 256 ∷ n / 256 % 256 ∷ []
unfolding low_first
low-2 n = refl

-- The bytes of an array that holds a number, taken one by one.
pub low-3-each : {a : List ℕ} (n : ℕ) (rest : List ℕ) → a ≡ low_first 3 n → get_or a 0 0 ∷ get_or a 1 0 ∷ get_or a 2 0 ∷ rest ≡ low_first 3 n ++ rest
unfolding low_first
low-3-each n rest e = rw e

pub low-4-each : {a : List ℕ} (n : ℕ) (rest : List ℕ) → a ≡ low_first 4 n
    → get_or a 0 0 ∷ get_or a 1 0 ∷ get_or a 2 0 ∷ get_or a 3 0 ∷ rest ≡ low_first 4 n ++ rest
unfolding low_first
low-4-each n rest e = rw e

-- A number takes as many bytes as it is given, and each of them is one.
pub low-long : (k n : ℕ) → length (low_first k n) ≡ k
unfolding low_first
low-long zero n = refl
low-long (suc k) n = ap suc (low-long k (n / 256))

pub low_below : (k n i : ℕ) → get_or (low_first k n) i 0 < 256
unfolding low_first
low_below zero n i = omega arith
low_below (suc k) n zero = omega arith
low_below (suc k) n (suc i) = low_below k (n / 256) i

-- What is written is read back, wherever it stands.
first_back : (k n : ℕ) (ys : List ℕ) → n < 256 ^ k → number_at k 0 (low_first k n ++ ys) ≡ n
unfolding number_at low_first
first_back zero n ys h = omega arith
first_back (suc k) n ys h =
    let x : n / 256 < 256 ^ k = omega arith in
    let i : number_at k 1 (n % 256 ∷ (low_first k (n / 256) ++ ys)) ≡ n / 256 = sym (number-drop k 1 0 (n % 256 ∷ (low_first k (n / 256) ++ ys))) ∙ first_back k (n / 256) ys x in
    omega (arith, i)

pub number-low : (k n : ℕ) (xs ys : List ℕ) → n < 256 ^ k → number_at k (length xs) (xs ++ low_first k n ++ ys) ≡ n
number-low k n xs ys h =
    let e : length xs ≡ length xs + 0 = omega arith in
    ap (λ (l : List ℕ). number_at k (length xs) l) (append_assoc xs (low_first k n) ys) ∙ ap (λ (i : ℕ). number_at k i (xs ++ (low_first k n ++ ys))) e
    ∙ number-after k 0 xs (low_first k n ++ ys) ∙ first_back k n ys h

-- And bytes that are read are written back.
pub low-number : (k at : ℕ) (bs : List ℕ) → ((i : ℕ) → get_or bs i 0 < 256) → at + k ≤ length bs → low_first k (number_at k at bs) ≡ take k (drop at bs)
unfolding low_first number_at
low-number zero at bs b h = refl
low-number (suc k) at bs b h =
    let x : get_or bs at 0 < 256 = b at in
    let n : ℕ = number_at k (at + 1) bs in
    let low : (get_or bs at 0 + 256 * n) % 256 ≡ get_or bs at 0 = omega arith in
    let high : (get_or bs at 0 + 256 * n) / 256 ≡ n = omega arith in
    rw (low, high, low-number k (at + 1) bs b (omega arith), drop-cons bs at 0 (omega arith), add-one)

-- Yes or no in one byte, as the library makes it, and back.
pub bit-from : (b : Bool) → from_bool b ≡ bit b
bit-from true = refl
bit-from false = refl

pub bit-back : (b : Bool) → eqb (bit b) 1 ≡ b
bit-back true = refl
bit-back false = refl

pub bit_is : (n : ℕ) → n ≤ 1 → bit (eqb n 1) ≡ n
bit_is zero h = refl
bit_is (suc zero) h = refl
bit_is (suc (suc n)) h = absurd (omega arith)
