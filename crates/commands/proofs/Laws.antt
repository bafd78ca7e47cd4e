-- Laws of the commands: how they are laid in an array, that what is written is read back, and that a command read has its COM.
-- Assumes nothing.
use mathlib.Core.Bool.{Bool, false, true}
use mathlib.Core.List.{List, [], ◌++◌, ◌∷◌, append_assoc, append-nil}
use mathlib.Core.Path.{◌∙◌, ◌≡◌, ap, refl, sym}
use Prim.Native.Nat.{◌+◌, ◌<◌, ◌^◌, ◌≤◌, suc, ℕ}
use native.Mathlib.Omega.{arith}
use lib.Dec.{eqb}
use lib.ListN.{get_or, length, length-append, take}
use lib.Seq.{get_or-append_seam}
use borrow.Author.Tests.{eq-eqb, eqb-true}
use Rattle.commands.specs.Commands.{Row, com_of, end_of, fitted, information_of, payload_of, read_command, read_in, start_of, command_table}
use Rattle.commands.specs.declared.Command.{Command}
use Rattle.commands.specs.declared.Command.TheVariants.{BlankCheck, BlockErase, Checksum, Programming, RateSet, Reset, Verify}
use Rattle.commands.specs.declared.Command.TheVariants.{SecurityGet, SecurityRelease, SecuritySet, SignatureGet}
use Rattle.commands.specs.declared.Misread.TheVariants.{UnfitLen}
use Rattle.std.specs.Prelude.{Err, Ok}
use Rattle.frame.specs.Wire.{Writing, write_of}
use Rattle.frame.specs.declared.Footer.TheVariants.{Last}
use Rattle.frame.specs.declared.Header.TheVariants as Header
use Rattle.numbers.proofs.Laws.{low-3-each, low-long, number-low}
use Rattle.numbers.specs.Numbers.{low_first, number_at}
use Rattle.words.specs.Words.{if◌then◌otherwise◌}

-- The addresses of a command's information in their array.
pub two-addresses : {a b : List ℕ} (s e last : ℕ) → a ≡ low_first 3 s → b ≡ low_first 3 e
    → get_or a 0 0 ∷ get_or a 1 0 ∷ get_or a 2 0 ∷ get_or b 0 0 ∷ get_or b 1 0 ∷ get_or b 2 0 ∷ last ∷ [] ≡ low_first 3 s ++ low_first 3 e ++ last ∷ []
two-addresses {a} {b} s e last p q =
    low-3-each s (get_or b 0 0 ∷ get_or b 1 0 ∷ get_or b 2 0 ∷ last ∷ []) p ∙ ap (λ (l : List ℕ). low_first 3 s ++ l) (low-3-each e (last ∷ []) q)
    ∙ sym (append_assoc (low_first 3 s) (low_first 3 e) (last ∷ []))

-- COM and the information, lent as the part of the array that they are, are the payload.
pub command-written : (w : Writing) (room : List ℕ) (c : Command) (x n : ℕ) (bytes : List ℕ) → w ≡ write_of room Header.Command (x ∷ take n bytes) Last
    → x ≡ com_of c → n ≡ length (information_of c) → take (length (information_of c)) bytes ≡ information_of c → w ≡ write_of room Header.Command (payload_of c) Last
unfolding payload_of
command-written w room c x n bytes e f g h = e ∙ rw (f, g, h)

-- A number at the end of the bytes, and one before others.
start_back : (cmd s : ℕ) (ys : List ℕ) → s < 256 ^ 3 → number_at 3 1 (cmd ∷ (low_first 3 s ++ ys)) ≡ s
start_back cmd s ys h = number-low 3 s (cmd ∷ []) ys h

end_back : (cmd s e : ℕ) (ys : List ℕ) → e < 256 ^ 3 → number_at 3 4 (cmd ∷ (low_first 3 s ++ low_first 3 e ++ ys)) ≡ e
end_back cmd s e ys h =
    let n : 4 ≡ length (cmd ∷ low_first 3 s) = ap suc (sym (low-long 3 s)) in
    ap (λ (i : ℕ). number_at 3 i (cmd ∷ (low_first 3 s ++ low_first 3 e ++ ys))) n ∙ number-low 3 e (cmd ∷ low_first 3 s) ys h

long-two : (cmd s e : ℕ) → length (cmd ∷ (low_first 3 s ++ low_first 3 e)) ≡ 7
long-two cmd s e = ap suc (length-append (low_first 3 s) (low_first 3 e) ∙ rw (low-long, low-long))

last-back : (cmd s e d : ℕ) → get_or (cmd ∷ (low_first 3 s ++ low_first 3 e ++ d ∷ [])) 7 0 ≡ d
last-back cmd s e d =
    ap (λ (i : ℕ). get_or (cmd ∷ (low_first 3 s ++ low_first 3 e ++ d ∷ [])) i 0) (sym (long-two cmd s e)) ∙ get_or-append_seam (cmd ∷ (low_first 3 s ++ low_first 3 e)) d [] 0

-- The same where nothing follows.
start-alone : (cmd s : ℕ) → s < 256 ^ 3 → number_at 3 1 (cmd ∷ low_first 3 s) ≡ s
start-alone cmd s h = ap (λ (l : List ℕ). number_at 3 1 (cmd ∷ l)) (sym (append-nil (low_first 3 s))) ∙ start_back cmd s [] h

end-alone : (cmd s e : ℕ) → e < 256 ^ 3 → number_at 3 4 (cmd ∷ (low_first 3 s ++ low_first 3 e)) ≡ e
end-alone cmd s e h = ap (λ (l : List ℕ). number_at 3 4 (cmd ∷ l)) (sym (append-nil (low_first 3 s ++ low_first 3 e))) ∙ end_back cmd s e [] h

start_first : (cmd s e d : ℕ) → s < 256 ^ 3 → number_at 3 1 (cmd ∷ (low_first 3 s ++ low_first 3 e ++ d ∷ [])) ≡ s
start_first cmd s e d h =
    ap (λ (l : List ℕ). number_at 3 1 (cmd ∷ l)) (append_assoc (low_first 3 s) (low_first 3 e) (d ∷ [])) ∙ start_back cmd s (low_first 3 e ++ d ∷ []) h

long-three : (cmd s e d : ℕ) → length (cmd ∷ (low_first 3 s ++ low_first 3 e ++ d ∷ [])) ≡ 8
long-three cmd s e d = ap suc (length-append (low_first 3 s ++ low_first 3 e) (d ∷ []) ∙ (let n : length (low_first 3 s ++ low_first 3 e) ≡ 6 = long-both s e in rw n))
  where
    long-both : (s e : ℕ) → length (low_first 3 s ++ low_first 3 e) ≡ 6
    long-both s e = length-append (low_first 3 s) (low_first 3 e) ∙ rw (low-long, low-long)

meant : (n len : ℕ) (c d : Command) → n ≡ len → c ≡ d → fitted n len c ≡ Ok d
unfolding fitted if◌then◌otherwise◌
meant n len c d e f = simp (eq-eqb n len e, f)

same-two : (f : ℕ → ℕ → Command) {a b c d : ℕ} → a ≡ b → c ≡ d → f a c ≡ f b d
same-two f {a} {b} {c} {d} e g = ap (λ (x : ℕ). f x c) e ∙ ap (f b) g

same-three : {a b c d : ℕ} (x y : ℕ) → a ≡ b → c ≡ d → x ≡ y → BlankCheck a c x ≡ BlankCheck b d y
same-three {a} {b} {c} {d} x y e g h = same-two (λ (m n : ℕ). BlankCheck m n x) e g ∙ ap (BlankCheck b d) h

-- How long a payload is: LEN of the longest is 8.
-- COM of those that the dock's setup sends.
pub com-rate : (rate supply : ℕ) → com_of (RateSet rate supply) ≡ 0x9A
unfolding com_of
com-rate rate supply = refl

pub com-reset : com_of Reset ≡ 0x00
unfolding com_of
com-reset = refl

pub com-signature : com_of SignatureGet ≡ 0xC0
unfolding com_of
com-signature = refl

pub payload-some : (c : Command) → 1 ≤ length (payload_of c)
unfolding payload_of
payload-some c = omega arith

pub payload-most : (c : Command) → length (payload_of c) ≤ 8
unfolding payload_of information_of
payload-most (RateSet rate supply) = omega arith
payload-most Reset = omega arith
payload-most (BlockErase s) = omega (arith, low-long 3 s)
payload-most (BlankCheck s e d) = omega (arith, long-three 0x32 s e d)
payload-most (Programming s e) = omega (arith, long-two 0x40 s e)
payload-most (Verify s e) = omega (arith, long-two 0x13 s e)
payload-most (Checksum s e) = omega (arith, long-two 0xB0 s e)
payload-most SignatureGet = omega arith
payload-most SecurityGet = omega arith
payload-most SecuritySet = omega arith
payload-most SecurityRelease = omega arith

-- What is written is read back.
pub read_back : (c : Command) → start_of c < 256 ^ 3 → end_of c < 256 ^ 3 → read_command (payload_of c) ≡ Ok c
unfolding read_command read_in command_table payload_of com_of information_of if◌then◌otherwise◌
read_back (RateSet rate supply) h k = meant 3 3 _ _ refl refl
read_back Reset h k = meant 1 1 _ _ refl refl
read_back (BlockErase s) h k = meant _ 4 _ _ (ap suc (low-long 3 s)) (ap BlockErase (start-alone 0x22 s h))
read_back (BlankCheck s e d) h k =
    meant _ 8 _ _ (long-three 0x32 s e d) (same-three _ _ (start_first 0x32 s e d h) (end_back 0x32 s e (d ∷ []) k) (last-back 0x32 s e d))
read_back (Programming s e) h k = meant _ 7 _ _ (long-two 0x40 s e) (same-two Programming (start_back 0x40 s (low_first 3 e) h) (end-alone 0x40 s e k))
read_back (Verify s e) h k = meant _ 7 _ _ (long-two 0x13 s e) (same-two Verify (start_back 0x13 s (low_first 3 e) h) (end-alone 0x13 s e k))
read_back (Checksum s e) h k = meant _ 7 _ _ (long-two 0xB0 s e) (same-two Checksum (start_back 0xB0 s (low_first 3 e) h) (end-alone 0xB0 s e k))
read_back SignatureGet h k = meant 1 1 _ _ refl refl
read_back SecurityGet h k = meant 1 1 _ _ refl refl
read_back SecuritySet h k = meant 1 1 _ _ refl refl
read_back SecurityRelease h k = meant 1 1 _ _ refl refl

-- A command that is read has the COM of its row.
Fitting : List ℕ → List Row → Type 0
Fitting f [] = f ≡ f
Fitting f (x ∷ xs) = (com_of (x.means f) ≡ x.cmd) × Fitting f xs

fits : (n len : ℕ) (c d : Command) → fitted n len c ≡ Ok d → c ≡ d
unfolding fitted if◌then◌otherwise◌
fits n len c d e = go (eqb n len) e
  where
    go : (t : Bool) → (if t then Ok c otherwise Err UnfitLen) ≡ Ok d → c ≡ d
    go true e = cc
    go false e = absurd (let z : ◌≡◌ {A = ℕ} 0 1 = cc in omega arith)

com-in : (f : List ℕ) (xs : List Row) (c : Command) → Fitting f xs → read_in xs f ≡ Ok c → get_or f 0 0 ≡ com_of c
unfolding Fitting read_in if◌then◌otherwise◌
com-in f [] c w e = absurd (let z : ◌≡◌ {A = ℕ} 0 1 = cc in omega arith)
com-in f (x ∷ xs) c w e = go (com-in f xs c w.1) (eqb (get_or f 0 0) x.cmd) refl e
  where
    go : (read_in xs f ≡ Ok c → get_or f 0 0 ≡ com_of c) → (t : Bool) → eqb (get_or f 0 0) x.cmd ≡ t → (if t then fitted (length f) x.len (x.means f) otherwise read_in xs f) ≡ Ok c → get_or f 0 0 ≡ com_of c
    go on true u e = eqb-true _ _ u ∙ sym w.0 ∙ ap com_of (fits (length f) x.len (x.means f) c e)
    go on false u e = on e

pub com-read : (f : List ℕ) (c : Command) → read_command f ≡ Ok c → get_or f 0 0 ≡ com_of c
unfolding Fitting read_command command_table com_of
com-read f c e = com-in f command_table c (refl, (refl, (refl, (refl, (refl, (refl, (refl, (refl, (refl, (refl, (refl, refl))))))))))) e

-- Three bytes of a number count three, before others too.
pub low3_long : (n : ℕ) → length (low_first 3 n) ≡ 3
low3_long n = low-long 3 n

pub low3_longer : (n : ℕ) (r : List ℕ) → length (low_first 3 n ++ r) ≡ 3 + length r
low3_longer n r = length-append (low_first 3 n) r ∙ ap (λ (k : ℕ). k + length r) (low-long 3 n)
