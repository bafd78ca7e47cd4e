-- Laws about a signature: its pieces, put one after the other, and how long it is.
-- Assumes nothing.
use mathlib.Core.List.{List, ◌++◌}
use mathlib.Core.Path.{◌∙◌, ◌≡◌, ap, refl}
use Prim.Native.Nat.{ℕ}
use native.Mathlib.Omega.{arith}
use lib.ListN.{length, length-append}
use Rattle.lent.proofs.Laws.{Written, written-full, written-put, written_start}
use Rattle.lent.specs.Lent.{left, put_of}
use Rattle.lent.specs.declared.Short.{Short}
use Rattle.std.specs.Prelude.{None, Option, Result, Some}
use Rattle.numbers.proofs.Laws.{low-long}
use Rattle.part.specs.Part.{last_of}
use Rattle.part.specs.Signature.{last_bytes, signature}
use Rattle.part.specs.declared.Area.TheVariants.{CodeFlash, DataFlash}
use Rattle.part.specs.declared.Part.{Part}

last-bytes-long : (x : Option ℕ) → length (last_bytes x) ≡ 3
last-bytes-long (Some n) = low-long 3 n
last-bytes-long None = refl

-- The pieces of a signature, put one after the other, are the signature.
pub signature-is : (p : Part) (cs es r k l m n o : List ℕ) (a b c d e : Result Unit Short) → left a k ≡ put_of r 0 p.device → left b l ≡ put_of k 3 p.name
    → left c m ≡ put_of l 13 cs → left d n ≡ put_of m 16 es → left e o ≡ put_of n 19 p.version → cs ≡ last_bytes (last_of p CodeFlash)
    → es ≡ last_bytes (last_of p DataFlash) → length r ≡ 22 → length p.device ≡ 3 → length p.name ≡ 10 → length p.version ≡ 3 → o ≡ signature p
unfolding signature
signature-is p cs es r k l m n o a b c d e s t u v w x y z f g h =
    let i : length cs ≡ 3 = ap length x ∙ last-bytes-long (last_of p CodeFlash) in
    let j : length es ≡ 3 = ap length y ∙ last-bytes-long (last_of p DataFlash) in
    let A : Written p.device r k = written-put 0 p.device (written_start r) s refl (omega arith) in
    let B : Written (p.device ++ p.name) r l = written-put 3 p.name A t (omega arith) (omega arith) in
    let C : Written (p.device ++ p.name ++ cs) r m = written-put 13 cs B u (simp length-append (omega arith)) (omega arith) in
    let D : Written (p.device ++ p.name ++ cs ++ es) r n = written-put 16 es C v (simp length-append (omega arith)) (omega arith) in
    let E : Written (p.device ++ p.name ++ cs ++ es ++ p.version) r o = written-put 19 p.version D w (simp length-append (omega arith)) (omega arith) in
    rw (← x, ← y) (written-full E (simp length-append (omega arith)))

-- A list in a description has any length, so the lengths of the part's three arrays are premises.
pub signature-long : (p : Part) → length p.device ≡ 3 → length p.name ≡ 10 → length p.version ≡ 3 → length (signature p) ≡ 22
unfolding signature
signature-long p d n v = simp (length-append, last-bytes-long, d, n, v)
