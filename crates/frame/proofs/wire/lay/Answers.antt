-- `frame::wire::lay` meets its contract: after each store the room is the pieces written so far, and after them what stood there.
-- Assumes nothing.
use Rattle.std.proofs.Common.{◌≡◌, ℕ, suc, ◌+◌, ◌≤◌, List, [], ◌∷◌, ◌++◌, length, set, refl, arith, length-append, length-set}
use Rattle.frame.proofs.Laws.Wire.{laid-is}
use Rattle.lent.proofs.Laws.{Written, written_byte, written-put, written_start}
use Rattle.lent.specs.Lent.{left, put_of}
use Rattle.lent.specs.declared.Short.{Short}
use Rattle.std.specs.Prelude.{Result}
use Rattle.frame.proofs.wire.lay.Goals as goal

payload-long : (lead rest : List ℕ) → 2 + (length lead + length rest) ≡ suc (suc (length (lead ++ rest)))
payload-long lead rest = rw length-append (omega arith)

sum-long : (lead rest : List ℕ) (u : ℕ) → 3 + (length lead + length rest) ≡ suc (suc (length ((lead ++ rest) ++ u ∷ [])))
sum-long lead rest u = simp length-append (omega arith)

-- The header and LEN.
abbrev head : ℕ → ℕ → List ℕ
head h len = ([] ++ h ∷ []) ++ len ∷ []

begun : (r : List ℕ) (h len : ℕ) → 4 ≤ length r → Written (head h len) r (set (set r 0 h) 1 len)
begun r h len n = written_byte 1 _ (written_byte 0 _ (written_start _) refl (omega arith)) refl (omega arith)

-- And the payload's two parts.
rested : {l m : List ℕ} {a b : Result Unit Short} (r lead rest : List ℕ) (h len : ℕ) → length lead + length rest + 4 ≤ length r
    → left a l ≡ put_of (set (set r 0 h) 1 len) 2 lead → left b m ≡ put_of l (2 + length lead) rest
    → Written (head h len ++ lead ++ rest) r m
rested r lead rest h len n p q =
    written-put (2 + length lead) rest (written-put 2 lead (begun r h len (omega arith)) p refl (omega arith)) q (omega arith) (omega arith)

-- And SUM and the footer.
whole : {m : List ℕ} (r lead rest : List ℕ) (h len sum footer : ℕ) → length lead + length rest + 4 ≤ length r
    → Written (head h len ++ lead ++ rest) r m
    → Written (head h len ++ lead ++ rest ++ sum ∷ [] ++ footer ∷ []) r
    (set (set m (2 + (length lead + length rest)) sum) (3 + (length lead + length rest)) footer)
whole r lead rest h len sum footer n w =
    let payload = written_byte (2 + (length lead + length rest)) sum w (payload-long lead rest) (omega arith) in
    written_byte (3 + (length lead + length rest)) footer payload (sum-long lead rest sum) (omega arith)

pub bounds-room-1 : goal.bounds-room-1
bounds-room-1 c = simp length-set (omega (arith, c.requires))

pub bounds-room-n : goal.bounds-room-n
bounds-room-n c =
    let a = c.args in
    let w = rested a.room.now a.lead.now a.rest.now c.byte.result c.len_byte-len.result c.requires c.put.ensures c.put-2.ensures in
    omega (arith, w.long, c.requires)

pub bounds-room-n-2 : goal.bounds-room-n-2
bounds-room-n-2 c =
    let a = c.args in
    let w = rested a.room.now a.lead.now a.rest.now c.byte.result c.len_byte-len.result c.requires c.put.ensures c.put-2.ensures in
    simp length-set (omega (arith, w.long, c.requires))

pub returns : goal.returns
returns c =
    let a = c.args in
    let w = rested a.room.now a.lead.now a.rest.now c.byte.result c.len_byte-len.result c.requires c.put.ensures c.put-2.ensures in
    let v = whole a.room.now a.lead.now a.rest.now c.byte.result c.len_byte-len.result c.sum8-sum.result c.byte-2.result c.requires w in
    laid-is _ _ _ _ _ _ _ _ _ _ _ _ v c.byte.ensures c.len_byte-len.ensures c.less8.ensures c.sum8.ensures c.sum8-sum.ensures c.byte-2.ensures
