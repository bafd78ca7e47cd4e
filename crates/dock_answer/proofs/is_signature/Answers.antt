-- `dock_answer::is_signature` meets its contract: the 22 bytes of the second frame are compared.
-- Assumes nothing.
use mathlib.Core.List.{List}
use mathlib.Core.Path.{◌∙◌, ◌≡◌, ap}
use Prim.Native.Nat.{ℕ}
use lib.ListN.{drop, length, take}
use borrow.Author.Rules.{rules}
use Rattle.dock_answer.specs.Answer.{signature_matches}
use Rattle.lent.specs.Lent.{same}
use Rattle.dock_answer.proofs.is_signature.Goals as goal

pub returns : goal.returns
unfolding signature_matches
returns c =
    let n : length c.bytes.result ≡ 22 = search rules in
    c.is_same_at.ensures
    ∙ ap (λ (k : ℕ). same (take k (drop 7 c.args.bytes.now)) c.bytes.result) n
    ∙ ap (λ (s : List ℕ). same (take 22 (drop 7 c.args.bytes.now)) s) c.bytes.ensures
