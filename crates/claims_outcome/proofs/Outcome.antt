-- No second outcome: what a contract allows is one outcome. One statement serves every callable function of the repository.
-- Assumes nothing.
use mathlib.Core.List.{List}
use mathlib.Core.Path.{◌≡◌}
use Prim.Native.Nat.{ℕ}
use contract.Lifetimes.{Lfts}
use denote.Triple.Clauses.{AtExit}
use borrow.Fn.Kinds.{Dens, Out, ParamKind, ResultKind, ended_of, res_t}

-- A contract on a result and on what the lent slices hold at exit; the outcome is all that the call can change. Whatever is handed in, two results that meet the
-- contract have one outcome. (Each proof is the contract itself, taken twice: it says that the outcome equals a definition.)
abbrev pub Once : {n : ℕ} {O : Type 0} (ps : List (ParamKind n)) (result : ResultKind n) → Out n ps result
    → ((κs : Lfts n) → (res_t result κs).Denot → AtExit (ended_of n ps result) κs → O) → Type 0
Once {n} ps result post outcome =
    (κs : Lfts n) (a : Dens κs ps) (r s : (res_t result κs).Denot) (x y : AtExit (ended_of n ps result) κs) → post κs a r x → post κs a s y → outcome κs r x ≡ outcome κs s y
