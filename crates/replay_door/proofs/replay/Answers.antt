-- `replay_door::replay` meets its contract: the verdict on the call, then the play.
-- Assumes nothing.
use mathlib.Core.List.{List}
use mathlib.Core.Path.{◌≡◌, ap}
use Prim.Native.Nat.{ℕ}
use native.Mathlib.Omega.{arith}
use borrow.Author.Rules.{rules}
use Rattle.chip_core.specs.Effect.{Memory}
use Rattle.part.specs.declared.Part.{Part}
use Rattle.part.specs.declared.refusal.Refusal.{Refusal}
use Rattle.replay_capture.specs.declared.Form.{Form}
use Rattle.replay_door.specs.Calls.{end_number, replayed_by, replayed_through, replay_told}
use Rattle.replay_records.specs.declared.Halt.{Halt}
use Rattle.replay_records.specs.declared.Halt.TheVariants.{Refused}
use Rattle.std.specs.Prelude.{Err, Ok, Result}
use Rattle.std.specs.Result.{IsErrAnd, MatchResult}
use Rattle.replay_door.proofs.replay.Goals as goal

-- A call that is refused ends with its refusal, and nothing else changes.
refused : (form : Form) (p : Part) (capture told state : List ℕ) (m : Memory) (room output : List ℕ) (v : Result Unit Refusal) (w e : Result Unit Halt) (h : Halt)
    → MatchResult v (λ x. w ≡ Ok x) (λ r. IsErrAnd w (λ x. x ≡ Refused r)) → w ≡ Err h → IsErrAnd e (λ x. x ≡ h)
    → replay_told (end_number e) told state m room output ≡ replayed_by form v p capture told state m room output
unfolding replayed_by end_number
refused form p capture told state m room output (Ok x) w e h a b c = absurd (let z : ◌≡◌ {A = ℕ} 0 1 = cc in omega arith)
refused form p capture told state m room output (Err r) (Ok x) e h a b c = absurd a
refused form p capture told state m room output (Err r) (Err y) (Ok x) h a b c = absurd c
refused form p capture told state m room output (Err r) (Err y) (Err z) h a b c =
    let i : z ≡ Refused r = cc in
    ap (λ (n : Halt). replay_told (end_number (Err n)) told state m room output) i

pub returns-in_err-map_err : goal.returns-in_err-map_err
unfolding replayed_through
returns-in_err-map_err c =
    rw (← c.part_in-p.ensures, ← c.chip_acceptance-v.ensures)
    (refused _ _ _ _ _ _ _ _ c.chip_acceptance-v.result c.map_err.result c.from_residual.result _ c.map_err.ensures.cases c.in_err-map_err.was c.from_residual.ensures.1)

pub returns : goal.returns
unfolding replayed_through replayed_by
returns c =
    let a : c.chip_acceptance-v.result ≡ Ok tt = search rules in
    simp (← c.part_in-p.ensures, ← c.chip_acceptance-v.ensures, a, ← c.chip_in-chip.ensures, ← c.replay-x.ensures, ← c.lay_chip.ensures)
