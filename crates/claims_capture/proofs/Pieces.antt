-- A capture converted in pieces: specs/Pieces.
-- Assumes nothing.
use mathlib.Core.Bool.{Bool, false, true}
use mathlib.Core.List.{List, [], ◌++◌, ◌∷◌, append_assoc}
use mathlib.Core.Path.{◌∙◌, ◌≡◌, ap, refl, sym}
use Prim.Native.Nat.{suc, ℕ}
use native.Mathlib.Omega.{arith}
use lib.ListN.{length}
use Rattle.claims_capture.proofs.Records.{records-append}
use Rattle.claims_capture.specs.Answers.{records_from}
use Rattle.claims_capture.specs.Pieces.{JudgedInPieces, WrittenInPieces, else_after}
use Rattle.conversion.specs.Conversion.{first_not, one_later, passes, rewritten, rewritten_all}
use Rattle.conversion.specs.declared.Asked.{Asked}
use Rattle.std.specs.Prelude.{None, Option, Some}
use Rattle.replay_capture.specs.declared.Form.{Form}
use Rattle.words.specs.Words.{if◌then◌otherwise◌}

else-none : (f : Option ℕ) → f ≡ else_after 0 None f
unfolding else_after
else-none None = refl
else-none (Some k) = ap Some (omega arith)

else-later : (n : ℕ) (f g : Option ℕ) → one_later (else_after n f g) ≡ else_after (suc n) (one_later f) g
unfolding else_after one_later
else-later n (Some k) g = refl
else-later n None None = refl
else-later n None (Some k) = ap Some (omega arith)

first-append : (form : Form) (asked : Asked) (rs ss : List (List ℕ)) → first_not form asked (rs ++ ss) ≡ else_after (length rs) (first_not form asked rs) (first_not form asked ss)
unfolding first_not else_after if◌then◌otherwise◌
first-append form asked [] ss = else-none (first_not form asked ss)
first-append form asked (r ∷ rs) ss = go (passes form asked r) (first-append form asked rs ss)
  where
    go : (t : Bool) → first_not form asked (rs ++ ss) ≡ else_after (length rs) (first_not form asked rs) (first_not form asked ss)
        → (if t then one_later (first_not form asked (rs ++ ss)) otherwise Some 0)
        ≡ else_after (length (r ∷ rs)) (if t then one_later (first_not form asked rs) otherwise Some 0) (first_not form asked ss)
    go true e = ap one_later e ∙ else-later (length rs) (first_not form asked rs) (first_not form asked ss)
    go false e = refl

written-append : (from : Form) (rs ss : List (List ℕ)) → rewritten_all from (rs ++ ss) ≡ rewritten_all from rs ++ rewritten_all from ss
unfolding rewritten_all
written-append from [] ss = refl
written-append from (r ∷ rs) ss =
    ap (λ (l : List ℕ). rewritten from r ++ l) (written-append from rs ss) ∙ sym (append_assoc (rewritten from r) (rewritten_all from rs) (rewritten_all from ss))

pub judged-in-pieces : JudgedInPieces
judged-in-pieces from asked a b w = ap (first_not from asked) (records-append from a b w) ∙ first-append from asked (records_from from a) (records_from from b)

pub written-in-pieces : WrittenInPieces
written-in-pieces from a b w = ap (rewritten_all from) (records-append from a b w) ∙ written-append from (records_from from a) (records_from from b)
