-- How far the search for a record that does not pass has come, over the form and what is asked.
-- Assumes nothing.
use mathlib.Core.Bool.{Bool, false, true}
use mathlib.Core.List.{List, [], ◌++◌, ◌∷◌}
use mathlib.Core.Path.{◌∙◌, ◌≡◌, ap, refl, sym}
use Prim.Native.Nat.{◌+◌, ◌-◌, ◌<◌, ◌≤◌, min, ℕ}
use native.Mathlib.Omega.{arith}
use lib.ListN.{drop_of_length-le, length}
use Rattle.conversion.specs.Conversion.{first_not, one_later, passes}
use Rattle.conversion.specs.declared.Asked.{Asked}
use Rattle.std.specs.Prelude.{None, Option, Some}
use Rattle.replay_capture.proofs.Laws.{records_is, records-none, size-least}
use Rattle.replay_capture.proofs.Records.{chunk_first, chunk_less}
use Rattle.replay_capture.specs.Capture.{record_size, records_in, records_of}
use Rattle.replay_capture.specs.declared.Form.{Form}
use Rattle.words.specs.Words.{if◌then◌otherwise◌}

-- What is found among records that so many stand before.
abbrev pub later : ℕ → Option ℕ → Option ℕ
later k None = None
later k (Some n) = Some (k + n)

later-none : (f : Option ℕ) → later 0 f ≡ f
later-none None = refl
later-none (Some n) = ap Some (omega arith)

later-one : (k : ℕ) (f : Option ℕ) → later (k + 1) f ≡ later k (one_later f)
unfolding one_later
later-one k None = refl
later-one k (Some n) = ap Some (omega arith)

-- The k records before the bytes that are left pass, and t is what is found in all.
pub record FoundFrom (form : Form) (asked : Asked) (rest : List ℕ) (k : ℕ) (t : Option ℕ) : Type 0 where
  pub most : ℕ
  pub enough : length rest ≤ most
  pub found : later k (first_not form asked (records_in (record_size form) most rest)) ≡ t

pub found-start : (form : Form) (asked : Asked) {rest : List ℕ} {k : ℕ} (bs : List ℕ) → rest ≡ bs → k ≡ 0 → FoundFrom form asked rest k (first_not form asked (records_of (record_size form) bs))
found-start form asked bs e z =
    rw (e, z)
    (record {
      most = length bs;
      enough = omega arith;
      found = later-none (first_not form asked (records_in (record_size form) (length bs) bs)) ∙ ap (first_not form asked) (sym (records_is (record_size form) bs));
    })

module _ {form : Form} {asked : Asked} {rest : List ℕ} {size k : ℕ} {t : Option ℕ} (x next : List ℕ) (s : size ≡ record_size form) (e : rest ≡ x ++ next) (l : length x ≡ min size (length rest)) (g : 0 < length rest) where
  -- The record that comes off, and those behind it.
  cut : (q : FoundFrom form asked rest k t) → later k (if passes form asked x then one_later (first_not form asked (records_in (record_size form) (q.most - 1) next)) otherwise Some 0) ≡ t
  unfolding first_not
  cut q =
      let f = chunk_first (record_size form) q.most x next e (rw (← s) l) g q.enough in
      sym (ap (λ (rs : List (List ℕ)). later k (first_not form asked rs)) f) ∙ q.found

  pub found_turn : {r : Bool} {n : ℕ} → FoundFrom form asked rest k t → n ≡ k + 1 → r ≡ passes form asked x → r ≡ true → FoundFrom form asked next n t
  unfolding if◌then◌otherwise◌
  found_turn {r} {n} q i f p =
      let rs = records_in (record_size form) (q.most - 1) next in
      let yes : passes form asked x ≡ true = sym f ∙ p in
      rw i
      (record {
        most = q.most - 1;
        enough = omega (arith, q.enough, chunk_less (record_size form) x next e (rw (← s) l) g (size-least form));
        found = later-one k (first_not form asked rs) ∙ ap (λ (b : Bool). later k (if b then one_later (first_not form asked rs) otherwise Some 0)) (sym yes) ∙ cut q;
      })

  pub found_here : {r : Bool} {n : ℕ} → FoundFrom form asked rest k t → n ≡ k → r ≡ passes form asked x → r ≡ false → Some n ≡ t
  unfolding if◌then◌otherwise◌
  found_here {r} {n} q i f p =
      let no : passes form asked x ≡ false = sym f ∙ p in
      ap Some (omega arith)
      ∙ ap (λ (b : Bool). later k (if b then one_later (first_not form asked (records_in (record_size form) (q.most - 1) next)) otherwise Some 0)) (sym no)
      ∙ cut q

pub found-end : {form : Form} {asked : Asked} {rest : List ℕ} {k : ℕ} {t : Option ℕ} → FoundFrom form asked rest k t → length rest ≡ 0 → None ≡ t
unfolding first_not
found-end {form} {asked} {rest} {k} {t} q h =
    let none : records_in (record_size form) q.most rest ≡ [] = ap (records_in (record_size form) q.most) (drop_of_length-le rest {i = 0} (omega arith)) ∙ records-none (record_size form) q.most in
    sym (ap (λ (rs : List (List ℕ)). later k (first_not form asked rs)) none) ∙ q.found

-- Where nothing is found, the first record passes, and nothing is found among the others.
later-nowhere : (f : Option ℕ) → one_later f ≡ None → f ≡ None
unfolding one_later
later-nowhere None e = refl
later-nowhere (Some n) e = absurd (let z : ◌≡◌ {A = ℕ} 0 1 = cc in omega arith)

pub none_found : (form : Form) (asked : Asked) (r : List ℕ) (rs : List (List ℕ)) → first_not form asked (r ∷ rs) ≡ None
    → (passes form asked r ≡ true) × (first_not form asked rs ≡ None)
unfolding first_not if◌then◌otherwise◌
none_found form asked r rs e = go (passes form asked r) refl e
  where
    go : (t : Bool) → passes form asked r ≡ t → (if t then one_later (first_not form asked rs) otherwise Some 0) ≡ None
        → (passes form asked r ≡ true) × (first_not form asked rs ≡ None)
    go true p h = (p, later-nowhere (first_not form asked rs) h)
    go false p h = absurd (let z : ◌≡◌ {A = ℕ} 0 1 = cc in omega arith)
