-- Tables of properties, of entries and of things shown, and their lists.
use Rattle.std.proofs.Common.{◌≡◌, ℕ, arith, ◌++◌, ◌+◌, List, [], ◌∷◌, map, Some, Bool, true, false, refl, ap, if◌then◌else◌}
use Rattle.std.specs.Prelude.{nat_eq, not, ◌||◌}
use Rattle.std.specs.List.{list_any, position_or_len}
use Rattle.std.proofs.lemmas.Bool.{eq-eqb}
use Rattle.std.specs.Map.{lookup}
use Rattle.indexmap.specs.IndexMap.{insert_entry}
use Rattle.indexmap.specs.IndexSet.{insert_key}
use Rattle.actx_data.specs.declared.value.Value.TheVariants as v
use Rattle.actx_data.specs.declared.value.Value.{Value}
use Rattle.actx_rules.specs.Texts.{same_text}
use Rattle.actx_rules.specs.Properties.{prop_of, with_prop, entry_of, with_entry, place_in, is_in, more_shown}
use Rattle.actx_target.specs.Cells.{prop_in, entry_in}

abbrev Keyed : Type 0
Keyed = List ℕ × Value

pub prop_found : (es : List Keyed) (x : List ℕ) → lookup (same_text x) es ≡ prop_of x (map prop_in es)
prop_found [] x = refl
prop_found (e ∷ es) x = by_test (same_text x e.0) (prop_found es x)
  where
    by_test : (b : Bool) → lookup (same_text x) es ≡ prop_of x (map prop_in es) → (if b then Some e.1 else lookup (same_text x) es) ≡ (if b then Some e.1 else prop_of x (map prop_in es))
    by_test true ih = refl
    by_test false ih = ih

pub prop_put : (es : List Keyed) (x : List ℕ) (v : Value) → map prop_in (insert_entry same_text es x v) ≡ with_prop x v (map prop_in es)
prop_put [] x v = refl
prop_put (e ∷ es) x v = by_test (same_text x e.0) (prop_put es x v)
  where
    by_test : (b : Bool) → map prop_in (insert_entry same_text es x v) ≡ with_prop x v (map prop_in es) → map prop_in (if b then (e.0, v) ∷ es else e ∷ insert_entry same_text es x v) ≡ (if b then prop_in (e.0, v) ∷ map prop_in es else prop_in e ∷ with_prop x v (map prop_in es))
    by_test true ih = refl
    by_test false ih = ap (λ z. prop_in e ∷ z) ih

abbrev Placed : Type 0
Placed = ℕ × Value

pub entry_found : (es : List Placed) (k : ℕ) → lookup (nat_eq k) es ≡ entry_of k (map entry_in es)
entry_found [] k = refl
entry_found (e ∷ es) k = by_test (nat_eq k e.0) (entry_found es k)
  where
    by_test : (b : Bool) → lookup (nat_eq k) es ≡ entry_of k (map entry_in es) → (if b then Some e.1 else lookup (nat_eq k) es) ≡ (if b then Some e.1 else entry_of k (map entry_in es))
    by_test true ih = refl
    by_test false ih = ih

pub entry_put : (es : List Placed) (k : ℕ) (v : Value) → map entry_in (insert_entry nat_eq es k v) ≡ with_entry k v (map entry_in es)
entry_put [] k v = refl
entry_put (e ∷ es) k v = by_test (nat_eq k e.0) (entry_put es k v)
  where
    by_test : (b : Bool) → map entry_in (insert_entry nat_eq es k v) ≡ with_entry k v (map entry_in es) → map entry_in (if b then (e.0, v) ∷ es else e ∷ insert_entry nat_eq es k v) ≡ (if b then entry_in (e.0, v) ∷ map entry_in es else entry_in e ∷ with_entry k v (map entry_in es))
    by_test true ih = refl
    by_test false ih = ap (λ z. entry_in e ∷ z) ih

-- THINGS SHOWN
is_among : (k : ℕ) (js : List ℕ) → list_any (nat_eq k) js ≡ is_in k js
is_among k [] = refl
is_among k (j ∷ js) = by_test (nat_eq k j) (is_among k js)
  where
    by_test : (b : Bool) → list_any (nat_eq k) js ≡ is_in k js → (b || list_any (nat_eq k) js) ≡ (if b then true else is_in k js)
    by_test true ih = refl
    by_test false ih = ih

pub shown_put : (k : ℕ) (js : List ℕ) → insert_key nat_eq js k ≡ more_shown js (v.Thing k)
shown_put k js = ap (λ b. if b then js else js ++ k ∷ []) (is_among k js)

place_more : (n k : ℕ) (js : List ℕ) → place_in n k (js ++ k ∷ []) ≡ place_in n k js
place_more n k [] = ap (λ b. if b then n else n + 1) (eq-eqb k k refl)
place_more n k (j ∷ js) = by_test (nat_eq k j) (place_more (n + 1) k js)
  where
    by_test : (b : Bool) → place_in (n + 1) k (js ++ k ∷ []) ≡ place_in (n + 1) k js → (if b then n else place_in (n + 1) k (js ++ k ∷ [])) ≡ (if b then n else place_in (n + 1) k js)
    by_test true ih = refl
    by_test false ih = ih

place_is : (n k : ℕ) (js : List ℕ) → place_in n k js ≡ n + position_or_len (nat_eq k) js
place_is n k [] = omega arith
place_is n k (j ∷ js) = by_test (nat_eq k j) (place_is (n + 1) k js)
  where
    by_test : (b : Bool) → place_in (n + 1) k js ≡ (n + 1) + position_or_len (nat_eq k) js → (if b then n else place_in (n + 1) k js) ≡ n + (if not b then 1 + position_or_len (nat_eq k) js else 0)
    by_test true ih = omega arith
    by_test false ih = omega (arith, ih)

-- the place of a thing among those shown, once it is there
pub shown_place : (k : ℕ) (js : List ℕ) → position_or_len (nat_eq k) js + 1 ≡ place_in 1 k (more_shown js (v.Thing k))
shown_place k js = by_test (is_in k js)
  where
    by_test : (b : Bool) → position_or_len (nat_eq k) js + 1 ≡ place_in 1 k (if b then js else js ++ k ∷ [])
    by_test true = omega (arith, place_is 1 k js)
    by_test false = omega (arith, place_is 1 k js, place_more 1 k js)
