-- Tests of texts, and what they tell.
use Rattle.std.proofs.Common.{◌≡◌, ◌↔◌, ◌==◌, ℕ, Bool, true, List, Contains, IsTrue, refl, sym, subst}
use Rattle.std.proofs.lemmas.Bool.Decides.{same_from_decides, Decides-eqb}
use Rattle.std.proofs.lemmas.Cmp.{nat_list_eq_equiv}
use Rattle.std.proofs.lemmas.Map.Views.{Contains-from_any, list_any-from_Contains}
use Rattle.std.proofs.lemmas.Slice.Eq.{slice_eq-Decides}
use Rattle.std.specs.Cmp.Lexicographic.{pointwise}
use Rattle.std.specs.List.{list_any}

same_is : (x y : List ℕ) → pointwise ◌==◌ x y ≡ true → x ≡ y
same_is x y h = (slice_eq-Decides Decides-eqb x y (pointwise ◌==◌ x y) refl).0 h

-- two texts are the same
pub same : (r : Bool) (x y : List ℕ) → r ≡ pointwise ◌==◌ x y → IsTrue r ↔ (x ≡ y)
same r x y e = subst (λ b. IsTrue b ↔ (x ≡ y)) (sym e) (slice_eq-Decides Decides-eqb x y (pointwise ◌==◌ x y) refl)

-- a text is one of some
pub is_one : (r : Bool) (ks : List (List ℕ)) (x : List ℕ) → r ≡ list_any (pointwise ◌==◌ x) ks → IsTrue r ↔ Contains ks x
is_one r ks x e = subst (λ b. IsTrue b ↔ Contains ks x) (sym e) (Contains-from_any same_is x ks, list_any-from_Contains nat_list_eq_equiv x ks)

-- a test of two texts that tells that they are the same is the test of all their characters
pub is_pointwise : (r : Bool) (x y : List ℕ) → (r ≡ true) ↔ (x ≡ y) → r ≡ pointwise ◌==◌ x y
is_pointwise r x y h = same_from_decides r (pointwise ◌==◌ x y) h (slice_eq-Decides Decides-eqb x y (pointwise ◌==◌ x y) refl)
