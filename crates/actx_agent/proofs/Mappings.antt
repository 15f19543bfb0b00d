-- A variable that is set in a list of pairs by its place.
use Rattle.std.proofs.Common.{arith, suc, ◌≡◌, ℕ, List, [], ◌∷◌, ◌++◌, map, Option, Some, None, Bool, true, false, refl, ap, sym, ◌∙◌, if◌then◌else◌, subst}
use Rattle.std.specs.Prelude.{option_map, position, ◌+◌, length, cond, not, nat_lt, nat_eq, slice_set}
use Rattle.std.specs.List.{position_or_len, IsDistinct, AllByRecursion}
use Rattle.std.proofs.lemmas.Bool.Decides.{nat_tests}
use Rattle.actx_data.specs.declared.value.Value.{Value}
use Rattle.actx_agent.specs.Mapping.{with_mapped}

abbrev Pair : Type 0
Pair = ℕ × Value

zero_below : (n : ℕ) → nat_lt 0 (suc n) ≡ true
zero_below n = grind (arith, nat_tests)

one_further : (m n : ℕ) → nat_lt (1 + m) (suc n) ≡ nat_lt m n
one_further m n = grind (arith, nat_tests)

-- the place of what passes a test is the first, or one further than in the rest
first_place : {A : Type 0} (p : A → Bool) (e : A) (es : List A) → true ≡ p e → position p (e ∷ es) ≡ Some 0
first_place p e es h = by_test (p e) h
  where
    by_test : (b : Bool) → true ≡ b → cond (nat_lt (cond (not b) (1 + position_or_len p es) 0) (suc (length es))) (Some (cond (not b) (1 + position_or_len p es) 0)) None ≡ Some 0
    by_test true k = ap (λ q. cond q (Some 0) None) (zero_below (length es))
    by_test false k = absurd cc

further_place : {A : Type 0} (p : A → Bool) (e : A) (es : List A) → false ≡ p e → position p (e ∷ es) ≡ option_map (λ i. suc i) (position p es)
further_place p e es h = by_test (p e) h
  where
    m : ℕ
    m = position_or_len p es

    one : 1 + m ≡ suc m
    one = omega (arith)

    by_order : (b : Bool) → cond b (Some (1 + m)) None ≡ option_map (λ i. suc i) (cond b (Some m) None)
    by_order true = ap (λ i. Some i) one
    by_order false = refl

    by_test : (b : Bool) → false ≡ b → cond (nat_lt (cond (not b) (1 + m) 0) (suc (length es))) (Some (cond (not b) (1 + m) 0)) None ≡ option_map (λ i. suc i) (position p es)
    by_test true k = absurd cc
    by_test false k = ap (λ q. cond q (Some (1 + m)) None) (one_further m (length es)) ∙ by_order (nat_lt m (length es))

abbrev is_at : ℕ → Pair → Bool
is_at n e = nat_eq e.0 n

pub set_there : (es : List Pair) (n : ℕ) (v : Value) (i : ℕ) → Some i ≡ position (λ e. nat_eq e.0 n) es → slice_set es i (n, v) ≡ with_mapped n v es
set_there [] n v i h = absurd cc
set_there (e ∷ es) n v i h = by_test (nat_eq e.0 n) refl (λ j. set_there es n v j)
  where
    Behind : Type 0
    Behind = (j : ℕ) → Some j ≡ position (is_at n) es → slice_set es j (n, v) ≡ with_mapped n v es

    by_place : (o : Option ℕ) → o ≡ position (is_at n) es → Some i ≡ option_map (λ j. suc j) o → Behind → slice_set (e ∷ es) i (n, v) ≡ e ∷ with_mapped n v es
    by_place None k q ih = absurd cc
    by_place (Some j) k q ih =
        let r : i ≡ suc j = cc in
        ap (λ z. slice_set (e ∷ es) z (n, v)) r ∙ ap (λ z. e ∷ z) (ih j k)

    by_test : (b : Bool) → b ≡ nat_eq e.0 n → Behind → slice_set (e ∷ es) i (n, v) ≡ (if b then (n, v) ∷ es else e ∷ with_mapped n v es)
    by_test true k ih =
        let q : Some i ≡ Some 0 = h ∙ first_place (is_at n) e es k in
        let r : i ≡ 0 = cc in
        ap (λ z. slice_set (e ∷ es) z (n, v)) r
    by_test false k ih = by_place (position (is_at n) es) refl (h ∙ further_place (is_at n) e es k) ih

pub set_last : (es : List Pair) (n : ℕ) (v : Value) → None ≡ position (λ e. nat_eq e.0 n) es → es ++ (n, v) ∷ [] ≡ with_mapped n v es
set_last [] n v h = refl
set_last (e ∷ es) n v h = by_test (nat_eq e.0 n) refl (set_last es n v)
  where
    Behind : Type 0
    Behind = None ≡ position (is_at n) es → es ++ (n, v) ∷ [] ≡ with_mapped n v es

    by_place : (o : Option ℕ) → o ≡ position (is_at n) es → None ≡ option_map (λ j. suc j) o → Behind → es ++ (n, v) ∷ [] ≡ with_mapped n v es
    by_place None k q ih = ih k
    by_place (Some j) k q ih = absurd cc

    by_test : (b : Bool) → b ≡ nat_eq e.0 n → Behind → e ∷ (es ++ (n, v) ∷ []) ≡ (if b then (n, v) ∷ es else e ∷ with_mapped n v es)
    by_test true k ih =
        let q : ◌≡◌ {A = Option ℕ} None (Some 0) = h ∙ first_place (is_at n) e es k in
        absurd cc
    by_test false k ih = ap (λ z. e ∷ z) (by_place (position (is_at n) es) refl (h ∙ further_place (is_at n) e es k) ih)

-- numbers that differ still do
abbrev numbers : List Pair → List ℕ
numbers es = map (λ e. e.0) es

apart_from : (k n : ℕ) (v : Value) (es : List Pair) → AllByRecursion (λ y. nat_eq k y ≡ false) (numbers es) → nat_eq k n ≡ false → AllByRecursion (λ y. nat_eq k y ≡ false) (numbers (with_mapped n v es))
apart_from k n v [] a d = (d, tt)
apart_from k n v (e ∷ es) a d = by_test (nat_eq e.0 n) (apart_from k n v es a.1 d)
  where
    by_test : (b : Bool) → AllByRecursion (λ y. nat_eq k y ≡ false) (numbers (with_mapped n v es)) → AllByRecursion (λ y. nat_eq k y ≡ false) (numbers (if b then (n, v) ∷ es else e ∷ with_mapped n v es))
    by_test true ih = (d, a.1)
    by_test false ih = (a.0, ih)

equal_of : (a b : ℕ) → true ≡ nat_eq a b → a ≡ b
equal_of a b h = grind (arith, nat_tests)

pub still_distinct : (es : List Pair) (n : ℕ) (v : Value) → IsDistinct nat_eq (numbers es) → IsDistinct nat_eq (numbers (with_mapped n v es))
unfolding IsDistinct
still_distinct [] n v d = (tt, tt)
still_distinct (e ∷ es) n v d = by_test (nat_eq e.0 n) refl (still_distinct es n v d.1)
  where
    by_test : (b : Bool) → b ≡ nat_eq e.0 n → IsDistinct nat_eq (numbers (with_mapped n v es)) → IsDistinct nat_eq (numbers (if b then (n, v) ∷ es else e ∷ with_mapped n v es))
    by_test true k ih = subst (λ z. IsDistinct nat_eq (z ∷ numbers es)) (equal_of e.0 n k) d
    by_test false k ih = (apart_from e.0 n v es d.0 (sym k), ih)

pub none_distinct : (es : List Pair) → es ≡ [] → IsDistinct nat_eq (numbers es)
unfolding IsDistinct
none_distinct [] h = tt
none_distinct (e ∷ es) h = absurd cc
