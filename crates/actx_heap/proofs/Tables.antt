-- Tables of properties and their lists.
use Rattle.std.proofs.Common.{◌≡◌, ℕ, arith, List, [], ◌∷◌, ◌++◌, map, Some, None, Bool, true, false, refl, ap, sym, ◌∙◌, if◌then◌else◌}
use Rattle.std.specs.Prelude.{◌==◌, ◌&&◌}
use Rattle.std.specs.List.{IsDistinct, AllByRecursion}
use Rattle.std.proofs.lemmas.Bool.Decides.{nat_tests}
use Rattle.std.specs.Map.{lookup}
use Rattle.indexmap.specs.IndexMap.{insert_entry}
use Rattle.actx_data.specs.declared.value.Value.{Value}
use Rattle.actx_heap.specs.Texts.{same_text}
use Rattle.actx_heap.specs.Properties.{prop_of, with_prop, with_props}
use Rattle.actx_heap.specs.Things.{Prop, prop_in}

abbrev Keyed : Type 0
Keyed = List ℕ × Value

pub prop_found : (es : List Keyed) (x : List ℕ) → lookup (same_text x) es ≡ prop_of x (map prop_in es)
prop_found [] x = refl
prop_found (e ∷ es) x = by_test (same_text x e.0) (prop_found es x)
  where
    by_test : (b : Bool) → lookup (same_text x) es ≡ prop_of x (map prop_in es) → (if b then Some e.1 else lookup (same_text x) es) ≡ (if b then Some e.1 else prop_of x (map prop_in es))
    by_test true ih = refl
    by_test false ih = ih

pub prop_put : (es : List Keyed) (x : List ℕ) (v : Value) → map prop_in (insert_entry same_text es x v) ≡ with_prop x v (map prop_in es)
prop_put [] x v = refl
prop_put (e ∷ es) x v = by_test (same_text x e.0) (prop_put es x v)
  where
    by_test : (b : Bool) → map prop_in (insert_entry same_text es x v) ≡ with_prop x v (map prop_in es) → map prop_in (if b then (e.0, v) ∷ es else e ∷ insert_entry same_text es x v) ≡ (if b then prop_in (e.0, v) ∷ map prop_in es else prop_in e ∷ with_prop x v (map prop_in es))
    by_test true ih = refl
    by_test false ih = ap (λ z. prop_in e ∷ z) ih

-- NAMES THAT DIFFER
flip_units : (a b : ℕ) → (a == b) ≡ (b == a)
flip_units a b = grind (arith, nat_tests)

pub flip_texts : (x y : List ℕ) → same_text x y ≡ same_text y x
flip_texts [] [] = refl
flip_texts [] (b ∷ y) = refl
flip_texts (a ∷ x) [] = refl
flip_texts (a ∷ x) (b ∷ y) = ap (λ z. z && same_text x y) (flip_units a b) ∙ ap (λ z. (b == a) && z) (flip_texts x y)

abbrev AllAbsent : List Keyed → List Prop → Type 0
AllAbsent [] qs = Unit {0}
AllAbsent (e ∷ es) qs = (prop_of e.0 qs ≡ None) × AllAbsent es qs

-- a name that isn't there goes last
last_prop : (x : List ℕ) (v : Value) (qs : List Prop) → prop_of x qs ≡ None → with_prop x v qs ≡ qs ++ prop_in (x, v) ∷ []
last_prop x v [] h = refl
last_prop x v (q ∷ qs) h = by_test (same_text x q.key) h (λ k. last_prop x v qs k)
  where
    by_test : (b : Bool) → (if b then Some q.value else prop_of x qs) ≡ None → (prop_of x qs ≡ None → with_prop x v qs ≡ qs ++ prop_in (x, v) ∷ []) → (if b then record { key = q.key; value = v } ∷ qs else q ∷ with_prop x v qs) ≡ q ∷ (qs ++ prop_in (x, v) ∷ [])
    by_test true k ih = absurd cc
    by_test false k ih = ap (λ z. q ∷ z) (ih k)

still_absent : (x k : List ℕ) (v : Value) (qs : List Prop) → prop_of x qs ≡ None → same_text k x ≡ false → prop_of x (qs ++ prop_in (k, v) ∷ []) ≡ None
still_absent x k v [] h d = ap (λ b. if b then Some v else None) (flip_texts x k ∙ d)
still_absent x k v (q ∷ qs) h d = by_test (same_text x q.key) h (λ j. still_absent x k v qs j d)
  where
    by_test : (b : Bool) → (if b then Some q.value else prop_of x qs) ≡ None → (prop_of x qs ≡ None → prop_of x (qs ++ prop_in (k, v) ∷ []) ≡ None) → (if b then Some q.value else prop_of x (qs ++ prop_in (k, v) ∷ [])) ≡ None
    by_test true j ih = j
    by_test false j ih = ih j

all_absent : (es : List Keyed) (k : List ℕ) (v : Value) (qs : List Prop) → AllAbsent es qs → AllByRecursion (λ y. same_text k y ≡ false) (map (λ e. e.0) es) → AllAbsent es (qs ++ prop_in (k, v) ∷ [])
all_absent [] k v qs a d = tt
all_absent (e ∷ es) k v qs a d = (still_absent e.0 k v qs a.0 d.0, all_absent es k v qs a.1 d.1)

append_one : (qs : List Prop) (p : Prop) (ps : List Prop) → (qs ++ p ∷ []) ++ ps ≡ qs ++ p ∷ ps
append_one [] p ps = refl
append_one (q ∷ qs) p ps = ap (λ z. q ∷ z) (append_one qs p ps)

-- names that differ, set one after another, stand in their order
set_distinct : (es : List Keyed) (qs : List Prop) → IsDistinct same_text (map (λ e. e.0) es) → AllAbsent es qs → with_props es qs ≡ qs ++ map prop_in es
unfolding IsDistinct
set_distinct [] qs d a = sym (append_none qs)
  where
    append_none : (ps : List Prop) → ps ++ [] ≡ ps
    append_none [] = refl
    append_none (p ∷ ps) = ap (λ z. p ∷ z) (append_none ps)
set_distinct (e ∷ es) qs d a =
    ap (with_props es) (last_prop e.0 e.1 qs a.0)
    ∙ set_distinct es (qs ++ prop_in (e.0, e.1) ∷ []) d.1 (all_absent es e.0 e.1 qs a.1 d.0)
    ∙ append_one qs (prop_in (e.0, e.1)) (map prop_in es)

none_there : (es : List Keyed) → AllAbsent es []
none_there [] = tt
none_there (e ∷ es) = (refl, none_there es)

pub props_again : (es : List Keyed) → IsDistinct same_text (map (λ e. e.0) es) → with_props es [] ≡ map prop_in es
props_again es d = set_distinct es [] d (none_there es)
