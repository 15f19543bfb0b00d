-- Parameters that are bound one after another.
use Rattle.std.proofs.Common.{◌≡◌, ℕ, zero, suc, ◌+◌, ◌<◌, arith, length, get_or, drop, List, [], ◌∷◌, refl, sym, ap, ◌∙◌}
use Rattle.std.proofs.lemmas.List.{drop_more}
use Rattle.actx_data.specs.declared.value.Value.{Value}
use Rattle.actx_rules.specs.State.{Cell, with_params, with_cell, param}
use Rattle.actx_target.specs.MethodView.{argument}

-- the arguments that are left, with the first
one_more : (x : List ℕ) (xs : List (List ℕ)) (vs : List Value) (i : ℕ) (cs : List Cell) → with_params (x ∷ xs) (drop i vs) cs ≡ with_params xs (drop (suc i) vs) (with_cell (param x (argument vs i)) cs)
one_more x xs [] zero cs = refl
one_more x xs [] (suc i) cs = refl
one_more x xs (v ∷ vs) zero cs = refl
one_more x xs (v ∷ vs) (suc i) cs = one_more x xs vs i cs

pub params_more : (xs : List (List ℕ)) (vs : List Value) (i : ℕ) (x : List ℕ) (v : Value) (cs ds : List Cell) → i < length xs → x ≡ get_or xs i x → v ≡ argument vs i → ds ≡ with_cell (param x v) cs → with_params (drop i xs) (drop i vs) cs ≡ with_params (drop (i + 1) xs) (drop (i + 1) vs) ds
params_more xs vs i x v cs ds lt is e h =
    let left : drop i xs ≡ x ∷ drop (i + 1) xs = drop_more xs i x lt ∙ ap (λ z. z ∷ drop (i + 1) xs) (sym is) in
    let bound : ds ≡ with_cell (param x (argument vs i)) cs = h ∙ ap (λ z. with_cell (param x z) cs) e in
    let up : suc i ≡ i + 1 = omega arith in
    ap (λ zs. with_params zs (drop i vs) cs) left
    ∙ one_more x (drop (i + 1) xs) vs i cs
    ∙ ap (λ n. with_params (drop (i + 1) xs) (drop n vs) (with_cell (param x (argument vs i)) cs)) up
    ∙ ap (with_params (drop (i + 1) xs) (drop (i + 1) vs)) (sym bound)
