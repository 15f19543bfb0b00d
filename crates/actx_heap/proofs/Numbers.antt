-- The number that digits are, where greater ones are cut off.
use Rattle.std.proofs.Common.{◌≡◌, ℕ, ◌+◌, ◌-◌, ◌*◌, ◌<◌, arith, length, get_or, drop, List, [], ◌∷◌, sym, ap, ◌∙◌}
use Rattle.std.specs.Prelude.{min}
use Rattle.std.proofs.lemmas.List.{drop_more}
use Rattle.actx_heap.specs.Texts.{number_from}

-- numbers that are cut off alike stay so with one more digit
cut_digit : (top a b d : ℕ) → min a top ≡ min b top → min (a * 10 + d) top ≡ min (b * 10 + d) top
cut_digit top a b d h = omega (arith, h)

pub cut_digits : (top a b : ℕ) (cs : List ℕ) → min a top ≡ min b top → min (number_from a cs) top ≡ min (number_from b cs) top
cut_digits top a b [] h = h
cut_digits top a b (c ∷ cs) h = cut_digits top (a * 10 + (c - 48)) (b * 10 + (c - 48)) cs (cut_digit top a b (c - 48) h)

-- what is left of the digits, with the first
pub digits_more : (top n m : ℕ) (cs : List ℕ) (i c : ℕ) → i < length cs → c ≡ get_or cs i c → min m top ≡ min (n * 10 + (c - 48)) top → min (number_from n (drop i cs)) top ≡ min (number_from m (drop (i + 1) cs)) top
digits_more top n m cs i c lt is h =
    let left : drop i cs ≡ c ∷ drop (i + 1) cs = drop_more cs i c lt ∙ ap (λ z. z ∷ drop (i + 1) cs) (sym is) in
    ap (λ z. min (number_from n z) top) left ∙ cut_digits top (n * 10 + (c - 48)) m (drop (i + 1) cs) (sym h)
