-- Items that are copied one after another.
use Rattle.std.proofs.Common.{◌≡◌, ℕ, ◌<◌, ◌+◌, List, [], ◌∷◌, ◌++◌, length, take, get_or, refl, ap, ap₂, sym, ◌∙◌, subst}
use Rattle.std.specs.List.{AllZip}
use Rattle.std.proofs.lemmas.List.{take_more}
use Rattle.std.proofs.lemmas.List.Elements.{AllZip-push}

pub twin_more : {A : Type 0} (S : A → A → Type 0) (xs made all : List A) (i : ℕ) (x y : A) → i < length xs → x ≡ get_or xs i x → AllZip S made (take i xs) → S y x → all ≡ made ++ y ∷ [] → AllZip S all (take (i + 1) xs)
twin_more {A} S xs made all i x y fits is so_far same grown =
    let right : take i xs ++ x ∷ [] ≡ take (i + 1) xs = ap (λ z. take i xs ++ z ∷ []) is ∙ sym (take_more xs i x fits) in
    subst (λ z. AllZip S z (take (i + 1) xs)) (sym grown) (subst (λ z. AllZip S (made ++ y ∷ []) z) right (AllZip-push S made (take i xs) y x so_far same))

pub equal_lists : {A : Type 0} (xs ys : List A) → AllZip (λ a b. a ≡ b) xs ys → xs ≡ ys
equal_lists [] [] h = refl
equal_lists [] (y ∷ ys) h = absurd h
equal_lists (x ∷ xs) [] h = absurd h
equal_lists (x ∷ xs) (y ∷ ys) h = ap₂ (λ z zs. z ∷ zs) h.0 (equal_lists xs ys h.1)
