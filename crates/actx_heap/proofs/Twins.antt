-- Things that are copied one after another.
use Rattle.std.proofs.Common.{◌≡◌, ℕ, ◌<◌, ◌+◌, List, [], ◌∷◌, ◌++◌, length, take, get_or, refl, ap, sym, ◌∙◌, subst}
use Rattle.std.proofs.lemmas.List.{take_more}
use Rattle.std.proofs.lemmas.List.Elements.{AllZip-push}
use Rattle.actx_heap.specs.Things.{ThingSame, HeapSame}
use Rattle.actx_heap.specs.Views.{thing_of, things_of}
use Rattle.actx_heap.specs.declared.thing.Thing.{Thing}

one_more : {C : Type 0} (ts : List (Thing C)) (t : Thing C) → things_of (ts ++ t ∷ []) ≡ things_of ts ++ thing_of t ∷ []
one_more [] t = refl
one_more (s ∷ ts) t = ap (λ z. thing_of s ∷ z) (one_more ts t)

pub twin_more : {C : Type 0} (S : C → C → Type 0) (xs made all : List (Thing C)) (i : ℕ) (x y : Thing C) → i < length xs → x ≡ get_or xs i x → HeapSame S (things_of made) (things_of (take i xs)) → ThingSame S (thing_of y) (thing_of x) → all ≡ made ++ y ∷ [] → HeapSame S (things_of all) (things_of (take (i + 1) xs))
twin_more {C} S xs made all i x y fits is so_far same grown =
    let left : things_of made ++ thing_of y ∷ [] ≡ things_of all = sym (one_more made y) ∙ ap things_of (sym grown) in
    let right : things_of (take i xs) ++ thing_of x ∷ [] ≡ things_of (take (i + 1) xs) =
    sym (one_more (take i xs) x) ∙ ap (λ z. things_of (take i xs ++ z ∷ [])) is ∙ ap things_of (sym (take_more xs i x fits)) in
    let pushed : HeapSame S (things_of made ++ thing_of y ∷ []) (things_of (take i xs) ++ thing_of x ∷ []) = AllZip-push (ThingSame S) (things_of made) (things_of (take i xs)) (thing_of y) (thing_of x) so_far same in
    subst (λ z. HeapSame S z (things_of (take (i + 1) xs))) left (subst (λ z. HeapSame S (things_of made ++ thing_of y ∷ []) z) right pushed)
