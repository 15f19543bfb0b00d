use Rattle.std.proofs.Common.{rules, ◌≡◌, ℕ, ◌<◌, ◌+◌, List, [], ◌∷◌, ◌++◌, length, take, get_or, subst}
use Rattle.std.specs.List.{AllZip}
use Rattle.std.proofs.lemmas.List.{take_more}
use Rattle.std.proofs.lemmas.List.Elements.{AllZip-push}
use Rattle.actx_data.proofs.twin.copy_all.Goals as goal

-- one more value and its copy
one_more : {A : Type 0} (S : A → A → Type 0) (xs made all : List A) (i : ℕ) (x y : A) → i < length xs → x ≡ get_or xs i x → AllZip S made (take i xs) → S y x → all ≡ made ++ y ∷ [] → AllZip S all (take (i + 1) xs)
one_more {A} S xs made all i x y fits is so_far same grown =
    let P : A → Type 0 = λ z. AllZip S (made ++ y ∷ []) (take i xs ++ z ∷ []) in
    rw (grown, take_more xs i x fits) (subst P is (AllZip-push S made (take i xs) y x so_far same))

pub loop-item-preserved : goal.loop-item-preserved
loop-item-preserved g c =
    let fits : c.loop-item.item-index < length c.args.items.now = search rules in
    one_more g.T.Twin.same c.args.items.now c.loop-item.twins.items c.push.new.self.items c.loop-item.item-index c.item-item.result c.in_ok-twin.twin fits c.item-item.is c.loop-item.invariant c.in_ok-twin.ensures c.in_ok-push.ensures.items
