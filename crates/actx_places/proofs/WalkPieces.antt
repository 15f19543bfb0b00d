-- The last piece of what a walk has yet to do is done first.
use Rattle.std.proofs.Common.{◌≡◌, ℕ, ◌+◌, List, [], ◌∷◌, ◌++◌, refl, ap, arith}
use Rattle.actx_places.specs.declared.places.Item.{Item}
use Rattle.actx_places.specs.Walk.{Walk}
use Rattle.actx_places.specs.WalkWork.{act, acts, weight, weigh}

pub acts_last : (ps : List Item) (p : Item) (w : Walk) → acts (ps ++ p ∷ []) w ≡ acts ps (act p w)
acts_last [] p w = refl
acts_last (q ∷ ps) p w = ap (act q) (acts_last ps p w)

pub weigh_last : (ps : List Item) (p : Item) → weigh (ps ++ p ∷ []) ≡ weigh ps + weight p
weigh_last [] p = omega arith
weigh_last (q ∷ ps) p = omega (arith, weigh_last ps p)
