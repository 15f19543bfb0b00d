-- The last piece comes first.
use Rattle.std.proofs.Common.{◌≡◌, List, [], ◌∷◌, ◌++◌, ◌+◌, refl, arith}
use Rattle.actx_nodes.specs.Walk.{heads, rest_onto, rest_of, weight, weigh}
use Rattle.actx_nodes.specs.declared.label.Head.{Head}
use Rattle.actx_nodes.specs.declared.walk.Piece.{Piece}

rest_onto_last : (ps : List Piece) (p : Piece) (r : List Head) → rest_onto (ps ++ p ∷ []) r ≡ heads p ++ rest_onto ps r
rest_onto_last [] p r = refl
rest_onto_last (q ∷ ps) p r = rest_onto_last ps p (heads q ++ r)

pub rest_last : (ps : List Piece) (p : Piece) → rest_of (ps ++ p ∷ []) ≡ heads p ++ rest_of ps
rest_last ps p = rest_onto_last ps p []

pub weigh_last : (ps : List Piece) (p : Piece) → weigh (ps ++ p ∷ []) ≡ weigh ps + weight p
weigh_last [] p = omega arith
weigh_last (q ∷ ps) p = omega (arith, weigh_last ps p)
