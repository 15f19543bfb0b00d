-- What the code's walk stands for.
use Rattle.std.specs.Prelude.{ℕ, List, [], ◌∷◌}
use Rattle.actx_places.specs.declared.places.groups.Group.{Group}
use Rattle.actx_places.specs.Walk as spec

-- the innermost first
abbrev pub onto : List Group → List Group → List Group
onto [] r = r
onto (g ∷ gs) r = onto gs (g ∷ r)

abbrev pub groups_of : List Group → List spec.Group
groups_of [] = []
groups_of (g ∷ gs) = spec.group g.start g.inner ∷ groups_of gs

abbrev pub groups : spec.Walk → List spec.Group
groups (spec.walk n ts ps gs) = gs

-- the parentheses of an expression that end here
abbrev pub close_to : ℕ → ℕ → spec.Walk → spec.Walk
close_to c o (spec.walk n ts ps gs) = spec.close_some c o n ts ps gs
