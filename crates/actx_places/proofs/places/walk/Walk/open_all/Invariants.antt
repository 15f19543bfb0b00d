use Rattle.std.proofs.Common.{◌≡◌, length}
use Rattle.actx_places.specs.Walk as spec
use Rattle.actx_places.proofs.places.walk.Walk.open_all.Given as goal

abbrev pub invariant-loop-self : goal.invariant-loop-self
invariant-loop-self l = spec.open_all (spec.rest l.self) l.self ≡ spec.open_all (spec.rest l.fn.self) l.fn.self

abbrev pub decreases-loop-self : goal.decreases-loop-self
decreases-loop-self l = length (spec.rest l.self)
