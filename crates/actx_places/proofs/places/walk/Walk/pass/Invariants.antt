use Rattle.std.proofs.Common.{◌≡◌}
use Rattle.actx_places.specs.Walk as spec
use Rattle.actx_places.proofs.places.walk.Walk.pass.Given as goal

abbrev pub invariant-loop-left : goal.invariant-loop-left
invariant-loop-left l = spec.pass l.left l.self ≡ spec.pass l.count l.fn.self

abbrev pub decreases-loop-left : goal.decreases-loop-left
decreases-loop-left l = l.left
