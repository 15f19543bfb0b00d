use Rattle.std.proofs.Common.{◌≡◌, length, drop, ◌-◌}
use Rattle.actx_places.specs.Walk as spec
use Rattle.actx_places.specs.WalkView.{close_to}
use Rattle.actx_places.proofs.places.walk.Walk.close.Given as goal

abbrev pub invariant-loop-inner : goal.invariant-loop-inner
invariant-loop-inner l = close_to l.start l.inner l.self ≡ spec.close l.fn.self

abbrev pub decreases-loop-inner : goal.decreases-loop-inner
decreases-loop-inner l = l.inner
