use Rattle.std.proofs.Common.{◌≡◌, length, drop, ◌-◌}
use Rattle.actx_places.specs.Walk as spec
use Rattle.actx_places.proofs.places.walk.Walk.more_names.Given as goal

abbrev pub invariant-loop-name : goal.invariant-loop-name
invariant-loop-name l = spec.more_names (drop l._name-index l.names) l.self ≡ spec.more_names l.names l.fn.self
