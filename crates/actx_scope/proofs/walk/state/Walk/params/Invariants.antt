use Rattle.std.proofs.Common.{◌≡◌, drop}
use Rattle.actx_scope.specs.Machine as m
use Rattle.actx_scope.specs.States.{state}
use Rattle.actx_scope.proofs.walk.state.Walk.params.Given as goal

abbrev pub invariant-loop-name : goal.invariant-loop-name
invariant-loop-name l = m.params_walk (drop l.name-index l.name-items) (state l.self) ≡ m.params_walk l.name-items (state l.initial.self)
