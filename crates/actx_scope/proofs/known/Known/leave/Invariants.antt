use Rattle.std.proofs.Common.{◌≡◌, length}
use Rattle.actx_scope.specs.Found.{outer_part}
use Rattle.actx_scope.proofs.known.Known.leave.Given as goal

abbrev pub invariant-loop-self : goal.invariant-loop-self
invariant-loop-self l = outer_part l.count l.self ≡ outer_part l.count l.initial.self

abbrev pub decreases-loop-self : goal.decreases-loop-self
decreases-loop-self l = length l.self
