use Rattle.std.proofs.Common.{◌≡◌, ◌++◌, length}
use Rattle.actx_scope.proofs.known.declare_all.Given as goal

abbrev pub invariant-loop-name : goal.invariant-loop-name
invariant-loop-name l = l.rest.items ++ l.known ≡ l.initial.rest.items ++ l.initial.known

abbrev pub decreases-loop-name : goal.decreases-loop-name
decreases-loop-name l = length l.rest.items
