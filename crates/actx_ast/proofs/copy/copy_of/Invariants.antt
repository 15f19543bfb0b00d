use Rattle.std.proofs.Common.{◌≡◌, [], ◌∷◌, length}
use Rattle.actx_ast.specs.Copies.{built, copied, work_seen}
use Rattle.actx_ast.proofs.copy.copy_of.Given as goal

abbrev pub invariant-loop-node : goal.invariant-loop-node
invariant-loop-node l = built l.order.items (copied l.done.items) ≡ work_seen l.whole ∷ []

abbrev pub decreases-loop-node : goal.decreases-loop-node
decreases-loop-node l = length l.order.items
