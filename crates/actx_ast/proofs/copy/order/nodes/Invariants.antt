use Rattle.std.proofs.Common.{◌≡◌, [], ◌∷◌}
use Rattle.actx_ast.specs.Copies.{built, waiting, work_seen, work_weigh}
use Rattle.actx_ast.proofs.copy.order.nodes.Given as goal

abbrev pub invariant-loop-next : goal.invariant-loop-next
invariant-loop-next l = built l.order.items (waiting l.work.items) ≡ work_seen l.whole ∷ []

abbrev pub decreases-loop-next : goal.decreases-loop-next
decreases-loop-next l = work_weigh l.work.items
