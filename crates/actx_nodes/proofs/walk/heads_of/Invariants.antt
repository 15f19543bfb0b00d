use Rattle.std.proofs.Common.{◌≡◌, ◌++◌}
use Rattle.actx_ast.specs.View.{program_view}
use Rattle.actx_nodes.specs.Heads.{stmts_heads}
use Rattle.actx_nodes.specs.Walk.{rest_of, weigh}
use Rattle.actx_nodes.proofs.walk.heads_of.Given as goal

abbrev pub invariant-loop-next : goal.invariant-loop-next
invariant-loop-next l = l.out.items ++ rest_of l.work.items ≡ stmts_heads (program_view l.program)

abbrev pub decreases-loop-next : goal.decreases-loop-next
decreases-loop-next l = weigh l.work.items
