use Rattle.std.proofs.Common.{◌≡◌, ◌+◌, take}
use Rattle.actx_ast.specs.View.{clauses_view}
use Rattle.actx_nodes.specs.Heads.{clause_labels, clauses_count}
use Rattle.actx_nodes.proofs.walk.stmts.clause_table.Given as goal

abbrev pub invariant-loop-row : goal.invariant-loop-row
invariant-loop-row l =
    (l.table.items ≡ clause_labels 1 (clauses_view (take l.row-index l.rows)))
    × (l.start ≡ 1 + clauses_count (clauses_view (take l.row-index l.rows)))
