use Rattle.std.proofs.Common.{◌↔◌, drop}
use Rattle.actx_ast.specs.Clauses.{DefaultLast}
use Rattle.actx_ast.specs.View.{clauses_view}
use Rattle.actx_ast.proofs.sides.nodes.is_default_last.Given as goal

abbrev pub invariant-loop-i : goal.invariant-loop-i
invariant-loop-i l = DefaultLast (clauses_view (drop l.i l.clauses)) ↔ DefaultLast (clauses_view l.clauses)
