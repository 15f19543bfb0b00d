use Rattle.std.proofs.Common.{◌≡◌, drop}
use Rattle.actx_ast.specs.View.{stmts_view}
use Rattle.actx_rules.specs.State.{with_names}
use Rattle.actx_target.proofs.machine.statements.declare_list.Given as goal

abbrev pub invariant-loop-statement : goal.invariant-loop-statement
invariant-loop-statement l = with_names (stmts_view l.list) l.fn.scope ≡ with_names (stmts_view (drop l.statement-index l.list)) l.scope
