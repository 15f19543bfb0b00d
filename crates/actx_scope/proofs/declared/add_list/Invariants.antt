use Rattle.std.proofs.Common.{◌≡◌, ◌++◌, drop}
use Rattle.actx_grammar.specs.Static.{list_declared}
use Rattle.actx_ast.specs.View.{stmts_view}
use Rattle.actx_scope.proofs.declared.add_list.Given as goal

abbrev pub invariant-loop-statement : goal.invariant-loop-statement
invariant-loop-statement l = l.names.items ++ list_declared l.node (stmts_view (drop l.statement-index l.statement-items)) ≡ l.initial.names.items ++ list_declared l.at (stmts_view l.statement-items)
