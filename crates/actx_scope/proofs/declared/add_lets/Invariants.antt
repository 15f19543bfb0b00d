use Rattle.std.proofs.Common.{◌≡◌, ◌++◌, drop}
use Rattle.actx_grammar.specs.Static.{lets_declared}
use Rattle.actx_ast.specs.View.{lets_view}
use Rattle.actx_scope.proofs.declared.add_lets.Given as goal

abbrev pub invariant-loop-item : goal.invariant-loop-item
invariant-loop-item l = l.names.items ++ lets_declared l.node (lets_view (drop l.item-index l.item-items)) ≡ l.initial.names.items ++ lets_declared l.at (lets_view l.item-items)
