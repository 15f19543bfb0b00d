use Rattle.std.proofs.Common.{◌≡◌, ◌++◌, drop}
use Rattle.actx_grammar.specs.Static.{consts_declared}
use Rattle.actx_ast.specs.View.{consts_view}
use Rattle.actx_scope.proofs.declared.add_consts.Given as goal

abbrev pub invariant-loop-item : goal.invariant-loop-item
invariant-loop-item l = l.names.items ++ consts_declared l.node (consts_view (drop l.item-index l.item-items)) ≡ l.initial.names.items ++ consts_declared l.at (consts_view l.item-items)
