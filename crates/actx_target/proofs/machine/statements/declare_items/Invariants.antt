use Rattle.std.proofs.Common.{◌≡◌, drop}
use Rattle.actx_ast.specs.View.{consts_view}
use Rattle.actx_rules.specs.State.{with_items}
use Rattle.actx_target.proofs.machine.statements.declare_items.Given as goal

abbrev pub invariant-loop-item : goal.invariant-loop-item
invariant-loop-item l = with_items (consts_view l.items) l.fn.scope ≡ with_items (consts_view (drop l.item-index l.items)) l.scope
