use Rattle.std.proofs.Common.{◌≡◌, false, sym, ◌∙◌}
use Rattle.actx_grammar.specs.ParserOperands.{mixes}
use Rattle.actx_ast.specs.View.{expr_view}
use Rattle.actx_frames.specs.ParserView.{bounds, settled_of, stack_view}
use Rattle.actx_steps.proofs.ParseSettle.{logic_further}
use Rattle.actx_steps.proofs.behind.at_logic.Goals as goal

pub returns-in_ok-logic : goal.returns-in_ok-logic
returns-in_ok-logic c =
    let m : mixes c.args.op (stack_view c.settle.new.stack) ≡ false = sym c.mixes.ensures ∙ c.if-mixes.false in
    logic_further (bounds c.args.rules) c.args.op (expr_view c.args.operand.expr.value) c.args.operand.reach (stack_view c.args.stack.now) c.tighter.result c.logic_level.result (expr_view c.in_ok-held.held.expr.value) c.in_ok-held.held.reach (stack_view c.settle.new.stack)
    (settled_of c.in_ok-left.left c.settle-else-mixes.new.stack) c.tighter.ensures c.logic_level.ensures c.in_ok-held.ensures m c.in_ok-left.ensures
    ∙ c.in_ok-logic.ensures
