use Rattle.std.proofs.Common.{◌≡◌, length}
use Rattle.actx_grammar.specs.ParserState.{settle}
use Rattle.actx_ast.specs.View.{expr_view}
use Rattle.actx_frames.specs.ParserView.{stack_view}
use Rattle.actx_frames.proofs.settle.settle.Given as goal

abbrev pub invariant-loop-frame : goal.invariant-loop-frame
invariant-loop-frame l =
    settle l.level (expr_view l.initial.held.expr.value) l.initial.held.reach (stack_view l.initial.stack) ≡ settle l.level (expr_view l.held.expr.value) l.held.reach (stack_view l.stack)

abbrev pub decreases-loop-frame : goal.decreases-loop-frame
decreases-loop-frame l = length l.stack
