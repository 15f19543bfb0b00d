use Rattle.std.proofs.Common.{◌≡◌, length}
use Rattle.actx_grammar.specs.Parser.{to_else}
use Rattle.actx_ast.specs.View.{stmt_view}
use Rattle.actx_frames.specs.ParserView.{stack_view}
use Rattle.actx_steps.proofs.standing.to_else.Given as goal

abbrev pub invariant-loop-frame : goal.invariant-loop-frame
invariant-loop-frame l =
    to_else (stmt_view l.initial.held.stmt.value) l.initial.held.reach (stack_view l.initial.stack) ≡ to_else (stmt_view l.held.stmt.value) l.held.reach (stack_view l.stack)

abbrev pub decreases-loop-frame : goal.decreases-loop-frame
decreases-loop-frame l = length l.stack
