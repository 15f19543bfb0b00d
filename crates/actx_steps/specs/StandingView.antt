-- What the steps behind a statement hold stands for.
use Rattle.std.specs.Prelude.{List, ◌∷◌}
use Rattle.actx_grammar.specs.Parser.{Standing as Settling, standing, settle_stmt, to_else}
use Rattle.actx_grammar.specs.ParserState as m
use Rattle.actx_ast.specs.View.{stmt_view}
use Rattle.actx_frames.specs.ParserView.{frame_view, stack_view}
use Rattle.actx_frames.specs.declared.state.Frame.{Frame}
use Rattle.actx_steps.specs.declared.standing.Standing.{Standing}
use Rattle.actx_steps.specs.declared.standing.Joined.{Joined}
use Rattle.actx_steps.specs.declared.standing.Joined.TheVariants as j
use Rattle.actx_steps.specs.declared.standing.Branch.{Branch}
use Rattle.actx_steps.specs.declared.standing.Branch.TheVariants as e

abbrev pub standing_of : Standing → List Frame → Settling
standing_of a s = standing (stmt_view a.stmt.value) a.reach (stack_view s)

-- what one frame makes of a statement that ends
abbrev pub joined_of : Joined → List m.Frame → Settling
joined_of (j.Held a) s = settle_stmt (stmt_view a.stmt.value) a.reach s
joined_of (j.Back frame a) s = standing (stmt_view a.stmt.value) a.reach (frame_view frame ∷ s)

-- and where `else` follows
abbrev pub branch_of : Branch → List m.Frame → m.Move
branch_of (e.Else frame) s = m.go m.body_start (frame_view frame ∷ s)
branch_of (e.Held a) s = to_else (stmt_view a.stmt.value) a.reach s
branch_of e.Refused s = m.refuse
