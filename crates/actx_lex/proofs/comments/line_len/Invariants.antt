use Rattle.std.proofs.Common.{◌≡◌, ℕ, ◌<◌, get_or, true}
use Rattle.actx_lex.specs.Lexeme.{is_inside_line}
use Rattle.actx_lex.proofs.comments.line_len.Given as goal

abbrev pub invariant-loop-i : goal.invariant-loop-i
invariant-loop-i l = (k : ℕ) → k < l.i → is_inside_line (get_or l.text k 0) ≡ true
