use Rattle.std.proofs.Common.{ℕ, ◌<◌}
use Rattle.actx_lex.specs.Lexeme.{EndsAt}
use Rattle.actx_lex.proofs.comments.block_len.Given as goal

abbrev pub invariant-loop-i : goal.invariant-loop-i
invariant-loop-i l = (k : ℕ) → k < l.i → EndsAt l.text k → ⊥
