use Rattle.std.proofs.Common.{◌≡◌, ℕ, ◌<◌, get_or, true}
use Rattle.actx_grammar.specs.Words.{is_name_part}
use Rattle.actx_lex.proofs.names.name_len.Given as goal

abbrev pub invariant-loop-i : goal.invariant-loop-i
invariant-loop-i l = (k : ℕ) → k < l.i → is_name_part (get_or l.text k 0) ≡ true
