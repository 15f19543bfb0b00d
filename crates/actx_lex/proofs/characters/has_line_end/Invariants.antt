use Rattle.std.proofs.Common.{◌≡◌, drop}
use Rattle.actx_lex.specs.Lexical.{has_line_end}
use Rattle.actx_lex.proofs.characters.has_line_end.Given as goal

abbrev pub invariant-loop-c : goal.invariant-loop-c
invariant-loop-c l = has_line_end (drop l.c-index l.text) ≡ has_line_end l.text
