use Rattle.std.proofs.Common.{◌≡◌, ◌+◌, drop}
use Rattle.actx_lex.specs.Lexical.{size}
use Rattle.actx_lex.proofs.characters.size_of.Given as goal

abbrev pub invariant-loop-c : goal.invariant-loop-c
invariant-loop-c l = l.size + size (drop l.c-index l.text) ≡ size l.text
