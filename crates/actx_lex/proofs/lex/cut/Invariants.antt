use Rattle.std.proofs.Common.{◌≡◌, ◌+◌, All, length}
use Rattle.actx_grammar.specs.Words.{HasForm}
use Rattle.actx_lex.specs.Lexical.{start, size, kinds_of, Reads}
use Rattle.actx_lex.specs.Spots.{place_of}
use Rattle.actx_lex.proofs.lex.cut.Given as goal

abbrev pub invariant-loop-rest : goal.invariant-loop-rest
invariant-loop-rest l = record {
  reads : Reads start l.chars l.list.items (place_of l.spot) l.rest;
  left : l.spot.at + size l.rest ≡ size l.chars;
  form : All HasForm (kinds_of l.list.items);
}

abbrev pub decreases-loop-rest : goal.decreases-loop-rest
decreases-loop-rest l = length l.rest
