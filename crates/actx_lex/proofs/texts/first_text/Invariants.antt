use Rattle.std.proofs.Common.{◌<◌, All, length, drop, get_or}
use Rattle.actx_lex.proofs.Quotes.{InQuotes}
use Rattle.actx_lex.proofs.texts.first_text.Given as goal

abbrev pub invariant-loop-piece : goal.invariant-loop-piece
invariant-loop-piece l = record {
  reads : InQuotes (get_or l.text 0 0) (drop 1 l.text) l.rest l.units.items;
  fit : All (λ u. u < 65536) l.units.items;
}

abbrev pub decreases-loop-piece : goal.decreases-loop-piece
decreases-loop-piece l = length l.rest
