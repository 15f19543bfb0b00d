use Rattle.actx_lex.proofs.Counted.{Counted}
use Rattle.actx_lex.proofs.place.place.Given as goal

abbrev pub invariant-loop-c : goal.invariant-loop-c
invariant-loop-c l = Counted l.yielded l.place l.returned
