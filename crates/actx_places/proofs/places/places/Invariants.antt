use Rattle.std.proofs.Common.{◌≡◌}
use Rattle.actx_ast.specs.View.{program_view}
use Rattle.actx_lex.specs.Lexemes.{lexemes}
use Rattle.actx_places.specs.Walk.{places, places_of}
use Rattle.actx_places.specs.WalkWork.{acts, weigh}
use Rattle.actx_places.proofs.places.places.Given as goal

abbrev pub invariant-loop-next : goal.invariant-loop-next
invariant-loop-next l = places (acts l.work.items l.walk) ≡ places_of (program_view l.program) (lexemes l.tokens)

abbrev pub decreases-loop-next : goal.decreases-loop-next
decreases-loop-next l = weigh l.work.items
