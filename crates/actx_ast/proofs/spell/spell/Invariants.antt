use Rattle.std.proofs.Common.{◌≡◌, ◌++◌}
use Rattle.actx_grammar.specs.Spell.{spell_program}
use Rattle.actx_ast.specs.Unspelled.{rest_of, weigh}
use Rattle.actx_ast.specs.View.{program_view}
use Rattle.actx_ast.proofs.spell.spell.Given as goal

abbrev pub invariant-loop-next : goal.invariant-loop-next
invariant-loop-next l = l.out.items ++ rest_of l.work.items ≡ spell_program (program_view l.program)

abbrev pub decreases-loop-next : goal.decreases-loop-next
decreases-loop-next l = weigh l.work.items
