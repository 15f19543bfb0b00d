use Rattle.std.proofs.Common.{◌≡◌, ◌++◌, take}
use Rattle.actx_grammar.specs.Spell.{spell_more_names}
use Rattle.actx_ast.proofs.spell.put.put_more_names.Given as goal

abbrev pub invariant-loop-name : goal.invariant-loop-name
invariant-loop-name l = l.out.items ≡ l.initial.out.items ++ spell_more_names (take l.name-index l.names)
