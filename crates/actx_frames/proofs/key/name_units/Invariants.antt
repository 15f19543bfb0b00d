use Rattle.std.proofs.Common.{◌≡◌, take}
use Rattle.actx_grammar.specs.Words.{word_units}
use Rattle.actx_frames.proofs.key.name_units.Given as goal

abbrev pub invariant-loop-c : goal.invariant-loop-c
invariant-loop-c l = l.list.items ≡ word_units (take l.c-index l.c-items)
