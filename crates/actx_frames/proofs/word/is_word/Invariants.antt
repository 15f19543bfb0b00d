use Rattle.std.proofs.Common.{◌≡◌, length, drop}
use Rattle.actx_grammar.specs.ParserOperands.{same_word}
use Rattle.actx_frames.proofs.word.is_word.Given as goal

abbrev pub invariant-loop-i : goal.invariant-loop-i
invariant-loop-i l = (same_word l.name l.word ≡ same_word (drop l.i l.chars) (drop l.i l.word)) × (length l.chars ≡ length l.word)
