use Rattle.std.proofs.Common.{◌≡◌, length, drop}
use Rattle.actx_heap.specs.Texts.{same_text}
use Rattle.actx_heap.proofs.words.is_word.Given as goal

abbrev pub invariant-loop-i : goal.invariant-loop-i
invariant-loop-i l = (same_text l.text l.word ≡ same_text (drop l.i l.units) (drop l.i l.word)) × (length l.units ≡ length l.word)
