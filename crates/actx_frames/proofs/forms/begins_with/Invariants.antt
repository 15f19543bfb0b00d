use Rattle.std.proofs.Common.{◌≡◌, drop}
use Rattle.actx_grammar.specs.Forms.{form_words}
use Rattle.actx_grammar.specs.ParserOperands.{begins_with}
use Rattle.actx_frames.proofs.forms.begins_with.Given as goal

abbrev pub invariant-loop-at : goal.invariant-loop-at
invariant-loop-at l = begins_with (form_words l.form) l.words ≡ begins_with (drop l.at (form_words l.form)) (drop l.at l.words)
