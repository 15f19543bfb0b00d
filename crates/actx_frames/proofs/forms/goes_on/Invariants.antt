use Rattle.std.proofs.Common.{◌≡◌, drop}
use Rattle.actx_grammar.specs.ParserOperands.{goes_on, forms_of}
use Rattle.actx_frames.specs.ParserView.{bounds}
use Rattle.actx_frames.proofs.forms.goes_on.Given as goal

abbrev pub invariant-loop-form : goal.invariant-loop-form
invariant-loop-form l = goes_on (bounds l.rules) l.depth l.words (forms_of l.rules.side) ≡ goes_on (bounds l.rules) l.depth l.words (drop l.form-index l.form-items)
