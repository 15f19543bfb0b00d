use Rattle.std.proofs.Common.{◌≡◌, drop}
use Rattle.actx_grammar.specs.ParserOperands.{form_with, forms_of}
use Rattle.actx_frames.proofs.forms.form_with.Given as goal

abbrev pub invariant-loop-form : goal.invariant-loop-form
invariant-loop-form l = form_with l.words (forms_of l.fn.side) ≡ form_with l.words (drop l.form-index l.form-items)
