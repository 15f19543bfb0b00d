use Rattle.std.proofs.Common.{◌++◌, ap, sym, ◌∙◌}
use Rattle.actx_grammar.specs.Forms.{form_words}
use Rattle.actx_ast.proofs.SpellSteps.{on_ok}
use Rattle.actx_ast.proofs.spell.put.put_form.Goals as goal

pub returns-in-NewVariable : goal.returns-in-NewVariable
returns-in-NewVariable c =
    on_ok _ _ c.put_new_words.result (λ e. e ∙ ap (λ f. c.args.out.now.items ++ form_words f) (sym c.in-NewVariable.is)) c.put_new_words.ensures

pub returns-in-NewSnapshot : goal.returns-in-NewSnapshot
returns-in-NewSnapshot c =
    on_ok _ _ c.put_new_words-in-NewSnapshot.result (λ e. e ∙ ap (λ f. c.args.out.now.items ++ form_words f) (sym c.in-NewSnapshot.is)) c.put_new_words-in-NewSnapshot.ensures

pub returns-in-QueueMicrotask : goal.returns-in-QueueMicrotask
returns-in-QueueMicrotask c =
    on_ok _ _ c.put_word.result (λ e. e ∙ ap (λ f. c.args.out.now.items ++ form_words f) (sym c.in-QueueMicrotask.is)) c.put_word.ensures

pub returns-in-CurrentSpan : goal.returns-in-CurrentSpan
returns-in-CurrentSpan c =
    on_ok _ _ c.put_words-in-CurrentSpan.result (λ e. e ∙ ap (λ f. c.args.out.now.items ++ form_words f) (sym c.in-CurrentSpan.is)) c.put_words-in-CurrentSpan.ensures
