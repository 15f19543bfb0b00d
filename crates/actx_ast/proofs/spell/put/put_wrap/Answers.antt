use Rattle.std.proofs.Common.{◌++◌, ◌∷◌, [], ap, ◌∙◌, append_assoc}
use Rattle.std.specs.Prelude.{codes}
use Rattle.actx_grammar.specs.declared.token.Sign.TheVariants as s
use Rattle.actx_grammar.specs.declared.token.TokenKind.TheVariants as t
use Rattle.actx_ast.proofs.SpellSteps.{on_ok}
use Rattle.actx_ast.proofs.spell.put.put_wrap.Goals as goal

pub returns : goal.returns
returns c =
    on_ok _ _ c.put_word.result (λ e. e ∙ ap (λ z. z ++ t.Name (codes "wrap") ∷ []) (c.in_ok-put_sign.ensures ∙ ap (λ z. z ++ t.Sign s.Dot ∷ []) c.in_ok-put_words.ensures) ∙ simp append_assoc) c.put_word.ensures
