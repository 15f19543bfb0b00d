use Rattle.std.proofs.Common.{◌≡◌, ◌++◌, ◌∷◌, [], ap, sym, ◌∙◌, append_assoc, take, ◌+◌}
use Rattle.std.proofs.lemmas.List.{take_more}
use Rattle.actx_grammar.specs.declared.token.Sign.TheVariants as s
use Rattle.actx_grammar.specs.declared.token.TokenKind.TheVariants as t
use Rattle.actx_grammar.specs.Spell.{spell_more_names}
use Rattle.actx_ast.proofs.SpellSteps.{more_names_last}
use Rattle.actx_ast.proofs.spell.put.put_more_names.Goals as goal

pub loop-name-preserved : goal.loop-name-preserved
loop-name-preserved c =
    let l = c.loop-name in
    let xs = c.args.names.now in
    let x = c.name-item.result in
    let ys = take l.name-index xs in
    let start = c.args.out.now.items in
    let grown : take (l.name-index + 1) xs ≡ ys ++ x ∷ [] = take_more xs l.name-index x c.loop-name-test.true ∙ ap (λ z. ys ++ z ∷ []) (sym c.name-item.is) in
    let groups : ((start ++ spell_more_names ys) ++ t.Sign s.Comma ∷ []) ++ t.Name x ∷ [] ≡ start ++ (spell_more_names ys ++ t.Sign s.Comma ∷ t.Name x ∷ []) = simp append_assoc in
    c.in_ok-put.ensures
    ∙ ap (λ n. c.put_sign.new.out.items ++ t.Name n ∷ []) c.in_ok-copy.ensures
    ∙ ap (λ z. z ++ t.Name x ∷ []) (c.in_ok-put_sign.ensures ∙ ap (λ z. z ++ t.Sign s.Comma ∷ []) l.invariant)
    ∙ groups
    ∙ ap (λ z. start ++ z) (sym (ap spell_more_names grown ∙ more_names_last ys x))
