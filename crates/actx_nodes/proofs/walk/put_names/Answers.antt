use Rattle.std.proofs.Common.{◌≡◌, ◌++◌, ◌∷◌, [], ap, sym, ◌∙◌, append_assoc, take, ◌+◌}
use Rattle.std.proofs.lemmas.List.{take_more}
use Rattle.actx_nodes.specs.Heads.{head, names_heads}
use Rattle.actx_nodes.specs.declared.label.Label.TheVariants as l
use Rattle.actx_nodes.proofs.Lists.{names_last}
use Rattle.actx_nodes.proofs.walk.put_names.Goals as goal

pub loop-name-preserved : goal.loop-name-preserved
loop-name-preserved c =
    let turn = c.loop-name in
    let xs = c.args.names.now in
    let x = c.name-item.result in
    let ys = take turn.name-index xs in
    let start = c.args.out.now.items in
    let grown : take (turn.name-index + 1) xs ≡ ys ++ x ∷ [] = take_more xs turn.name-index x c.loop-name-test.true ∙ ap (λ z. ys ++ z ∷ []) (sym c.name-item.is) in
    c.in_ok-put.ensures
    ∙ ap (λ n. turn.out.items ++ head (l.Name n) 0 ∷ []) c.in_ok-name.ensures
    ∙ ap (λ z. z ++ head (l.Name x) 0 ∷ []) turn.invariant
    ∙ append_assoc start (names_heads ys) (head (l.Name x) 0 ∷ [])
    ∙ ap (λ z. start ++ z) (sym (ap names_heads grown ∙ names_last ys x))
