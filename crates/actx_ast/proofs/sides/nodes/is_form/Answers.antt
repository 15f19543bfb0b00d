use Rattle.std.proofs.Common.{◌≡◌, ◌==◌, length, refl, rules}
use Rattle.actx_ast.proofs.SideParts.{form_worded, call_with_parts}
use Rattle.actx_ast.proofs.sides.nodes.is_form.Goals as goal

pub returns-in-Plain-CallWith : goal.returns-in-Plain-CallWith
returns-in-Plain-CallWith c =
    let es = c.args.parts.now in
    let r : c.is_empty.result ≡ (length es == 0) = search rules in
    rw (c.in-Plain-CallWith.is-0, c.in-Plain-CallWith.is-1, r) (call_with_parts es)

pub returns-then-has_words : goal.returns-then-has_words
returns-then-has_words c =
    let es = c.args.parts.now in
    form_worded c.args.side c.args.form es (length es) c.suits.result (c.has_words.ensures.0 c.if-has_words.true) refl c.suits.ensures
