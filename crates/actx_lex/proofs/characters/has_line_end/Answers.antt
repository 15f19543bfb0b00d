use Rattle.std.proofs.Common.{◌≡◌, ◌||◌, ◌+◌, get_or, drop, sym, ◌∙◌, ap, true, false}
use Rattle.std.proofs.lemmas.List.{at_drop_more, get_or_read}
use Rattle.actx_lex.specs.Characters.{is_line_end}
use Rattle.actx_lex.specs.Lexical.{has_line_end}
use Rattle.actx_lex.proofs.characters.has_line_end.Goals as goal

pub returns-then-is_line_end : goal.returns-then-is_line_end
returns-then-is_line_end c =
    let xs = c.args.text.now in
    let i = c.loop-c.c-index in
    let more = at_drop_more has_line_end xs i 0 c.loop-c-test.true in
    let ends : is_line_end (get_or xs i 0) ≡ true = ap is_line_end (sym (get_or_read xs i c.c-item.result c.loop-c-test.true c.c-item.is 0)) ∙ sym c.is_line_end.ensures ∙ c.if-is_line_end.true in
    sym (sym c.loop-c.invariant ∙ more ∙ ap (λ b. b || has_line_end (drop (i + 1) xs)) ends)

pub loop-c-preserved : goal.loop-c-preserved
loop-c-preserved c =
    let xs = c.args.text.now in
    let i = c.loop-c.c-index in
    let more = at_drop_more has_line_end xs i 0 c.loop-c-test.true in
    let ends : is_line_end (get_or xs i 0) ≡ false = ap is_line_end (sym (get_or_read xs i c.c-item.result c.loop-c-test.true c.c-item.is 0)) ∙ sym c.is_line_end.ensures ∙ c.if-is_line_end.false in
    sym (ap (λ b. b || has_line_end (drop (i + 1) xs)) ends) ∙ sym more ∙ c.loop-c.invariant
