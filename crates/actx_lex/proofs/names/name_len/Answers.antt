use Rattle.std.proofs.Common.{◌<◌, ap, arith, sym, ◌∙◌, ◌≡◌, length}
use Rattle.std.proofs.lemmas.List.{get_or_read}
use Rattle.std.proofs.lemmas.List.Sums.{prefix_len_is}
use Rattle.actx_grammar.specs.Words.{is_name_part}
use Rattle.actx_lex.proofs.names.name_len.Goals as goal

pub returns-then-not-is_name_part-clause-run : goal.returns-then-not-is_name_part-clause-run
returns-then-not-is_name_part-clause-run c =
    let at = λ (lt : c.loop-i.i < length c.args.text.now). get_or_read c.args.text.now c.loop-i.i c.index-text-i.result lt c.index-text-i.is 0 in
    sym (prefix_len_is is_name_part c.args.text.now c.loop-i.i 0 c.loop-i.auto.i-end c.loop-i.invariant (λ (lt : c.loop-i.i < length c.args.text.now). ap is_name_part (sym (at lt)) ∙ sym c.is_name_part.ensures ∙ c.if-not-is_name_part.true))

pub returns-clause-run : goal.returns-clause-run
returns-clause-run c =
    let e : c.loop-i.i ≡ length c.args.text.now = omega arith in
    sym (prefix_len_is is_name_part c.args.text.now (length c.args.text.now) 0 (omega arith) (λ k h. c.loop-i.invariant k (omega arith)) (λ h. absurd (omega arith)))
