use Rattle.std.proofs.Common.{sym, ◌∙◌, ap}
use Rattle.std.proofs.lemmas.List.{take_rest}
use Rattle.actx_lex.proofs.Classes.{is_blank}
use Rattle.actx_lex.proofs.Commentary.{blank_gap, line_gap, block_gap, no_gap, other_start, slash_start, open_start}
use Rattle.actx_lex.proofs.comments.gap_len.Goals as goal

pub returns-then-is_blank-clause-found : goal.returns-then-is_blank-clause-found
returns-then-is_blank-clause-found c = λ _. blank_gap c.args.text.now c.requires (ap is_blank (sym c.char_at-first.ensures) ∙ sym c.is_blank.ensures ∙ c.if-is_blank.true)

pub returns-then-first-ne47-clause-none : goal.returns-then-first-ne47-clause-none
returns-then-first-ne47-clause-none c = λ _. no_gap c.args.text.now (other_start c.args.text.now
    (ap is_blank (sym c.char_at-first.ensures) ∙ sym c.is_blank.ensures ∙ c.if-is_blank.false)
    (λ e. c.if-first-ne47.true (c.char_at-first.ensures ∙ e)))

pub returns-then-second-eq47-clause-found : goal.returns-then-second-eq47-clause-found
returns-then-second-eq47-clause-found c = λ _. line_gap c.args.text.now _ c.line_len.result (take_rest c.args.text.now 2) (sym c.char_at-first.ensures ∙ c.if-first-ne47.false) (sym c.char_at-second.ensures ∙ c.if-second-eq47.true) c.line_len.ensures.run c.line_len.ensures.within

pub returns-then-second-eq42-clause-found : goal.returns-then-second-eq42-clause-found
returns-then-second-eq42-clause-found c = λ some. block_gap c.args.text.now _ c.block_len.result (take_rest c.args.text.now 2) (sym c.char_at-first.ensures ∙ c.if-first-ne47.false) (sym c.char_at-second.ensures ∙ c.if-second-eq42.true) some c.block_len.ensures

pub returns-then-second-eq42-clause-none : goal.returns-then-second-eq42-clause-none
returns-then-second-eq42-clause-none c = λ none. no_gap c.args.text.now (open_start c.args.text.now _ c.block_len.result (take_rest c.args.text.now 2) (sym c.char_at-first.ensures ∙ c.if-first-ne47.false) (sym c.char_at-second.ensures ∙ c.if-second-eq42.true) none c.block_len.ensures)

pub returns-clause-none : goal.returns-clause-none
returns-clause-none c = λ _. no_gap c.args.text.now (slash_start c.args.text.now (sym c.char_at-first.ensures ∙ c.if-first-ne47.false)
    (λ e. c.if-second-eq47.false (c.char_at-second.ensures ∙ e))
    (λ e. c.if-second-eq42.false (c.char_at-second.ensures ∙ e)))
