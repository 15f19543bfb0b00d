use Rattle.std.proofs.Common.{◌≡◌, ◌+◌, inl, inr, get_or, length, sym, ◌∙◌, ap, arith}
use Rattle.std.proofs.lemmas.Bool.{cases_lt}
use Rattle.std.proofs.lemmas.List.{get_or_read, get_or_past}
use Rattle.actx_lex.specs.Lexeme.{no_end, first_end}
use Rattle.actx_lex.proofs.comments.block_len.Goals as goal
use Rattle.actx_lex.proofs.comments.block_len.Goals.{else-c-eq42-via-then-c-eq42+else-char_at-eq47, else-c-eq42-via-else-c-eq42}

pub returns-then-char_at-eq47 : goal.returns-then-char_at-eq47
returns-then-char_at-eq47 c =
    let at = get_or_read c.args.text.now c.loop-i.i c.index-text-i.result c.loop-i-test.true c.index-text-i.is 0 in
    first_end c.loop-i.i (sym at ∙ c.if-c-eq42.true, sym c.char_at.ensures ∙ c.if-char_at-eq47.true) c.loop-i.invariant

pub loop-i-preserved : goal.loop-i-preserved
loop-i-preserved c = λ k lt e.
    let text = c.args.text.now in
    let i = c.loop-i.i in
    let at = get_or_read text i c.index-text-i.result c.loop-i-test.true c.index-text-i.is 0 in
    elim (cases_lt k i) [
      | inl low ↦ c.loop-i.invariant k low e
      | inr ge ↦
          let same : k ≡ i = omega arith in
          elim c.else-c-eq42.branch [
            | else-c-eq42-via-then-c-eq42+else-char_at-eq47 w ↦ w.if-char_at-eq47.false (w.char_at.ensures ∙ ap (λ j. get_or text (j + 1) 0) (sym same) ∙ e.1)
            | else-c-eq42-via-else-c-eq42 w ↦ w.if-c-eq42.false (at ∙ ap (λ j. get_or text j 0) (sym same) ∙ e.0)
          ]
    ]

pub returns : goal.returns
returns c = no_end (λ k e. elim (cases_lt k (length c.args.text.now)) [
  | inl lt ↦ c.loop-i.invariant k (omega arith) e
  | inr le ↦ absurd (let p = get_or_past c.args.text.now k 0 le in let f = e.0 in omega arith)
])
