use Rattle.std.proofs.Common.{◌≡◌, ℕ, ◌≤◌, ◌-◌, inl, inr, List, length, get_or, take, drop, refl, sym, ◌∙◌, ap, subst, arith}
use Rattle.std.specs.Str.Parse.{digits_value}
use Rattle.std.proofs.lemmas.Bool.{both_ways}
use Rattle.std.proofs.lemmas.List.{take_rest}
use Rattle.actx_grammar.specs.declared.token.TokenKind.TheVariants as t
use Rattle.actx_grammar.specs.Words.{greatest_number}
use Rattle.actx_lex.specs.Characters.{is_digit}
use Rattle.actx_lex.specs.Lexical.{begins_free}
use Rattle.actx_lex.specs.Lexeme.{Begins}
use Rattle.actx_lex.proofs.Runs.{run_passes}
use Rattle.actx_lex.proofs.NumberRuns.{number_run, number_begins}
use Rattle.actx_lex.proofs.Digits.{number_found, number_refused}
use Rattle.actx_lex.proofs.numbers.first_number.Goals as goal

pub returns-then-len-gt1-clause-refused : goal.returns-then-len-gt1-clause-refused
returns-then-len-gt1-clause-refused c = λ fresh k n b.
    let r = number_run fresh c.args.text.now k n c.requires b in
    let one : n ≤ 1 = r.zero (sym c.char_at.ensures ∙ c.if-char_at-eq48.true) in
    let e = c.digits_len-len.ensures.run in
    let f = r.run in
    omega arith

-- the rest, as the call is given it
rest_is : (text : List ℕ) (n m : ℕ) → n ≡ m → begins_free (take (length text - n) (drop n text)) ≡ begins_free (drop m text)
rest_is text n m e = ap begins_free (take_rest text n) ∙ ap (λ i. begins_free (drop i text)) e

pub returns-then-not-begins_free-clause-refused : goal.returns-then-not-begins_free-clause-refused
returns-then-not-begins_free-clause-refused c = λ fresh k n b.
    let r = number_run fresh c.args.text.now k n c.requires b in
    let e = rest_is c.args.text.now c.digits_len-len.result n (c.digits_len-len.ensures.run ∙ sym r.run) in
    both_ways (begins_free (drop n c.args.text.now)) (sym e ∙ sym c.begins_free.ensures ∙ c.if-not-begins_free.true) r.free

pub number_of-requires : goal.number_of-requires
number_of-requires c = run_passes is_digit c.args.text.now c.digits_len-len.result c.digits_len-len.ensures.run c.digits_len-len.ensures.within

pub returns-in_err-value-clause-refused : goal.returns-in_err-value-clause-refused
returns-in_err-value-clause-refused c = rw c.from_residual.ensures (λ fresh k n b.
    let r = number_run fresh c.args.text.now k n c.requires b in
    let same : n ≡ c.digits_len-len.result = r.run ∙ sym c.digits_len-len.ensures.run in
    let small : digits_value 10 (take c.digits_len-len.result c.args.text.now) ≤ greatest_number = subst (λ i. digits_value 10 (take i c.args.text.now) ≤ greatest_number) same r.small in
    number_refused (take c.digits_len-len.result c.args.text.now) (sym c.number_of.ensures ∙ c.in_err-value.was) small)

pub returns-clause-found : goal.returns-clause-found
returns-clause-found c = λ fresh.
    let text = c.args.text.now in
    let n = c.digits_len-len.result in
    let found = number_found (take n text) c.in_ok-value.value (sym c.number_of.ensures ∙ c.in_ok-value.was) in
    let e = rest_is text n n refl in
    let zero : get_or text 0 0 ≡ 48 → n ≤ 1 = λ z. elim c.else-char_at-eq48.either [ inl h ↦ h.1 | inr h ↦ absurd (h (c.char_at.ensures ∙ z)) ] in
    subst (λ v. Begins fresh text (t.Number v) n) (sym found.0) (number_begins fresh text n c.requires c.digits_len-len.ensures.run c.digits_len-len.ensures.within zero (sym e ∙ sym c.begins_free.ensures ∙ c.if-not-begins_free.false) found.1)
