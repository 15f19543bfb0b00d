use Rattle.std.proofs.Common.{◌≡◌, ◌≢◌, ℕ, false, length, get_or, eqb, Option, Some, None, sym, ◌∙◌, ap, subst}
use Rattle.std.proofs.lemmas.Bool.{or_from, ne_eqb}
use Rattle.actx_grammar.specs.declared.token.Sign.{Sign}
use Rattle.actx_grammar.specs.declared.token.TokenKind.TheVariants as t
use Rattle.actx_lex.specs.Lexeme.{Begins, longest_sign, may_follow}
use Rattle.actx_lex.proofs.Classes.{is_quote}
use Rattle.actx_lex.proofs.SignsLongest.{sign_begins, sign_apart}
use Rattle.actx_lex.proofs.NoSigns.{sign_refused}
use Rattle.actx_lex.proofs.signs.first_sign.Goals as goal

at_chars : (a b c d x y z u : ℕ) (o r : Option Sign) → a ≡ x → b ≡ y → c ≡ z → d ≡ u → o ≡ longest_sign a b c d → o ≡ r → longest_sign x y z u ≡ r
at_chars a b c d x y z u o r p q s h e f = cc

no_quote : (c : ℕ) → c ≢ 34 → c ≢ 39 → is_quote c ≡ false
no_quote c a b = or_from (eqb c 34) (eqb c 39) (ne_eqb c 34 a) (ne_eqb c 39 b)

pub returns-in_err-sign-clause-refused : goal.returns-in_err-sign-clause-refused
returns-in_err-sign-clause-refused c = rw c.from_residual.ensures (λ k n b.
    sign_refused c.args.fresh c.args.text.now k n
    (at_chars _ _ _ _ _ _ _ _ c.longest_sign.result None c.char_at.ensures c.char_at-next.ensures c.char_at-third.ensures c.char_at-2.ensures c.longest_sign.ensures c.in_err-sign.was)
    c.requires.word c.requires.digit (no_quote _ c.requires.quotes.0 c.requires.quotes.1) b)

pub returns-then-not-may_follow-clause-refused : goal.returns-then-not-may_follow-clause-refused
returns-then-not-may_follow-clause-refused c = λ k n b.
    let r = c.in_ok-sign.sign in
    sign_apart c.args.fresh c.args.text.now r k n
    (at_chars _ _ _ _ _ _ _ _ c.longest_sign.result (Some r) c.char_at.ensures c.char_at-next.ensures c.char_at-third.ensures c.char_at-2.ensures c.longest_sign.ensures c.in_ok-sign.was)
    (ap (λ x. may_follow c.args.fresh r x (get_or c.args.text.now 2 0)) (sym c.char_at-next.ensures) ∙ ap (may_follow c.args.fresh r c.char_at-next.result) (sym c.char_at-third.ensures) ∙ sym c.may_follow.ensures ∙ c.if-not-may_follow.true) b

pub returns-clause-found : goal.returns-clause-found
returns-clause-found c =
    let r = c.in_ok-sign.sign in
    subst (Begins c.args.fresh c.args.text.now (t.Sign r)) (ap length (sym c.sign_text.ensures))
    (sign_begins c.args.fresh c.args.text.now r
    (at_chars _ _ _ _ _ _ _ _ c.longest_sign.result (Some r) c.char_at.ensures c.char_at-next.ensures c.char_at-third.ensures c.char_at-2.ensures c.longest_sign.ensures c.in_ok-sign.was)
    (ap (λ x. may_follow c.args.fresh r x (get_or c.args.text.now 2 0)) (sym c.char_at-next.ensures) ∙ ap (may_follow c.args.fresh r c.char_at-next.result) (sym c.char_at-third.ensures) ∙ sym c.may_follow.ensures ∙ c.if-not-may_follow.false))
