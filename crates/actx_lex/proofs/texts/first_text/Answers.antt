use Rattle.std.proofs.Common.{◌<◌, ◌+◌, ◌-◌, ◌++◌, ℕ, List, [], All, length, get_or, drop, refl, sym, ◌∙◌, ap, subst, arith}
use Rattle.std.proofs.lemmas.List.Elements.{All-nil, All-append}
use Rattle.actx_grammar.specs.declared.token.TokenKind.TheVariants as t
use Rattle.actx_lex.specs.declared.escapes.Piece.{Piece}
use Rattle.actx_lex.specs.Lexeme.{Begins}
use Rattle.actx_lex.specs.Pieces.{next_piece, units_in}
use Rattle.actx_lex.proofs.Quotes.{InQuotes, Sound, at_quote, piece_sound, goes_on}
use Rattle.actx_lex.proofs.QuotedTexts.{Next, next_some, quoted_begins, quoted_refused, units_fit}
use Rattle.actx_lex.proofs.texts.first_text.Goals as goal

sound : (q : ℕ) (rest : List ℕ) (p : Piece) → Next q rest p → Sound q rest p
sound q rest p n = piece_sound q rest p n.some n.apart n.piece

pub loop-piece-init : goal.loop-piece-init
loop-piece-init c = record {
  reads = subst (InQuotes (get_or c.args.text.now 0 0) (drop 1 c.args.text.now) c.split_at.result.1.now) (sym c.new-units.ensures.items) (subst (λ r. InQuotes (get_or c.args.text.now 0 0) (drop 1 c.args.text.now) r []) (sym c.split_at.ensures.back) (at_quote (get_or c.args.text.now 0 0) (drop 1 c.args.text.now)));
  fit = subst (All (λ u. u < 65536)) (sym c.new-units.ensures.items) (All-nil (λ u. u < 65536));
}

pub split_at-requires-in-Some : goal.split_at-requires-in-Some
split_at-requires-in-Some c =
    let rest = c.loop-piece.rest.now in
    let p = c.in-Some.piece in
    let s = sound _ rest p (next_some _ rest p (sym c.next_piece.ensures.piece ∙ c.in-Some.is)) in
    s.fits

pub loop-piece-smaller : goal.loop-piece-smaller
loop-piece-smaller c =
    let rest = c.loop-piece.rest.now in
    let p = c.in-Some.piece in
    let s = sound _ rest p (next_some _ rest p (sym c.next_piece.ensures.piece ∙ c.in-Some.is)) in
    let some = s.some in
    let left = c.split_at-in-Some.ensures.back_len in
    omega arith

pub loop-piece-preserved : goal.loop-piece-preserved
loop-piece-preserved c =
    let rest = c.loop-piece.rest.now in
    let q = get_or c.args.text.now 0 0 in
    let inner = drop 1 c.args.text.now in
    let p = c.in-Some.piece in
    let n = next_some q rest p (ap (λ v. next_piece v rest) (sym c.char_at-quote.ensures) ∙ sym c.next_piece.ensures.piece ∙ c.in-Some.is) in
    let on = goes_on q inner rest c.loop-piece.units.items p n.some n.apart n.piece c.loop-piece.invariant.reads in
    record {
      reads = subst (InQuotes q inner c.split_at-in-Some.result.1.now) (sym c.in_ok-push_units.ensures) (subst (λ r. InQuotes q inner r (c.loop-piece.units.items ++ units_in p.code)) (sym c.split_at-in-Some.ensures.back) on);
      fit = subst (All (λ u. u < 65536)) (sym c.in_ok-push_units.ensures) (All-append (λ u. u < 65536) c.loop-piece.units.items (units_in p.code) c.loop-piece.invariant.fit (units_fit p.code c.in-Some.ensures.small));
    }

pub returns-then-char_at-quote-clause-refused : goal.returns-then-char_at-quote-clause-refused
returns-then-char_at-quote-clause-refused c =
    let rest = c.loop-piece.rest.now in
    quoted_refused c.args.text.now rest c.loop-piece.units.items c.requires c.loop-piece.invariant.reads
    (ap (λ v. next_piece v rest) (sym c.char_at-quote.ensures) ∙ sym c.next_piece.ensures.piece ∙ c.in_default.is)
    (λ e. c.if-char_at-quote.true (c.char_at.ensures ∙ e ∙ sym c.char_at-quote.ensures))

pub returns-clause-found : goal.returns-clause-found
returns-clause-found c = λ fresh.
    let text = c.args.text.now in
    let rest = c.loop-piece.rest.now in
    let n = length text - length rest + 1 in
    subst (λ u. Begins fresh text (t.Text u) n) (sym c.from_vec-units.ensures)
    (quoted_begins fresh text rest c.loop-piece.units.items n c.requires c.loop-piece.invariant.reads (sym c.char_at.ensures ∙ c.if-char_at-quote.false ∙ c.char_at-quote.ensures) refl)

pub returns-clause-form : goal.returns-clause-form
returns-clause-form c = subst (All (λ u. u < 65536)) (sym c.from_vec-units.ensures) c.loop-piece.invariant.fit
