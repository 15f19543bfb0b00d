-- Texts in quotes: what the code reads is the one token that begins there, and what it refuses begins none.
use Rattle.std.proofs.Common.{◌≡◌, ◌≢◌, ◌⊎◌, inl, inr, ℕ, ◌+◌, ◌-◌, ◌/◌, ◌%◌, ◌<◌, Bool, ◌||◌, List, [], ◌∷◌, ◌++◌, Option, Some, None, length, get_or, take, drop, refl, sym, ◌∙◌, ap, subst, arith, eqb, ltb, All, IfSome}
use Rattle.std.proofs.lemmas.Bool.{cond_both, cond-true, cond-false, cases_Bool, ltb-true, or_parts, or_from, eqb-true, eqb-false, ne_eqb}
use Rattle.std.proofs.lemmas.List.{append_assoc, append-nil, length-append, take-append-drop, take_at, get_or-take}
use Rattle.std.proofs.lemmas.List.Elements.{All-nil, All-cons}
use Rattle.actx_grammar.specs.declared.token.TokenKind.TheVariants as t
use Rattle.actx_lex.specs.declared.escapes.Piece.{Piece}
use Rattle.actx_lex.specs.Characters.{Inside, nothing}
use Rattle.actx_lex.specs.Lexical.{IsQuote, IsToken, text_token, IsLexeme, IsLongest}
use Rattle.actx_lex.specs.Lexeme.{Begins, NoToken}
use Rattle.actx_lex.specs.Pieces.{piece_of, next_piece, units_in}
use Rattle.actx_lex.proofs.Tokens.{token_class, quote_first, refused_class, reading, text_reading}
use Rattle.actx_lex.proofs.Beginnings.{begins_some, begins_class}
use Rattle.actx_lex.proofs.Insides.{run_of, once}
use Rattle.actx_lex.proofs.Quotes.{InQuotes, stops_back, ends_back}

-- PIECES BEFORE THE QUOTE
pub record Next (q : ℕ) (text : List ℕ) (p : Piece) : Type 0 where
  pub some : 0 < length text
  pub apart : get_or text 0 0 ≢ q
  pub piece : piece_of text ≡ Some p

pub next_some : (q : ℕ) (text : List ℕ) (p : Piece) → next_piece q text ≡ Some p → Next q text p
next_some q text p e =
    elim (cases_Bool (eqb (length text) 0 || eqb (get_or text 0 0) q)) [
      | inl h ↦ absurd (let f : next_piece q text ≡ None = cond-true (eqb (length text) 0 || eqb (get_or text 0 0) q) None (piece_of text) h in none_some (sym f ∙ e))
      | inr h ↦
          let parts = or_parts (eqb (length text) 0) (eqb (get_or text 0 0) q) h in
          record {
            some = let z = eqb-false (length text) 0 parts.0 in omega arith;
            apart = eqb-false (get_or text 0 0) q parts.1;
            piece = sym (cond-false (eqb (length text) 0 || eqb (get_or text 0 0) q) None (piece_of text) h) ∙ e;
          }
    ]
  where
    none_some : None ≡ Some p → ⊥
    none_some f = cc

pub next_none : (q : ℕ) (text : List ℕ) → next_piece q text ≡ None → get_or text 0 0 ≢ q → (length text ≡ 0) ⊎ (piece_of text ≡ None)
next_none q text e n =
    elim (cases_Bool (eqb (length text) 0)) [
      | inl h ↦ inl (eqb-true (length text) 0 h)
      | inr h ↦ inr (sym (cond-false (eqb (length text) 0 || eqb (get_or text 0 0) q) None (piece_of text) (or_from (eqb (length text) 0) (eqb (get_or text 0 0) q) h (ne_eqb (get_or text 0 0) q n))) ∙ e)
    ]

-- FOUND
first_split : (w : List ℕ) (q : ℕ) → 0 < q → get_or w 0 0 ≡ q → w ≡ q ∷ drop 1 w
first_split [] q h e = absurd (omega arith)
first_split (c ∷ w) q h e = ap (λ v. v ∷ w) e

pub quote_some : (q : ℕ) → IsQuote q → 0 < q
quote_some q (inl e) = omega arith
quote_some q (inr e) = omega arith

-- no longer lexeme begins where a text in quotes does
longest_text : (q : ℕ) (cs us rest : List ℕ) → IsQuote q → Inside q cs us → IsLongest (q ∷ (cs ++ q ∷ [])) rest
longest_text q cs us rest h i x y cut some l =
    let e : (q ∷ (cs ++ q ∷ [])) ++ x ≡ q ∷ (cs ++ q ∷ x) = ap (λ v. q ∷ v) (append_assoc cs (q ∷ []) x) in
    some (no_more (subst (λ v. IsLexeme v y) e l))
  where
    no_more : IsLexeme (q ∷ (cs ++ q ∷ x)) y → x ≡ []
    no_more (inl (j, g)) =
        let r = text_reading j (q ∷ (cs ++ q ∷ x)) (sym (token_class g) ∙ quote_first q h) (reading g) in
        let same : r.mark_of ≡ q = ap (λ v. get_or v 0 0) (sym r.is) in
        let f : cs ++ q ∷ x ≡ r.chars ++ q ∷ [] = ap (drop 1) r.is ∙ ap (λ c. r.chars ++ c ∷ []) same in
        (once q cs r.chars us r.units x [] h i (subst (λ c. Inside c r.chars r.units) same r.inside) f).2
    no_more (inr (g, n)) = let f = refused_class (q ∷ (cs ++ q ∷ x)) g in let k = quote_first q h in cc

pub quoted_at : (fresh : Bool) (q : ℕ) (done rest us : List ℕ) → IsQuote q → Inside q done us → Begins fresh (q ∷ (done ++ q ∷ rest)) (t.Text us) (length done + 2)
quoted_at fresh q done rest us h i =
    let w : List ℕ = q ∷ (done ++ q ∷ []) in
    let whole : q ∷ (done ++ q ∷ rest) ≡ w ++ rest = ap (λ v. q ∷ v) (sym (append_assoc done (q ∷ []) rest)) in
    let long : length w ≡ length done + 2 = omega (arith, length-append done (q ∷ [])) in
    let front : take (length done + 2) (w ++ rest) ≡ w = take_at w rest (length done + 2) long in
    subst (λ v. Begins fresh v (t.Text us) (length done + 2)) (sym whole) (record {
      fits = omega (arith, length-append w rest);
      token = subst (IsToken (t.Text us)) (sym front) (text_token h i);
      longest = subst (λ v. IsLongest v (drop (length done + 2) (w ++ rest))) (sym front) (longest_text q done us (drop (length done + 2) (w ++ rest)) h i);
      follows = tt;
    })

pub quoted_begins : (fresh : Bool) (text rest us : List ℕ) (n : ℕ) → IsQuote (get_or text 0 0) → InQuotes (get_or text 0 0) (drop 1 text) rest us → get_or rest 0 0 ≡ get_or text 0 0 → n ≡ length text - length rest + 1 → Begins fresh text (t.Text us) n
quoted_begins fresh text rest us n h c e len =
    let q = get_or text 0 0 in
    let some = quote_some q h in
    let last : rest ≡ q ∷ drop 1 rest = first_split rest q some e in
    let inside : Inside q c.done us = subst (λ v. Inside q v us) (append-nil c.done) (subst (Inside q (c.done ++ [])) (append-nil us) (c.front [] [] (drop 1 rest) last nothing)) in
    let whole : text ≡ q ∷ (c.done ++ q ∷ drop 1 rest) = first_split text q some refl ∙ ap (λ v. q ∷ v) (c.is ∙ ap (λ v. c.done ++ v) last) in
    let same : n ≡ length c.done + 2 = omega (arith, ap length whole, length-append c.done (q ∷ drop 1 rest), ap length last) in
    subst (λ v. Begins fresh v (t.Text us) n) (sym whole) (subst (λ i. Begins fresh (q ∷ (c.done ++ q ∷ drop 1 rest)) (t.Text us) i) (sym same) (quoted_at fresh q c.done (drop 1 rest) us h inside))

-- REFUSED
pub quoted_refused : (text rest us : List ℕ) → IsQuote (get_or text 0 0) → InQuotes (get_or text 0 0) (drop 1 text) rest us → next_piece (get_or text 0 0) rest ≡ None → get_or rest 0 0 ≢ get_or text 0 0 → (fresh : Bool) → NoToken fresh text
quoted_refused text rest us h c e apart fresh k n b =
    let q = get_or text 0 0 in
    let r = text_reading k (take n text) (sym (begins_class fresh text k n b) ∙ quote_first q h) (reading b.token) in
    let same : r.mark_of ≡ q = ap (λ v. get_or v 0 0) (sym r.is) ∙ get_or-take n text 0 0 (begins_some fresh text k n b) in
    let whole : text ≡ r.mark_of ∷ (r.chars ++ r.mark_of ∷ drop n text) = sym (take-append-drop n text) ∙ ap (λ v. v ++ drop n text) r.is ∙ ap (λ v. r.mark_of ∷ v) (append_assoc r.chars (r.mark_of ∷ []) (drop n text)) in
    let inner : drop 1 text ≡ r.chars ++ q ∷ drop n text = ap (drop 1) whole ∙ ap (λ v. r.chars ++ v ∷ drop n text) same in
    let f = c.back r.chars r.units (drop n text) inner (run_of h (subst (λ v. Inside v r.chars r.units) same r.inside)) in
    elim (next_none q rest e apart) [
      | inl z ↦ ends_back q rest f.0 (drop n text) z f.2
      | inr z ↦ stops_back q rest f.0 f.1 (drop n text) apart z f.2 f.3
    ]

-- UNITS
-- the units of a code point have 16 bits
pub units_fit : (code : Option ℕ) → IfSome code (λ c. c < 1114112) → All (λ u. u < 65536) (units_in code)
units_fit None h = All-nil (λ u. u < 65536)
units_fit (Some c) h =
    cond_both (ltb c 65536) (c ∷ []) _ (All (λ u. u < 65536))
    (λ e. All-cons (λ u. u < 65536) c [] (ltb-true c 65536 e) (All-nil (λ u. u < 65536)))
    (λ e. All-cons (λ u. u < 65536) (55296 + (c - 65536) / 1024) ((56320 + (c - 65536) % 1024) ∷ []) (omega arith) (All-cons (λ u. u < 65536) (56320 + (c - 65536) % 1024) [] (omega arith) (All-nil (λ u. u < 65536))))
