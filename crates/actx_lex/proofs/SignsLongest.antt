-- The sign that the code finds is the longest punctuator there.
use Rattle.std.proofs.Common.{◌≡◌, ◌≢◌, inl, inr, ℕ, ◌<◌, ◌≤◌, Bool, true, false, not, ◌&&◌, IsTrue, List, [], ◌∷◌, ◌++◌, Option, Some, None, length, get_or, drop, refl, sym, ◌∙◌, ap, subst, arith, Contains, eqb, lit≤, codes}
use Rattle.std.proofs.lemmas.Bool.{cond_both, both_ways, not-true, false≢true}
use Rattle.std.proofs.lemmas.List.{take-append-drop, append_assoc, length-append}
use Rattle.std.proofs.lemmas.List.Elements.{All-from_recursion, All-contains}
use Rattle.actx_grammar.specs.declared.token.Sign.{Sign}
use Rattle.actx_grammar.specs.declared.token.Sign.TheVariants as s
use Rattle.actx_grammar.specs.declared.token.TokenKind.{TokenKind}
use Rattle.actx_grammar.specs.declared.token.TokenKind.TheVariants as t
use Rattle.actx_grammar.specs.Words.{sign_text}
use Rattle.actx_lex.specs.Characters.{is_digit, begins_digit}
use Rattle.actx_lex.specs.Lexical.{refused_signs, IsToken, sign_token, IsLexeme, IsLongest, MayFollow, begins_more}
use Rattle.actx_lex.specs.Lexeme.{Begins, longest_sign, may_follow}
use Rattle.actx_lex.proofs.Classes.{mark, class_of}
use Rattle.actx_lex.proofs.Tokens.{token_class, reading, mark_reading}
use Rattle.actx_lex.proofs.Beginnings.{Starts, starts, starts_once}
use Rattle.actx_lex.proofs.SignTexts.{sign_some, sign_first}
use Rattle.actx_lex.proofs.SignsFound.{sign_of, sign_within, sign_front}

abbrev Fits : Option Sign → ℕ → Type 0
Fits None n = Unit {0}
Fits (Some s) n = n ≤ length (sign_text s)

fits_one : (o : Option Sign) → Fits o 1
fits_one None = tt
fits_one (Some s) = sign_some s

sign_fits : (r : Sign) (y : List ℕ) → Fits (sign_of (sign_text r ++ y)) (length (sign_text r))
sign_fits s.OpenBrace y = fits_one (longest_sign 123 (get_or y 0 0) (get_or y 1 0) (get_or y 2 0))
sign_fits s.CloseBrace y = fits_one (longest_sign 125 (get_or y 0 0) (get_or y 1 0) (get_or y 2 0))
sign_fits s.OpenParen y = fits_one (longest_sign 40 (get_or y 0 0) (get_or y 1 0) (get_or y 2 0))
sign_fits s.CloseParen y = fits_one (longest_sign 41 (get_or y 0 0) (get_or y 1 0) (get_or y 2 0))
sign_fits s.OpenBracket y = fits_one (longest_sign 91 (get_or y 0 0) (get_or y 1 0) (get_or y 2 0))
sign_fits s.CloseBracket y = fits_one (longest_sign 93 (get_or y 0 0) (get_or y 1 0) (get_or y 2 0))
sign_fits s.Dot y = fits_one (longest_sign 46 (get_or y 0 0) (get_or y 1 0) (get_or y 2 0))
sign_fits s.Comma y = fits_one (longest_sign 44 (get_or y 0 0) (get_or y 1 0) (get_or y 2 0))
sign_fits s.Semicolon y = fits_one (longest_sign 59 (get_or y 0 0) (get_or y 1 0) (get_or y 2 0))
sign_fits s.Colon y = fits_one (longest_sign 58 (get_or y 0 0) (get_or y 1 0) (get_or y 2 0))
sign_fits s.Question y = fits_one (longest_sign 63 (get_or y 0 0) (get_or y 1 0) (get_or y 2 0))
sign_fits s.Arrow y = lit≤ tt
sign_fits s.Assign y = fits_one (longest_sign 61 (get_or y 0 0) (get_or y 1 0) (get_or y 2 0))
sign_fits s.AddAssign y = lit≤ tt
sign_fits s.SubAssign y = lit≤ tt
sign_fits s.MulAssign y = lit≤ tt
sign_fits s.Increment y = lit≤ tt
sign_fits s.Decrement y = lit≤ tt
sign_fits s.Plus y = fits_one (longest_sign 43 (get_or y 0 0) (get_or y 1 0) (get_or y 2 0))
sign_fits s.Minus y = fits_one (longest_sign 45 (get_or y 0 0) (get_or y 1 0) (get_or y 2 0))
sign_fits s.Star y = fits_one (longest_sign 42 (get_or y 0 0) (get_or y 1 0) (get_or y 2 0))
sign_fits s.Not y = fits_one (longest_sign 33 (get_or y 0 0) (get_or y 1 0) (get_or y 2 0))
sign_fits s.Less y = fits_one (longest_sign 60 (get_or y 0 0) (get_or y 1 0) (get_or y 2 0))
sign_fits s.LessSame y = lit≤ tt
sign_fits s.More y = fits_one (longest_sign 62 (get_or y 0 0) (get_or y 1 0) (get_or y 2 0))
sign_fits s.MoreSame y = lit≤ tt
sign_fits s.Same y = lit≤ tt
sign_fits s.NotSame y = lit≤ tt
sign_fits s.And y = cond_both (eqb (get_or y 0 0) 61) None (Some s.And) (λ o. Fits o 2) (λ _. tt) (λ _. lit≤ tt)
sign_fits s.Or y = cond_both (eqb (get_or y 0 0) 61) None (Some s.Or) (λ o. Fits o 2) (λ _. tt) (λ _. lit≤ tt)
sign_fits s.Coalesce y = cond_both (eqb (get_or y 0 0) 61) None (Some s.Coalesce) (λ o. Fits o 2) (λ _. tt) (λ _. lit≤ tt)

option_chain : (y : List ℕ) → begins_digit y ≡ false → Fits (sign_of (63 ∷ 46 ∷ y)) 2
option_chain y h = cond_both (not (is_digit (get_or y 0 0))) None _ (λ o. Fits o 2) (λ _. tt) (λ d. absurd (both_ways (not (is_digit (get_or y 0 0))) d (ap not (no_digit_next y h))))
  where
    no_digit_next : (y : List ℕ) → begins_digit y ≡ false → is_digit (get_or y 0 0) ≡ false
    no_digit_next [] e = refl
    no_digit_next (c ∷ cs) e = e

refused_fits : (v : List ℕ) → Contains refused_signs v → (y : List ℕ) → (v ≡ codes "?." → begins_digit y ≡ false) → Fits (sign_of (v ++ y)) (length v)
refused_fits v h =
    let P : List ℕ → Type 0 = λ v. (y : List ℕ) → (v ≡ codes "?." → begins_digit y ≡ false) → Fits (sign_of (v ++ y)) (length v) in
    All-contains P refused_signs v (All-from_recursion P refused_signs
    ((λ y n. tt), ((λ y n. option_chain y (n refl)), ((λ y n. cond_both (eqb (get_or y 0 0) 61) (Some s.Same) None (λ o. Fits o 2) (λ _. lit≤ tt) (λ _. tt)), ((λ y n. cond_both (eqb (get_or y 0 0) 61) (Some s.NotSame) None (λ o. Fits o 2) (λ _. lit≤ tt) (λ _. tt)), ((λ y n. tt), ((λ y n. fits_one (longest_sign 37 (get_or y 0 0) (get_or y 1 0) (get_or y 2 0))), ((λ y n. fits_one (longest_sign 38 (get_or y 0 0) (get_or y 1 0) (get_or y 2 0))), ((λ y n. fits_one (longest_sign 124 (get_or y 0 0) (get_or y 1 0) (get_or y 2 0))), ((λ y n. fits_one (longest_sign 94 (get_or y 0 0) (get_or y 1 0) (get_or y 2 0))), ((λ y n. fits_one (longest_sign 126 (get_or y 0 0) (get_or y 1 0) (get_or y 2 0))), ((λ y n. tt), ((λ y n. tt), ((λ y n. tt), ((λ y n. tt), ((λ y n. tt), ((λ y n. tt), ((λ y n. tt), ((λ y n. tt), ((λ y n. tt), ((λ y n. tt), ((λ y n. tt), ((λ y n. fits_one (longest_sign 47 (get_or y 0 0) (get_or y 1 0) (get_or y 2 0))), ((λ y n. tt), ((λ y n. tt), ((λ y n. tt), ((λ y n. tt), ((λ y n. fits_one (longest_sign 35 (get_or y 0 0) (get_or y 1 0) (get_or y 2 0))), ((λ y n. fits_one (longest_sign 64 (get_or y 0 0) (get_or y 1 0) (get_or y 2 0))), ((λ y n. fits_one (longest_sign 96 (get_or y 0 0) (get_or y 1 0) (get_or y 2 0))), ((λ y n. tt), tt))))))))))))))))))))))))))))))) h

lexeme_fits : (v y : List ℕ) → IsLexeme v y → class_of (get_or v 0 0) ≡ mark → Fits (sign_of (v ++ y)) (length v)
lexeme_fits v y (inl (j, h)) e =
    let r = mark_reading j v (sym (token_class h) ∙ e) (reading h) in
    subst (λ u. Fits (sign_of (u ++ y)) (length u)) (sym r.2) (sign_fits r.0 y)
lexeme_fits v y (inr (h, n)) e = refused_fits v h y n

some_more : (x : List ℕ) → x ≢ [] → 0 < length x
some_more [] h = absurd (h refl)
some_more (c ∷ cs) h = omega arith

sign_longest : (s : Sign) (rest : List ℕ) → sign_of (sign_text s ++ rest) ≡ Some s → IsLongest (sign_text s) rest
sign_longest s rest e x y cut some lexeme =
    let first : class_of (get_or (sign_text s ++ x) 0 0) ≡ mark = sign_first s x in
    let whole : sign_text s ++ rest ≡ (sign_text s ++ x) ++ y = ap (λ v. sign_text s ++ v) cut ∙ sym (append_assoc (sign_text s) x y) in
    let fits : Fits (Some s) (length (sign_text s ++ x)) = subst (λ o. Fits o (length (sign_text s ++ x))) (ap sign_of (sym whole) ∙ e) (lexeme_fits (sign_text s ++ x) y lexeme first) in
    omega (arith, fits, length-append (sign_text s) x, some_more x some)

pub next_digit : (text : List ℕ) → begins_digit (drop 1 text) ≡ is_digit (get_or text 1 0)
next_digit [] = refl
next_digit (a ∷ []) = refl
next_digit (a ∷ b ∷ text) = refl

pub next_more : (text : List ℕ) → begins_more (drop 2 text) ≡ eqb (get_or text 2 0) 62
next_more [] = refl
next_more (a ∷ []) = refl
next_more (a ∷ b ∷ []) = refl
next_more (a ∷ b ∷ c ∷ text) = refl

fresh_apart : (fresh more : Bool) → IsTrue fresh → not (fresh && more) ≡ true → more ≡ false
fresh_apart true more h e = not-true more e
fresh_apart false more h e = absurd (false≢true h)

-- what may follow a sign, by the characters behind its first
follows_from : (fresh : Bool) (r : Sign) (text : List ℕ) → may_follow fresh r (get_or text 1 0) (get_or text 2 0) ≡ true → MayFollow fresh (t.Sign r) (drop (length (sign_text r)) text)
follows_from fresh s.OpenBrace text e = tt
follows_from fresh s.CloseBrace text e = tt
follows_from fresh s.OpenParen text e = tt
follows_from fresh s.CloseParen text e = tt
follows_from fresh s.OpenBracket text e = tt
follows_from fresh s.CloseBracket text e = tt
follows_from fresh s.Dot text e = next_digit text ∙ not-true (is_digit (get_or text 1 0)) e
follows_from fresh s.Comma text e = tt
follows_from fresh s.Semicolon text e = tt
follows_from fresh s.Colon text e = tt
follows_from fresh s.Question text e = tt
follows_from fresh s.Arrow text e = tt
follows_from fresh s.Assign text e = tt
follows_from fresh s.AddAssign text e = tt
follows_from fresh s.SubAssign text e = tt
follows_from fresh s.MulAssign text e = tt
follows_from fresh s.Increment text e = tt
follows_from fresh s.Decrement text e = λ h. next_more text ∙ fresh_apart fresh (eqb (get_or text 2 0) 62) h e
follows_from fresh s.Plus text e = tt
follows_from fresh s.Minus text e = tt
follows_from fresh s.Star text e = tt
follows_from fresh s.Not text e = tt
follows_from fresh s.Less text e = tt
follows_from fresh s.LessSame text e = tt
follows_from fresh s.More text e = tt
follows_from fresh s.MoreSame text e = tt
follows_from fresh s.Same text e = tt
follows_from fresh s.NotSame text e = tt
follows_from fresh s.And text e = tt
follows_from fresh s.Or text e = tt
follows_from fresh s.Coalesce text e = tt

follows_to : (fresh : Bool) (r : Sign) (text : List ℕ) → MayFollow fresh (t.Sign r) (drop (length (sign_text r)) text) → may_follow fresh r (get_or text 1 0) (get_or text 2 0) ≡ true
follows_to fresh s.OpenBrace text f = refl
follows_to fresh s.CloseBrace text f = refl
follows_to fresh s.OpenParen text f = refl
follows_to fresh s.CloseParen text f = refl
follows_to fresh s.OpenBracket text f = refl
follows_to fresh s.CloseBracket text f = refl
follows_to fresh s.Dot text f = ap not (sym (next_digit text) ∙ f)
follows_to fresh s.Comma text f = refl
follows_to fresh s.Semicolon text f = refl
follows_to fresh s.Colon text f = refl
follows_to fresh s.Question text f = refl
follows_to fresh s.Arrow text f = refl
follows_to fresh s.Assign text f = refl
follows_to fresh s.AddAssign text f = refl
follows_to fresh s.SubAssign text f = refl
follows_to fresh s.MulAssign text f = refl
follows_to fresh s.Increment text f = refl
follows_to true s.Decrement text f = ap not (sym (next_more text) ∙ f refl)
follows_to false s.Decrement text f = refl
follows_to fresh s.Plus text f = refl
follows_to fresh s.Minus text f = refl
follows_to fresh s.Star text f = refl
follows_to fresh s.Not text f = refl
follows_to fresh s.Less text f = refl
follows_to fresh s.LessSame text f = refl
follows_to fresh s.More text f = refl
follows_to fresh s.MoreSame text f = refl
follows_to fresh s.Same text f = refl
follows_to fresh s.NotSame text f = refl
follows_to fresh s.And text f = refl
follows_to fresh s.Or text f = refl
follows_to fresh s.Coalesce text f = refl

pub sign_starts : (text : List ℕ) (s : Sign) → sign_of text ≡ Some s → Starts text (t.Sign s) (length (sign_text s))
sign_starts text s e =
    let n = length (sign_text s) in
    let front = sign_front text s e in
    let whole : sign_text s ++ drop n text ≡ text = ap (λ v. v ++ drop n text) front ∙ take-append-drop n text in
    record {
      fits = sign_within text s e;
      token = subst (IsToken (t.Sign s)) front (sign_token s);
      longest = subst (λ v. IsLongest v (drop n text)) front (sign_longest s (drop n text) (ap sign_of whole ∙ e));
    }

pub sign_begins : (fresh : Bool) (text : List ℕ) (r : Sign) → sign_of text ≡ Some r → may_follow fresh r (get_or text 1 0) (get_or text 2 0) ≡ true → Begins fresh text (t.Sign r) (length (sign_text r))
sign_begins fresh text r e m =
    let b = sign_starts text r e in
    record { fits = b.fits; token = b.token; longest = b.longest; follows = follows_from fresh r text m }

-- where the longest sign may not stand, no token begins
pub sign_apart : (fresh : Bool) (text : List ℕ) (r : Sign) (k : TokenKind) (n : ℕ) → sign_of text ≡ Some r → may_follow fresh r (get_or text 1 0) (get_or text 2 0) ≡ false → Begins fresh text k n → ⊥
sign_apart fresh text r k n e m b =
    let o = starts_once text k (t.Sign r) n (length (sign_text r)) (starts b) (sign_starts text r e) in
    both_ways (may_follow fresh r (get_or text 1 0) (get_or text 2 0)) m
    (follows_to fresh r text (subst (λ i. MayFollow fresh (t.Sign r) (drop i text)) o.1 (subst (λ j. MayFollow fresh j (drop n text)) o.0 b.follows)))
