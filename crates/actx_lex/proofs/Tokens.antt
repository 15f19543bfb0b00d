-- Tokens by their kinds: a token's first character tells its class, and its characters its kind.
use Rattle.std.proofs.Common.{◌≡◌, ◌≢◌, inl, inr, ℕ, ◌<◌, ◌≤◌, List, [], ◌∷◌, ◌++◌, Contains, length, get_or, drop, refl, sym, ◌∙◌, ap, subst, arith}
use Rattle.std.specs.Str.Parse.{digits_value}
use Rattle.std.proofs.lemmas.List.Elements.{All-from_recursion, All-contains}
use Rattle.actx_grammar.specs.declared.token.Keyword.{Keyword}
use Rattle.actx_grammar.specs.declared.token.Sign.{Sign}
use Rattle.actx_grammar.specs.declared.token.TokenKind.{TokenKind}
use Rattle.actx_grammar.specs.declared.token.TokenKind.TheVariants as t
use Rattle.actx_grammar.specs.Words.{keyword_text, sign_text, IsName, greatest_number}
use Rattle.actx_lex.specs.Characters.{Inside}
use Rattle.actx_lex.specs.Lexical.{refused_signs, IsDecimal, just_zero, digits_on, IsQuote, IsToken, name_token, keyword_token, number_token, text_token, sign_token}
use Rattle.actx_lex.proofs.Classes.{Class, word, digit, quote, mark, class_of, word_class, digit_class}
use Rattle.actx_lex.proofs.Insides.{once}
use Rattle.actx_lex.proofs.ReservedWords.{keyword_class, one_keyword}
use Rattle.actx_lex.proofs.SignTexts.{sign_class, sign_some, one_sign}

abbrev pub kind_class : TokenKind → Class
kind_class (t.Name x) = word
kind_class (t.Keyword k) = word
kind_class (t.Number n) = digit
kind_class (t.Text u) = quote
kind_class (t.Sign s) = mark

-- the token by its kind
pub data Reading (k : TokenKind) (w : List ℕ) : Type 0 where
  r_name : k ≡ t.Name w → IsName w → Reading k w
  r_keyword : (q : Keyword) → k ≡ t.Keyword q → w ≡ keyword_text q → Reading k w
  r_number : k ≡ t.Number (digits_value 10 w) → IsDecimal w → digits_value 10 w ≤ greatest_number → Reading k w
  r_text : (q : ℕ) (cs us : List ℕ) → k ≡ t.Text us → w ≡ q ∷ (cs ++ q ∷ []) → IsQuote q → Inside q cs us → Reading k w
  r_sign : (s : Sign) → k ≡ t.Sign s → w ≡ sign_text s → Reading k w

pub reading : {k : TokenKind} {w : List ℕ} → IsToken k w → Reading k w
reading (name_token h) = r_name refl h
reading (keyword_token q) = r_keyword q refl refl
reading (number_token h g) = r_number refl h g
reading (text_token {q} {cs} {us} h g) = r_text q cs us refl refl h g
reading (sign_token s) = r_sign s refl refl

-- FIRST CHARACTERS
pub quote_first : (q : ℕ) → IsQuote q → class_of q ≡ quote
quote_first q (inl e) = ap class_of e
quote_first q (inr e) = ap class_of e

name_class : (w : List ℕ) → IsName w → class_of (get_or w 0 0) ≡ word
name_class w h = ap (λ v. class_of (get_or v 0 0)) h.is ∙ word_class h.first h.starts

decimal_class : (w : List ℕ) → IsDecimal w → class_of (get_or w 0 0) ≡ digit
decimal_class w just_zero = refl
decimal_class w (digits_on {c} h n g) = digit_class c h

pub token_class : {k : TokenKind} {w : List ℕ} → IsToken k w → class_of (get_or w 0 0) ≡ kind_class k
token_class (name_token {x} h) = name_class x h
token_class (keyword_token q) = keyword_class q
token_class (number_token {w} h g) = decimal_class w h
token_class (text_token {q} h g) = quote_first q h
token_class (sign_token s) = sign_class s

-- a text that begins otherwise than with a mark is not empty
some_first : (w : List ℕ) → class_of (get_or w 0 0) ≢ mark → 0 < length w
some_first [] h = absurd (h refl)
some_first (c ∷ cs) h = omega arith

pub nonempty_token : (k : TokenKind) (w : List ℕ) → IsToken k w → 0 < length w
nonempty_token k w (name_token {x} h) = some_first x (λ e. let f = name_class x h in cc)
nonempty_token k w (keyword_token q) = some_first (keyword_text q) (λ e. let f = keyword_class q in cc)
nonempty_token k v (number_token {w} h g) = some_first w (λ e. let f = decimal_class w h in cc)
nonempty_token k w (text_token h g) = omega arith
nonempty_token k w (sign_token s) = sign_some s

-- a punctuator of which no token is made begins as a sign does
pub refused_class : (w : List ℕ) → Contains refused_signs w → class_of (get_or w 0 0) ≡ mark
refused_class w h = let P : List ℕ → Type 0 = λ v. class_of (get_or v 0 0) ≡ mark in All-contains P refused_signs w (All-from_recursion P refused_signs (refl, (refl, (refl, (refl, (refl, (refl, (refl, (refl, (refl, (refl, (refl, (refl, (refl, (refl, (refl, (refl, (refl, (refl, (refl, (refl, (refl, (refl, (refl, (refl, (refl, (refl, (refl, (refl, (refl, (refl, tt))))))))))))))))))))))))))))))) h

-- ONE KIND
one_text : (w : List ℕ) (q r : ℕ) (cs ds us vs : List ℕ) → IsQuote q → IsQuote r → w ≡ q ∷ (cs ++ q ∷ []) → w ≡ r ∷ (ds ++ r ∷ []) → Inside q cs us → Inside r ds vs → us ≡ vs
one_text w q r cs ds us vs a b e f h g =
    let same : r ≡ q = ap (λ v. get_or v 0 0) (sym f ∙ e) in
    let rest : cs ++ q ∷ [] ≡ ds ++ r ∷ [] = ap (drop 1) (sym e ∙ f) in
    (once q cs ds us vs [] [] a h (subst (λ c. Inside c ds vs) same g) (rest ∙ ap (λ c. ds ++ c ∷ []) same)).1

one_reading : (k j : TokenKind) (w : List ℕ) → kind_class k ≡ kind_class j → Reading k w → Reading j w → k ≡ j
one_reading k j w e (r_name p h) (r_name o g) = cc
one_reading k j w e (r_name p h) (r_keyword b o g) = absurd (h.free b g)
one_reading k j w e (r_name p h) (r_number o g l) = let f : kind_class (t.Name w) ≡ kind_class (t.Number (digits_value 10 w)) = ap kind_class (sym p) ∙ e ∙ ap kind_class o in cc
one_reading k j w e (r_name p h) (r_text b bs bu o g bq l) = let f : kind_class (t.Name w) ≡ kind_class (t.Text bu) = ap kind_class (sym p) ∙ e ∙ ap kind_class o in cc
one_reading k j w e (r_name p h) (r_sign b o g) = let f : kind_class (t.Name w) ≡ kind_class (t.Sign b) = ap kind_class (sym p) ∙ e ∙ ap kind_class o in cc
one_reading k j w e (r_keyword a p h) (r_name o g) = absurd (g.free a h)
one_reading k j w e (r_keyword a p h) (r_keyword b o g) = let f = one_keyword a b (sym h ∙ g) in cc
one_reading k j w e (r_keyword a p h) (r_number o g l) = let f : kind_class (t.Keyword a) ≡ kind_class (t.Number (digits_value 10 w)) = ap kind_class (sym p) ∙ e ∙ ap kind_class o in cc
one_reading k j w e (r_keyword a p h) (r_text b bs bu o g bq l) = let f : kind_class (t.Keyword a) ≡ kind_class (t.Text bu) = ap kind_class (sym p) ∙ e ∙ ap kind_class o in cc
one_reading k j w e (r_keyword a p h) (r_sign b o g) = let f : kind_class (t.Keyword a) ≡ kind_class (t.Sign b) = ap kind_class (sym p) ∙ e ∙ ap kind_class o in cc
one_reading k j w e (r_number p h m) (r_name o g) = let f : kind_class (t.Number (digits_value 10 w)) ≡ kind_class (t.Name w) = ap kind_class (sym p) ∙ e ∙ ap kind_class o in cc
one_reading k j w e (r_number p h m) (r_keyword b o g) = let f : kind_class (t.Number (digits_value 10 w)) ≡ kind_class (t.Keyword b) = ap kind_class (sym p) ∙ e ∙ ap kind_class o in cc
one_reading k j w e (r_number p h m) (r_number o g l) = cc
one_reading k j w e (r_number p h m) (r_text b bs bu o g bq l) = let f : kind_class (t.Number (digits_value 10 w)) ≡ kind_class (t.Text bu) = ap kind_class (sym p) ∙ e ∙ ap kind_class o in cc
one_reading k j w e (r_number p h m) (r_sign b o g) = let f : kind_class (t.Number (digits_value 10 w)) ≡ kind_class (t.Sign b) = ap kind_class (sym p) ∙ e ∙ ap kind_class o in cc
one_reading k j w e (r_text a xs au p h aq m) (r_name o g) = let f : kind_class (t.Text au) ≡ kind_class (t.Name w) = ap kind_class (sym p) ∙ e ∙ ap kind_class o in cc
one_reading k j w e (r_text a xs au p h aq m) (r_keyword b o g) = let f : kind_class (t.Text au) ≡ kind_class (t.Keyword b) = ap kind_class (sym p) ∙ e ∙ ap kind_class o in cc
one_reading k j w e (r_text a xs au p h aq m) (r_number o g l) = let f : kind_class (t.Text au) ≡ kind_class (t.Number (digits_value 10 w)) = ap kind_class (sym p) ∙ e ∙ ap kind_class o in cc
one_reading k j w e (r_text a xs au p h aq m) (r_text b bs bu o g bq l) = let f = one_text w a b xs bs au bu aq bq h g m l in cc
one_reading k j w e (r_text a xs au p h aq m) (r_sign b o g) = let f : kind_class (t.Text au) ≡ kind_class (t.Sign b) = ap kind_class (sym p) ∙ e ∙ ap kind_class o in cc
one_reading k j w e (r_sign a p h) (r_name o g) = let f : kind_class (t.Sign a) ≡ kind_class (t.Name w) = ap kind_class (sym p) ∙ e ∙ ap kind_class o in cc
one_reading k j w e (r_sign a p h) (r_keyword b o g) = let f : kind_class (t.Sign a) ≡ kind_class (t.Keyword b) = ap kind_class (sym p) ∙ e ∙ ap kind_class o in cc
one_reading k j w e (r_sign a p h) (r_number o g l) = let f : kind_class (t.Sign a) ≡ kind_class (t.Number (digits_value 10 w)) = ap kind_class (sym p) ∙ e ∙ ap kind_class o in cc
one_reading k j w e (r_sign a p h) (r_text b bs bu o g bq l) = let f : kind_class (t.Sign a) ≡ kind_class (t.Text bu) = ap kind_class (sym p) ∙ e ∙ ap kind_class o in cc
one_reading k j w e (r_sign a p h) (r_sign b o g) = let f = one_sign a b (sym h ∙ g) in cc

pub one_kind : {k j : TokenKind} {w : List ℕ} → IsToken k w → IsToken j w → k ≡ j
one_kind {k} {j} {w} a b = one_reading k j w (sym (token_class a) ∙ token_class b) (reading a) (reading b)

-- READINGS OF A CLASS
pub number_reading : (j : TokenKind) (v : List ℕ) → kind_class j ≡ digit → Reading j v → (j ≡ t.Number (digits_value 10 v)) × IsDecimal v × (digits_value 10 v ≤ greatest_number)
number_reading j v e (r_name p h) = let f : kind_class (t.Name v) ≡ digit = ap kind_class (sym p) ∙ e in cc
number_reading j v e (r_keyword a p h) = let f : kind_class (t.Keyword a) ≡ digit = ap kind_class (sym p) ∙ e in cc
number_reading j v e (r_number p h m) = (p, h, m)
number_reading j v e (r_text a xs au p h aq m) = let f : kind_class (t.Text au) ≡ digit = ap kind_class (sym p) ∙ e in cc
number_reading j v e (r_sign a p h) = let f : kind_class (t.Sign a) ≡ digit = ap kind_class (sym p) ∙ e in cc

-- how a text in quotes is read
pub record Quoted (j : TokenKind) (v : List ℕ) : Type 0 where
  pub mark_of : ℕ
  pub chars : List ℕ
  pub units : List ℕ
  pub kind : j ≡ t.Text units
  pub is : v ≡ mark_of ∷ (chars ++ mark_of ∷ [])
  pub quotes : IsQuote mark_of
  pub inside : Inside mark_of chars units

pub text_reading : (j : TokenKind) (v : List ℕ) → kind_class j ≡ quote → Reading j v → Quoted j v
text_reading j v e (r_name p h) = let f : kind_class (t.Name v) ≡ quote = ap kind_class (sym p) ∙ e in cc
text_reading j v e (r_keyword a p h) = let f : kind_class (t.Keyword a) ≡ quote = ap kind_class (sym p) ∙ e in cc
text_reading j v e (r_number p h m) = let f : kind_class (t.Number (digits_value 10 v)) ≡ quote = ap kind_class (sym p) ∙ e in cc
text_reading j v e (r_text a xs au p h aq m) = record { mark_of = a; chars = xs; units = au; kind = p; is = h; quotes = aq; inside = m }
text_reading j v e (r_sign a p h) = let f : kind_class (t.Sign a) ≡ quote = ap kind_class (sym p) ∙ e in cc

pub mark_reading : (j : TokenKind) (v : List ℕ) → kind_class j ≡ mark → Reading j v → (s : Sign) × (j ≡ t.Sign s) × (v ≡ sign_text s)
mark_reading j v e (r_name p h) = let f : kind_class (t.Name v) ≡ mark = ap kind_class (sym p) ∙ e in cc
mark_reading j v e (r_keyword a p h) = let f : kind_class (t.Keyword a) ≡ mark = ap kind_class (sym p) ∙ e in cc
mark_reading j v e (r_number p h m) = let f : kind_class (t.Number (digits_value 10 v)) ≡ mark = ap kind_class (sym p) ∙ e in cc
mark_reading j v e (r_text a xs au p h aq m) = let f : kind_class (t.Text au) ≡ mark = ap kind_class (sym p) ∙ e in cc
mark_reading j v e (r_sign a p h) = (a, p, h)
