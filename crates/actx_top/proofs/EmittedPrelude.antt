-- The prelude is spelled by its own tokens on the plain side: they parse to it, and what is parsed is spelled.
use Rattle.std.proofs.Common.{◌≡◌, ◌≢◌, ℕ, ◌≤◌, ◌<◌, List, [], ◌∷◌, Bool, true, false, refl, sym, ap, ◌∙◌, inl, inr, arith, lit≤}
use Rattle.std.specs.Prelude.{◌&&◌, ◌||◌, nat_le, nat_lt, IsTrue, All}
use Rattle.std.proofs.lemmas.Bool.{or_cases}
use Rattle.std.proofs.lemmas.Bool.Decides.{nat_tests}
use Rattle.std.proofs.lemmas.List.Elements.{All-nil, All-cons}
use Rattle.actx_grammar.specs.declared.side.Side.TheVariants.{Plain}
use Rattle.actx_grammar.specs.declared.token.Keyword.{Keyword}
use Rattle.actx_grammar.specs.declared.token.Keyword.TheVariants as k
use Rattle.actx_grammar.specs.declared.token.TokenKind.{TokenKind}
use Rattle.actx_grammar.specs.declared.token.TokenKind.TheVariants as t
use Rattle.actx_grammar.specs.Depth.{depth_program}
use Rattle.actx_grammar.specs.Exact.{InForm}
use Rattle.actx_grammar.specs.Grammar.{IsSpelled}
use Rattle.actx_grammar.specs.Layout.{laid}
use Rattle.actx_grammar.specs.Lexemes.{Lexeme}
use Rattle.actx_grammar.specs.Names.{IsReference}
use Rattle.actx_grammar.specs.Parser.{parse, parsed}
use Rattle.actx_grammar.specs.Sides.{StmtsOn}
use Rattle.actx_grammar.specs.Spell.{spell_program, word_token}
use Rattle.actx_grammar.specs.Words.{IsName, is_name_part, HasForm, keyword_text, greatest_number}
use Rattle.actx_laws.proofs.SideReads.{stmts_on}
use Rattle.actx_laws.proofs.ViableParsed.{spells}
use Rattle.actx_laws.proofs.ViableTests.{and_left, and_right, binding_is}
use Rattle.actx_lex.specs.Characters.{is_digit}
use Rattle.actx_lex.proofs.Classes.{is_letter, letter_start, start_part, digit_part}
use Rattle.actx_rules.specs.Prelude.{name_variable, prelude}

-- NAMES OF LETTERS AND DIGITS
abbrev is_plain : ℕ → Bool
is_plain c = is_letter c || is_digit c

plain_part : (c : ℕ) → is_plain c ≡ true → IsTrue (is_name_part c)
plain_part c h =
    elim (or_cases (is_letter c) (is_digit c) h) [
      | inl e ↦ start_part c (letter_start c e)
      | inr e ↦ digit_part c e
    ]

abbrev are_plain : List ℕ → Bool
are_plain [] = true
are_plain (c ∷ cs) = is_plain c && are_plain cs

parts_pass : (cs : List ℕ) → are_plain cs ≡ true → All (λ c. IsTrue (is_name_part c)) cs
parts_pass [] h = All-nil (λ c. IsTrue (is_name_part c))
parts_pass (c ∷ cs) h = All-cons (λ d. IsTrue (is_name_part d)) c cs (plain_part c (and_left (is_plain c) (are_plain cs) h)) (parts_pass cs (and_right (is_plain c) (are_plain cs) h))

-- which reserved words there are
keyword_again : (w : Keyword) → word_token (keyword_text w) ≡ t.Keyword w
keyword_again k.Async = refl
keyword_again _ = refl

abbrev is_free : TokenKind → Bool
is_free (t.Name x) = true
is_free _ = false

free_name : (x : List ℕ) → is_free (word_token x) ≡ true → (w : Keyword) → x ≢ keyword_text w
free_name x h w e = let no : true ≡ false = sym h ∙ ap is_free (ap word_token e ∙ keyword_again w) in absurd (cc)

abbrev is_name : List ℕ → Bool
is_name [] = false
is_name (c ∷ cs) = is_letter c && (are_plain cs && is_free (word_token (c ∷ cs)))

pub name_is : (x : List ℕ) → is_name x ≡ true → IsName x
name_is [] h = absurd (cc)
name_is (c ∷ cs) h =
    let behind : (are_plain cs && is_free (word_token (c ∷ cs))) ≡ true = and_right (is_letter c) (are_plain cs && is_free (word_token (c ∷ cs))) h in
    record { first = c; more = cs; is = refl; starts = letter_start c (and_left (is_letter c) (are_plain cs && is_free (word_token (c ∷ cs))) h); goes_on = parts_pass cs (and_left (are_plain cs) (is_free (word_token (c ∷ cs))) behind); free = free_name (c ∷ cs) (and_right (are_plain cs) (is_free (word_token (c ∷ cs))) behind) }

-- TOKENS OF THEIR FORMS
abbrev are_units : List ℕ → Bool
are_units [] = true
are_units (u ∷ us) = nat_lt u 65536 && are_units us

units_are : (us : List ℕ) → are_units us ≡ true → All (λ u. u < 65536) us
units_are [] h = All-nil (λ u. u < 65536)
units_are (u ∷ us) h = All-cons (λ c. c < 65536) u us (small (and_left (nat_lt u 65536) (are_units us) h)) (units_are us (and_right (nat_lt u 65536) (are_units us) h))
  where
    small : nat_lt u 65536 ≡ true → u < 65536
    small q = grind (arith, nat_tests)

abbrev has_form : TokenKind → Bool
has_form (t.Name x) = is_name x
has_form (t.Keyword w) = true
has_form (t.Number n) = nat_le n greatest_number
has_form (t.Text us) = are_units us
has_form (t.Sign s) = true

form_is : (u : TokenKind) → has_form u ≡ true → HasForm u
form_is (t.Name x) h = name_is x h
form_is (t.Keyword w) h = tt
form_is (t.Number n) h = grind (arith, nat_tests)
form_is (t.Text us) h = units_are us h
form_is (t.Sign s) h = tt

abbrev have_form : List Lexeme → Bool
have_form [] = true
have_form (l ∷ ls) = has_form l.kind && have_form ls

forms_are : (ls : List Lexeme) → have_form ls ≡ true → InForm ls
forms_are [] h = All-nil (λ l. HasForm l.kind)
forms_are (l ∷ ls) h = All-cons (λ l. HasForm l.kind) l ls (form_is l.kind (and_left (has_form l.kind) (have_form ls) h)) (forms_are ls (and_right (has_form l.kind) (have_form ls) h))

-- THE PRELUDE
abbrev tokens : List Lexeme
tokens = laid (spell_program prelude)

prelude_parsed : parse Plain tokens ≡ parsed prelude
prelude_parsed = refl

prelude_forms : have_form tokens ≡ true
prelude_forms = refl

prelude_spelled : IsSpelled Plain prelude tokens
prelude_spelled = spells Plain prelude tokens (forms_are tokens prelude_forms) prelude_parsed

pub prelude_on : StmtsOn Plain prelude
prelude_on = stmts_on prelude_spelled

-- it goes no deeper than this
pub prelude_deep : depth_program prelude ≤ 100
prelude_deep = lit≤ tt

-- the function that makes a variable
pub variable_named : IsReference Plain name_variable
variable_named = let b = binding_is Plain name_variable (name_is name_variable refl) refl in record { name = b.name; own = b.own; not_undefined = λ e. absurd (cc) }
