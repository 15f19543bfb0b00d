-- Numbers: what the code reads is the one token that begins there, and what it refuses begins none.
use Rattle.std.proofs.Common.{◌≡◌, inl, inr, ℕ, ◌<◌, ◌≤◌, Bool, true, false, cond, ◌||◌, List, [], ◌∷◌, length, get_or, take, drop, refl, sym, ◌∙◌, ap, subst, arith, IsTrue, eqb}
use Rattle.std.specs.Str.Parse.{digits_value}
use Rattle.std.specs.List.{prefix_len}
use Rattle.std.proofs.lemmas.Bool.{false≢true, cases_eq, false_from_ne_true, both_ways, cond-true, or_left}
use Rattle.std.proofs.lemmas.List.{length-take, length-drop, get_or-take, get_or-drop}
use Rattle.std.proofs.lemmas.List.Elements.{All-cons, All-tail, All-head, All-nil}
use Rattle.std.proofs.lemmas.List.Sums.{prefix_len_is}
use Rattle.actx_grammar.specs.declared.token.TokenKind.{TokenKind}
use Rattle.actx_grammar.specs.declared.token.TokenKind.TheVariants as t
use Rattle.actx_grammar.specs.Words.{greatest_number, is_name_part}
use Rattle.actx_lex.specs.Characters.{is_digit, AllPass}
use Rattle.actx_lex.specs.Lexical.{IsDecimal, just_zero, digits_on, number_token, IsLexeme, begins_free, MayFollow}
use Rattle.actx_lex.specs.Lexeme.{Begins}
use Rattle.actx_lex.proofs.Classes.{digit, class_of, digit_class, digit_part}
use Rattle.actx_lex.proofs.Tokens.{token_class, refused_class, reading, number_reading}
use Rattle.actx_lex.proofs.Beginnings.{begins_some, begins_class}
use Rattle.actx_lex.proofs.Runs.{run_passes, run_some, longest_run}

pub decimal_digits : (w : List ℕ) → IsDecimal w → AllPass is_digit w
decimal_digits w just_zero = All-cons (λ c. IsTrue (is_digit c)) 48 [] refl (All-nil (λ c. IsTrue (is_digit c)))
decimal_digits w (digits_on {c} {cs} h n g) = All-cons (λ c. IsTrue (is_digit c)) c cs h g

pub decimal_from : (w : List ℕ) → 0 < length w → AllPass is_digit w → (get_or w 0 0 ≡ 48 → length w ≤ 1) → IsDecimal w
decimal_from [] pos h z = absurd (omega arith)
decimal_from (c ∷ []) pos h z =
    elim (cases_eq c 48) [
      | inl e ↦ subst (λ d. IsDecimal (d ∷ [])) (sym e) just_zero
      | inr n ↦ digits_on (All-head (λ d. IsTrue (is_digit d)) c [] h) n (All-tail (λ d. IsTrue (is_digit d)) c [] h)
    ]
decimal_from (c ∷ d ∷ cs) pos h z =
    elim (cases_eq c 48) [
      | inl e ↦ absurd (let l = z e in omega arith)
      | inr n ↦ digits_on (All-head (λ d. IsTrue (is_digit d)) c (d ∷ cs) h) n (All-tail (λ d. IsTrue (is_digit d)) c (d ∷ cs) h)
    ]

pub number_lexeme : (v r : List ℕ) → IsLexeme v r → class_of (get_or v 0 0) ≡ digit → AllPass is_digit v
number_lexeme v r (inl (j, h)) e = decimal_digits v (number_reading j v (sym (token_class h) ∙ e) (reading h)).1
number_lexeme v r (inr (h, n)) e = let f = refused_class v h in cc

digit_some : (text : List ℕ) → IsTrue (is_digit (get_or text 0 0)) → 0 < length text
digit_some [] h = absurd (false≢true h)
digit_some (c ∷ cs) h = omega arith

pub number_begins : (fresh : Bool) (text : List ℕ) (n : ℕ) → IsTrue (is_digit (get_or text 0 0)) → n ≡ prefix_len is_digit text → n ≤ length text → (get_or text 0 0 ≡ 48 → n ≤ 1) → IsTrue (begins_free (drop n text)) → digits_value 10 (take n text) ≤ greatest_number → Begins fresh text (t.Number (digits_value 10 (take n text))) n
number_begins fresh text n start e fits zero free small =
    let pos : 0 < n = run_some is_digit text n start e (digit_some text start) in
    let len : length (take n text) ≡ n = omega (arith, length-take n text) in
    let head : get_or (take n text) 0 0 ≡ get_or text 0 0 = get_or-take n text 0 0 pos in
    record {
      fits = fits;
      token = number_token (decimal_from (take n text) (omega arith) (run_passes is_digit text n e fits) (λ z. let l = zero (sym head ∙ z) in omega arith)) small;
      longest = longest_run is_digit text n digit e fits pos (digit_class (get_or text 0 0) start) number_lexeme;
      follows = free;
    }

free_stops : (rest : List ℕ) → IsTrue (begins_free rest) → 0 < length rest → is_digit (get_or rest 0 0) ≡ false
free_stops [] h pos = absurd (omega arith)
free_stops (c ∷ cs) h pos = false_from_ne_true (is_digit c) (λ d. both_ways (begins_free (c ∷ cs)) (named c (digit_part c d)) h)
  where
    named : (c : ℕ) → IsTrue (is_name_part c) → cond (is_name_part c || eqb c 46) false true ≡ false
    named c p = cond-true (is_name_part c || eqb c 46) false true (or_left (is_name_part c) (eqb c 46) p)

-- what is known where a number begins
pub record NumberRun (text : List ℕ) (m : ℕ) : Type 0 where
  pub run : m ≡ prefix_len is_digit text
  pub zero : get_or text 0 0 ≡ 48 → m ≤ 1
  pub free : IsTrue (begins_free (drop m text))
  pub small : digits_value 10 (take m text) ≤ greatest_number

zero_alone : (w : List ℕ) → IsDecimal w → get_or w 0 0 ≡ 48 → length w ≤ 1
zero_alone w just_zero e = omega arith
zero_alone w (digits_on h n g) e = absurd (n e)

pub number_run : (fresh : Bool) (text : List ℕ) (k : TokenKind) (m : ℕ) → IsTrue (is_digit (get_or text 0 0)) → Begins fresh text k m → NumberRun text m
number_run fresh text k m start b =
    let pos = begins_some fresh text k m b in
    let r = number_reading k (take m text) (sym (begins_class fresh text k m b) ∙ digit_class (get_or text 0 0) start) (reading b.token) in
    let len : length (take m text) ≡ m = let f = b.fits in omega (arith, length-take m text) in
    let head : get_or (take m text) 0 0 ≡ get_or text 0 0 = get_or-take m text 0 0 pos in
    let all = decimal_digits (take m text) r.1 in
    let free : IsTrue (begins_free (drop m text)) = subst (λ j. MayFollow fresh j (drop m text)) r.0 b.follows in
    record {
      run = sym (prefix_len_is is_digit text m 0 b.fits
          (λ i lt. subst (λ v. IsTrue (is_digit v)) (get_or-take m text i 0 lt) (all i 0 (omega arith)))
          (λ lt. subst (λ v. is_digit v ≡ false) (get_or-drop m text 0 0 ∙ ap (λ i. get_or text i 0) (omega arith)) (free_stops (drop m text) free (omega (arith, length-drop m text)))));
      zero = λ z. let l = zero_alone (take m text) r.1 (head ∙ z) in omega arith;
      free = free;
      small = r.2;
    }
