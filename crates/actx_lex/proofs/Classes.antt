-- What a token's first character may be.
use Rattle.std.proofs.Common.{◌≡◌, ◌≢◌, ◌⊎◌, inl, inr, ℕ, ◌<◌, ◌≤◌, Bool, true, false, cond, ◌||◌, refl, sym, ◌∙◌, ap, subst, arith, IsTrue, eqb, ltb}
use Rattle.std.specs.Char.{is_ascii_alphabetic, is_ascii_alphanumeric}
use Rattle.std.proofs.lemmas.Bool.{cases_lt, cases_Bool, cond-true, cond-false, or_left, or_right, or_from, or_cases, ne_eqb, both_ways, lt-ltb, le-ltb, eqb-true}
use Rattle.unicode_ident.specs.Ident.{is_xid_start, is_xid_continue}
use Rattle.unicode_ident.proofs.Computing.{unicode_ident}
use Rattle.unicode_ident.proofs.IdentLemmas.{is_xid_start-ascii, is_xid_continue-ascii, is_xid_start-is_xid_continue}
use Rattle.actx_grammar.specs.Words.{is_name_start, is_name_part}
use Rattle.actx_lex.specs.Characters.{is_digit, is_space, is_line_end}

pub data Class : Type 0 where
  word : Class
  digit : Class
  quote : Class
  blank : Class
  mark : Class

abbrev pub is_blank : ℕ → Bool
is_blank c = is_space c || is_line_end c

-- a letter of ASCII, `$` or `_`
abbrev pub is_letter : ℕ → Bool
is_letter c = eqb c 36 || eqb c 95 || is_ascii_alphabetic c

abbrev pub is_quote : ℕ → Bool
is_quote c = eqb c 34 || eqb c 39

abbrev wide_class : ℕ → Class
wide_class c = cond (ltb c 128) mark (cond (is_name_start c) word mark)

abbrev pub class_of : ℕ → Class
class_of c = cond (is_digit c) digit (cond (is_quote c) quote (cond (is_blank c) blank (cond (is_letter c) word (wide_class c))))

-- NAMES
pub start_letter : (c : ℕ) → c < 128 → is_name_start c ≡ is_letter c
start_letter c h = ap (λ b. (eqb c 36 || eqb c 95) || b) (is_xid_start-ascii c h)

pub letter_start : (c : ℕ) → IsTrue (is_letter c) → IsTrue (is_name_start c)
letter_start c h = start_letter c (below c h) ∙ h
  where
    below : (c : ℕ) → IsTrue (is_letter c) → c < 128
    below c h = grind arith

low_line : IsTrue (is_name_part 95)
unfolding unicode_ident
low_line = refl

pub start_part : (c : ℕ) → IsTrue (is_name_start c) → IsTrue (is_name_part c)
start_part c h =
    elim (or_cases (eqb c 36 || eqb c 95) (is_xid_start c) h) [
      | inl low ↦ elim (or_cases (eqb c 36) (eqb c 95) low) [
        | inl e ↦ ap (λ b. b || is_xid_continue c) e
        | inr e ↦ subst (λ x. IsTrue (is_name_part x)) (sym (eqb-true c 95 e)) low_line
      ]
      | inr x ↦ or_right (eqb c 36) (is_xid_continue c) (is_xid_start-is_xid_continue c x)
    ]

pub digit_part : (c : ℕ) → IsTrue (is_digit c) → IsTrue (is_name_part c)
digit_part c h = or_right (eqb c 36) (is_xid_continue c) (is_xid_continue-ascii c (below c h) ∙ or_left (is_ascii_alphanumeric c) (eqb c 95) (numeric c h))
  where
    below : (c : ℕ) → IsTrue (is_digit c) → c < 128
    below c h = grind arith

    numeric : (c : ℕ) → IsTrue (is_digit c) → is_ascii_alphanumeric c ≡ true
    numeric c h = grind arith

letter_digit : (c : ℕ) → IsTrue (is_letter c) → is_digit c ≡ false
letter_digit c h = grind arith

letter_quote : (c : ℕ) → IsTrue (is_letter c) → is_quote c ≡ false
letter_quote c h = grind arith

neither : {x y : Bool} → x ≡ false → y ≡ false → (x || y) ≡ false
neither {x} {y} = or_from x y

letter_apart : (c x : ℕ) → is_letter x ≡ false → IsTrue (is_letter c) → eqb c x ≡ false
letter_apart c x f h = ne_eqb c x (λ e. both_ways (is_letter x) f (subst (λ v. IsTrue (is_letter v)) e h))

letter_blank : (c : ℕ) → IsTrue (is_letter c) → is_blank c ≡ false
letter_blank c h =
    neither
    (neither (neither (neither (neither (neither (letter_apart c 9 refl h) (letter_apart c 11 refl h)) (letter_apart c 12 refl h)) (letter_apart c 32 refl h)) (letter_apart c 160 refl h)) (letter_apart c 65279 refl h))
    (neither (neither (neither (letter_apart c 10 refl h) (letter_apart c 13 refl h)) (letter_apart c 8232 refl h)) (letter_apart c 8233 refl h))

wide_digit : (c : ℕ) → 128 ≤ c → is_digit c ≡ false
wide_digit c h = grind arith

wide_quote : (c : ℕ) → 128 ≤ c → is_quote c ≡ false
wide_quote c h = grind arith

wide_letter : (c : ℕ) → 128 ≤ c → is_letter c ≡ false
wide_letter c h = grind arith

-- the blanks beyond ASCII begin no name
no_break_space : is_name_start 160 ≡ false
unfolding unicode_ident
no_break_space = refl

byte_order_mark : is_name_start 65279 ≡ false
unfolding unicode_ident
byte_order_mark = refl

line_separator : is_name_start 8232 ≡ false
unfolding unicode_ident
line_separator = refl

paragraph_separator : is_name_start 8233 ≡ false
unfolding unicode_ident
paragraph_separator = refl

unlike : (c x : ℕ) → is_name_start x ≡ false → IsTrue (is_name_start c) → c ≢ x
unlike c x f h e = both_ways (is_name_start x) f (subst (λ v. IsTrue (is_name_start v)) e h)

few_blanks : (c : ℕ) → 128 ≤ c → c ≢ 160 → c ≢ 65279 → c ≢ 8232 → c ≢ 8233 → is_blank c ≡ false
few_blanks c h a b d e = grind arith

wide_blank : (c : ℕ) → 128 ≤ c → IsTrue (is_name_start c) → is_blank c ≡ false
wide_blank c h s = few_blanks c h (unlike c 160 no_break_space s) (unlike c 65279 byte_order_mark s) (unlike c 8232 line_separator s) (unlike c 8233 paragraph_separator s)

from_digit : (c : ℕ) → is_digit c ≡ false → class_of c ≡ cond (is_quote c) quote (cond (is_blank c) blank (cond (is_letter c) word (wide_class c)))
from_digit c d = cond-false (is_digit c) digit _ d

from_quote : (c : ℕ) → is_digit c ≡ false → is_quote c ≡ false → class_of c ≡ cond (is_blank c) blank (cond (is_letter c) word (wide_class c))
from_quote c d q = from_digit c d ∙ cond-false (is_quote c) quote _ q

from_blank : (c : ℕ) → is_digit c ≡ false → is_quote c ≡ false → is_blank c ≡ false → class_of c ≡ cond (is_letter c) word (wide_class c)
from_blank c d q b = from_quote c d q ∙ cond-false (is_blank c) blank _ b

pub word_class : (c : ℕ) → IsTrue (is_name_start c) → class_of c ≡ word
word_class c h =
    elim (cases_lt c 128) [
      | inl low ↦
          let l : IsTrue (is_letter c) = sym (start_letter c low) ∙ h in
          from_blank c (letter_digit c l) (letter_quote c l) (letter_blank c l) ∙ cond-true (is_letter c) word (wide_class c) l
      | inr high ↦
          from_blank c (wide_digit c high) (wide_quote c high) (wide_blank c high h)
          ∙ cond-false (is_letter c) word (wide_class c) (wide_letter c high)
          ∙ cond-false (ltb c 128) mark _ (le-ltb c 128 high)
          ∙ cond-true (is_name_start c) word mark h
    ]

pub digit_class : (c : ℕ) → IsTrue (is_digit c) → class_of c ≡ digit
digit_class c h = cond-true (is_digit c) digit _ h

pub quote_class : (c : ℕ) → IsTrue (is_quote c) → class_of c ≡ quote
quote_class c h = let d : is_digit c ≡ false = grind arith in from_digit c d ∙ cond-true (is_quote c) quote _ h

pub blank_class : (c : ℕ) → IsTrue (is_blank c) → class_of c ≡ blank
blank_class c h =
    let d : is_digit c ≡ false = grind arith in
    let q : is_quote c ≡ false = grind arith in
    from_quote c d q ∙ cond-true (is_blank c) blank _ h

-- a character that begins neither a name, a number nor a text
pub other_class : (c : ℕ) → is_name_start c ≡ false → is_digit c ≡ false → is_quote c ≡ false → (class_of c ≡ blank) ⊎ (class_of c ≡ mark)
other_class c n d q =
    elim (cases_Bool (is_blank c)) [
      | inl b ↦ inl (from_quote c d q ∙ cond-true (is_blank c) blank _ b)
      | inr b ↦ inr (elim (cases_lt c 128) [
        | inl low ↦
            from_blank c d q b ∙ cond-false (is_letter c) word (wide_class c) (sym (start_letter c low) ∙ n)
            ∙ cond-true (ltb c 128) mark _ (lt-ltb c 128 low)
        | inr high ↦
            from_blank c d q b ∙ cond-false (is_letter c) word (wide_class c) (wide_letter c high)
            ∙ cond-false (ltb c 128) mark _ (le-ltb c 128 high)
            ∙ cond-false (is_name_start c) word mark n
      ])
    ]
