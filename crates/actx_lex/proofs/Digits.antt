-- The number that digits write.
use Rattle.std.proofs.Common.{◌≡◌, inl, inr, ℕ, ◌+◌, ◌-◌, ◌<◌, ◌≤◌, List, Some, None, take, sym, IsTrue, leb, arith}
use Rattle.std.specs.Str.Parse.{digits_value}
use Rattle.std.specs.Char.{digit_value}
use Rattle.std.proofs.lemmas.Bool.{cond-true, cond-false, cases_Bool, lt-leb, le-leb, leb-true}
use Rattle.std.proofs.lemmas.Str.Parse.{digits_value-take-le}
use Rattle.actx_grammar.specs.Words.{greatest_number}
use Rattle.actx_lex.specs.Characters.{is_digit}
use Rattle.actx_lex.specs.Lexeme.{number_of}

pub digit_worth : (c : ℕ) → IsTrue (is_digit c) → digit_value c ≡ c - 48
digit_worth c h = grind arith

pub too_great : (ds : List ℕ) (i : ℕ) → greatest_number < digits_value 10 (take (i + 1) ds) → None ≡ number_of ds
too_great ds i h =
    let le = digits_value-take-le 10 ds (i + 1) (omega arith) in
    sym (cond-false (leb (digits_value 10 ds) greatest_number) (Some (digits_value 10 ds)) None (lt-leb (digits_value 10 ds) greatest_number (omega arith)))

pub number_refused : (w : List ℕ) → number_of w ≡ None → digits_value 10 w ≤ greatest_number → ⊥
number_refused w e h = let f : number_of w ≡ Some (digits_value 10 w) = cond-true (leb (digits_value 10 w) greatest_number) (Some (digits_value 10 w)) None (le-leb (digits_value 10 w) greatest_number h) in cc

pub number_found : (w : List ℕ) (v : ℕ) → number_of w ≡ Some v → (v ≡ digits_value 10 w) × (digits_value 10 w ≤ greatest_number)
number_found w v e =
    elim (cases_Bool (leb (digits_value 10 w) greatest_number)) [
      | inl h ↦
          let f : number_of w ≡ Some (digits_value 10 w) = cond-true (leb (digits_value 10 w) greatest_number) (Some (digits_value 10 w)) None h in
          (cc, leb-true (digits_value 10 w) greatest_number h)
      | inr h ↦
          let f : number_of w ≡ None = cond-false (leb (digits_value 10 w) greatest_number) (Some (digits_value 10 w)) None h in
          cc
    ]
