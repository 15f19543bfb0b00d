-- What operators and tests make of values (ECMA-262, 7.1.2, 7.1.17, 7.2.15, 13.8.1 and 13.15.3, restricted to the profile).
use Rattle.std.specs.Prelude.{ℕ, ℤ, pos, Bool, true, false, not, nat_eq, List, [], ◌∷◌, Option, Some, None, codes}
use Rattle.std.specs.Ordering.{int_eq}
use Rattle.std.specs.Fmt.{signed_decimal}
use Rattle.actx_data.specs.Number.{sum_of, difference_of, product_of}
use Rattle.actx_data.specs.Units.{joined}
use Rattle.actx_data.specs.declared.shown.ErrorName.{ErrorName}
use Rattle.actx_data.specs.declared.value.Value.{Value}
use Rattle.actx_data.specs.declared.value.Value.TheVariants as v
use Rattle.actx_rules.specs.Texts.{same_text}
use Rattle.actx_grammar.specs.declared.operators.BinaryOp.{BinaryOp}
use Rattle.actx_grammar.specs.declared.operators.BinaryOp.TheVariants as o

-- the answer of an operation: a value, an error that is thrown, or that the run leaves the profile
pub data Answer : Type 0 where
  Gives : (v : Value) → Answer
  Throws : (name : ErrorName) → Answer
  Leaves : Answer

abbrev pub number_or_leaves : Option ℤ → Answer
number_or_leaves (Some z) = Gives (v.Num z)
number_or_leaves None = Leaves

abbrev pub text_or_leaves : Option (List ℕ) → Answer
text_or_leaves (Some u) = Gives (v.Text u)
text_or_leaves None = Leaves

abbrev pub truth_text : Bool → List ℕ
truth_text true = codes "true"
truth_text false = codes "false"

-- the text of a primitive value; a thing has none (7.1.17 ToString)
abbrev pub primitive_text : Value → Option (List ℕ)
primitive_text v.Undefined = Some (codes "undefined")
primitive_text v.Null = Some (codes "null")
primitive_text (v.Truth b) = Some (truth_text b)
primitive_text (v.Num z) = Some (signed_decimal z)
primitive_text (v.Text u) = Some u
primitive_text (v.Thing k) = None

abbrev pub join_before : List ℕ → Option (List ℕ) → Answer
join_before u (Some w) = text_or_leaves (joined u w)
join_before u None = Leaves

abbrev pub join_after : Option (List ℕ) → List ℕ → Answer
join_after (Some w) u = text_or_leaves (joined w u)
join_after None u = Leaves

-- two numbers: the sum; a text and a primitive value: the texts joined; else outside the profile
abbrev pub plus : Value → Value → Answer
plus (v.Text u) b = join_before u (primitive_text b)
plus (v.Num x) (v.Num y) = number_or_leaves (sum_of x y)
plus a (v.Text u) = join_after (primitive_text a) u
plus _ _ = Leaves

abbrev pub minus : Value → Value → Answer
minus (v.Num x) (v.Num y) = number_or_leaves (difference_of x y)
minus _ _ = Leaves

abbrev pub times : Value → Value → Answer
times (v.Num x) (v.Num y) = number_or_leaves (product_of x y)
times _ _ = Leaves

-- primitives by their values, things by their places (7.2.15 IsStrictlyEqual)
abbrev pub same : Value → Value → Bool
same v.Undefined v.Undefined = true
same v.Null v.Null = true
same (v.Truth true) (v.Truth b) = b
same (v.Truth false) (v.Truth b) = not b
same (v.Num x) (v.Num y) = int_eq x y
same (v.Text u) (v.Text w) = same_text u w
same (v.Thing k) (v.Thing j) = nat_eq k j
same _ _ = false

abbrev pub binary : BinaryOp → Value → Value → Answer
binary o.Add a b = plus a b
binary o.Sub a b = minus a b
binary o.Mul a b = times a b
binary o.Same a b = Gives (v.Truth (same a b))
binary _ a b = Leaves

-- TESTS (7.1.2 ToBoolean)
abbrev pub is_true : Value → Bool
is_true v.Undefined = false
is_true v.Null = false
is_true (v.Truth b) = b
is_true (v.Num z) = not (int_eq z (pos 0))
is_true (v.Text []) = false
is_true (v.Text (c ∷ cs)) = true
is_true (v.Thing k) = true
