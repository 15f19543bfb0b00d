-- What operators and tests make of values (ECMA-262, 7.1.2, 7.1.17, 7.2.13, 13.5, 13.8 to 13.11 and 13.15.3, restricted to the profile).
use Rattle.std.specs.Prelude.{ℕ, ℤ, pos, Bool, true, false, not, nat_lt, nat_eq, List, [], ◌∷◌, Option, Some, None, slice_get, codes, if◌then◌else◌}
use Rattle.std.specs.Ordering.{int_eq, int_cmp}
use Rattle.std.specs.declared.cmp.Ordering.{Ordering}
use Rattle.std.specs.Fmt.{signed_decimal}
use Rattle.actx_data.specs.Number.{sum_of, difference_of, product_of}
use Rattle.actx_data.specs.Units.{joined}
use Rattle.actx_data.specs.declared.value.Value.{Value}
use Rattle.actx_data.specs.declared.value.Value.TheVariants as v
use Rattle.actx_grammar.specs.declared.operators.BinaryOp.{BinaryOp}
use Rattle.actx_grammar.specs.declared.operators.BinaryOp.TheVariants as o
use Rattle.actx_grammar.specs.declared.operators.LogicOp.{LogicOp}
use Rattle.actx_grammar.specs.declared.operators.LogicOp.TheVariants as l
use Rattle.actx_grammar.specs.declared.operators.UnaryOp.{UnaryOp}
use Rattle.actx_grammar.specs.declared.operators.UnaryOp.TheVariants as u
use Rattle.actx_heap.specs.Things.{Thing, Function}
use Rattle.actx_heap.specs.Properties.{same}
use Rattle.actx_heap.specs.declared.answers.Got.{Got}
use Rattle.actx_heap.specs.declared.answers.Got.TheVariants as g

abbrev pub number_or_leaves : Option ℤ → Got
number_or_leaves (Some z) = g.Value (v.Num z)
number_or_leaves None = g.Leaves

abbrev pub text_or_leaves : Option (List ℕ) → Got
text_or_leaves (Some w) = g.Value (v.Text w)
text_or_leaves None = g.Leaves

abbrev pub truth_text : Bool → List ℕ
truth_text true = codes "true"
truth_text false = codes "false"

-- the text of a primitive value; a thing has none (7.1.17 ToString)
abbrev pub primitive_text : Value → Option (List ℕ)
primitive_text v.Undefined = Some (codes "undefined")
primitive_text v.Null = Some (codes "null")
primitive_text (v.Truth b) = Some (truth_text b)
primitive_text (v.Num z) = Some (signed_decimal z)
primitive_text (v.Text w) = Some w
primitive_text (v.Thing k) = None

abbrev pub join_before : List ℕ → Option (List ℕ) → Got
join_before w (Some x) = text_or_leaves (joined w x)
join_before w None = g.Leaves

abbrev pub join_after : Option (List ℕ) → List ℕ → Got
join_after (Some x) w = text_or_leaves (joined x w)
join_after None w = g.Leaves

-- two numbers: the sum; a text and a primitive value: the texts joined; else outside the profile (13.15.3)
abbrev pub plus : Value → Value → Got
plus (v.Text w) b = join_before w (primitive_text b)
plus (v.Num x) (v.Num y) = number_or_leaves (sum_of x y)
plus a (v.Text w) = join_after (primitive_text a) w
plus _ _ = g.Leaves

abbrev pub minus : Value → Value → Got
minus (v.Num x) (v.Num y) = number_or_leaves (difference_of x y)
minus _ _ = g.Leaves

abbrev pub times : Value → Value → Got
times (v.Num x) (v.Num y) = number_or_leaves (product_of x y)
times _ _ = g.Leaves

-- texts in the order of their units (7.2.13)
abbrev pub text_less : List ℕ → List ℕ → Bool
text_less _ [] = false
text_less [] (d ∷ ds) = true
text_less (c ∷ cs) (d ∷ ds) = if nat_eq c d then text_less cs ds else nat_lt c d

abbrev pub is_below : Ordering → Bool
is_below Ordering.Less = true
is_below _ = false

-- two numbers, or two texts (13.10.1)
abbrev pub less : Value → Value → Option Bool
less (v.Num x) (v.Num y) = Some (is_below (int_cmp x y))
less (v.Text w) (v.Text x) = Some (text_less w x)
less _ _ = None

abbrev pub truth_or_leaves : Option Bool → Got
truth_or_leaves (Some b) = g.Value (v.Truth b)
truth_or_leaves None = g.Leaves

abbrev pub untruth_or_leaves : Option Bool → Got
untruth_or_leaves (Some b) = g.Value (v.Truth (not b))
untruth_or_leaves None = g.Leaves

abbrev pub binary : BinaryOp → Value → Value → Got
binary o.Add a b = plus a b
binary o.Sub a b = minus a b
binary o.Mul a b = times a b
binary o.Same a b = g.Value (v.Truth (same a b))
binary o.NotSame a b = g.Value (v.Truth (not (same a b)))
binary o.Less a b = truth_or_leaves (less a b)
binary o.LessSame a b = untruth_or_leaves (less b a)
binary o.More a b = truth_or_leaves (less b a)
binary o.MoreSame a b = untruth_or_leaves (less a b)

-- TESTS (7.1.2 ToBoolean)
abbrev pub is_true : Value → Bool
is_true v.Undefined = false
is_true v.Null = false
is_true (v.Truth b) = b
is_true (v.Num z) = not (int_eq z (pos 0))
is_true (v.Text []) = false
is_true (v.Text (c ∷ cs)) = true
is_true (v.Thing k) = true

abbrev pub is_nullish : Value → Bool
is_nullish v.Undefined = true
is_nullish v.Null = true
is_nullish _ = false

-- whether the left value of a logic operator is the value of the whole (13.13.1)
abbrev pub is_settled : LogicOp → Value → Bool
is_settled l.And a = not (is_true a)
is_settled l.Or a = is_true a
is_settled l.Coalesce a = not (is_nullish a)

-- OPERATORS OF ONE OPERAND (13.5)
abbrev pub thing_type : {C : Type 0} → Option (Thing C) → List ℕ
thing_type (Some (Function code)) = codes "function"
thing_type _ = codes "object"

abbrev pub type_text : {C : Type 0} → List (Thing C) → Value → List ℕ
type_text heap v.Undefined = codes "undefined"
type_text heap v.Null = codes "object"
type_text heap (v.Truth b) = codes "boolean"
type_text heap (v.Num z) = codes "number"
type_text heap (v.Text w) = codes "string"
type_text heap (v.Thing k) = thing_type (slice_get heap k)

abbrev pub unary : {C : Type 0} → List (Thing C) → UnaryOp → Value → Got
unary heap u.Not a = g.Value (v.Truth (not (is_true a)))
unary heap u.Minus a = minus (v.Num (pos 0)) a
unary heap u.Typeof a = g.Value (v.Text (type_text heap a))
unary heap u.Void a = g.Value v.Undefined
