-- Values that correspond are tested and computed with alike.
use Rattle.std.proofs.Common.{◌≡◌, ℕ, ℤ, Bool, true, false, List, Option, Some, None, refl, sym, ap, subst}
use Rattle.std.specs.Prelude.{not, pos, codes}
use Rattle.std.specs.Fmt.{signed_decimal}
use Rattle.actx_match.specs.Pairing.{Paired}
use Rattle.actx_data.specs.Units.{joined}
use Rattle.actx_data.specs.declared.value.Value.{Value}
use Rattle.actx_data.specs.declared.value.Value.TheVariants as v
use Rattle.actx_grammar.specs.declared.operators.BinaryOp.{BinaryOp}
use Rattle.actx_grammar.specs.declared.operators.BinaryOp.TheVariants as o
use Rattle.actx_grammar.specs.declared.operators.LogicOp.{LogicOp}
use Rattle.actx_grammar.specs.declared.operators.LogicOp.TheVariants as l
use Rattle.actx_grammar.specs.declared.operators.UnaryOp.{UnaryOp}
use Rattle.actx_grammar.specs.declared.operators.UnaryOp.TheVariants as u
use Rattle.actx_heap.specs.Texts.{same_text}
use Rattle.actx_heap.specs.Things.{Thing}
use Rattle.actx_heap.specs.declared.answers.Got.TheVariants as g
use Rattle.actx_table.specs.Answers.{code_in, code_of}
use Rattle.actx_table.specs.Expressions.{bumped}
use Rattle.actx_table.specs.Operators.{number_or_leaves, text_or_leaves, truth_or_leaves, untruth_or_leaves, truth_text, join_before, plus, minus, times, less, binary, is_true, is_nullish, is_settled, thing_type, type_text, unary}
use Rattle.actx_table.specs.State.{Code}
use Rattle.actx_table.specs.Related.{World, ValueIs, undefined_is, null_is, truth_is, num_is, text_is, thing_is, ThingIs, failure_is, closure_is, listed_is, plain_is, get_is, run_is}
use Rattle.actx_table.proofs.Same.Alike.{GotIs, gives_is, leaves_is, PlacesAre, places_are, places, alike, primitive_same, same_is}

module _ (w : World) where
  -- TESTS
  pub is_true_same : (a b : Value) → ValueIs w a b → is_true b ≡ is_true a
  is_true_same a b h = alike w is_true (λ k j. refl) a b h

  pub is_nullish_same : (a b : Value) → ValueIs w a b → is_nullish b ≡ is_nullish a
  is_nullish_same a b h = alike w is_nullish (λ k j. refl) a b h

  pub is_settled_same : (op : LogicOp) (a b : Value) → ValueIs w a b → is_settled op b ≡ is_settled op a
  is_settled_same l.And a b h = ap not (is_true_same a b h)
  is_settled_same l.Or a b h = is_true_same a b h
  is_settled_same l.Coalesce a b h = ap not (is_nullish_same a b h)

  -- ANSWERS
  pub number_is : (o : Option ℤ) → GotIs w (number_or_leaves o) (number_or_leaves o)
  number_is (Some z) = gives_is (num_is z)
  number_is None = leaves_is

  text_answer : (o : Option (List ℕ)) → GotIs w (text_or_leaves o) (text_or_leaves o)
  text_answer (Some x) = gives_is (text_is x)
  text_answer None = leaves_is

  truth_answer : (o p : Option Bool) → p ≡ o → GotIs w (truth_or_leaves o) (truth_or_leaves p)
  truth_answer o p e = subst (λ x. GotIs w (truth_or_leaves o) (truth_or_leaves x)) (sym e) (by o)
    where
      by : (o : Option Bool) → GotIs w (truth_or_leaves o) (truth_or_leaves o)
      by (Some b) = gives_is (truth_is b)
      by None = leaves_is

  untruth_answer : (o p : Option Bool) → p ≡ o → GotIs w (untruth_or_leaves o) (untruth_or_leaves p)
  untruth_answer o p e = subst (λ x. GotIs w (untruth_or_leaves o) (untruth_or_leaves x)) (sym e) (by o)
    where
      by : (o : Option Bool) → GotIs w (untruth_or_leaves o) (untruth_or_leaves o)
      by (Some b) = gives_is (truth_is (not b))
      by None = leaves_is

  truth_given : (a b : Bool) → b ≡ a → GotIs w (g.Value (v.Truth a)) (g.Value (v.Truth b))
  truth_given a b e = subst (λ x. GotIs w (g.Value (v.Truth a)) (g.Value (v.Truth x))) (sym e) (gives_is (truth_is a))

  -- OPERATORS OF TWO OPERANDS
  before_is : (u : List ℕ) (o p : Option (List ℕ)) → p ≡ o → GotIs w (join_before u o) (join_before u p)
  before_is u o p e = subst (λ x. GotIs w (join_before u o) (join_before u x)) (sym e) (by o)
    where
      by : (o : Option (List ℕ)) → GotIs w (join_before u o) (join_before u o)
      by (Some x) = text_answer _
      by None = leaves_is

  plus_is : (a b c d : Value) → ValueIs w a c → ValueIs w b d → GotIs w (plus a b) (plus c d)
  plus_is a b c d (text_is u) k = before_is u _ _ (primitive_same w b d k)
  plus_is a b c d (num_is x) (num_is y) = number_is _
  plus_is a b c d undefined_is (text_is u) = text_answer (joined (codes "undefined") u)
  plus_is a b c d null_is (text_is u) = text_answer (joined (codes "null") u)
  plus_is a b c d (truth_is x) (text_is u) = text_answer (joined (truth_text x) u)
  plus_is a b c d (num_is x) (text_is u) = text_answer (joined (signed_decimal x) u)
  plus_is a b c d (thing_is k j e) (text_is u) = leaves_is
  plus_is a b c d _ _ = leaves_is

  minus_is : (a b c d : Value) → ValueIs w a c → ValueIs w b d → GotIs w (minus a b) (minus c d)
  minus_is a b c d (num_is x) (num_is y) = number_is _
  minus_is a b c d _ _ = leaves_is

  times_is : (a b c d : Value) → ValueIs w a c → ValueIs w b d → GotIs w (times a b) (times c d)
  times_is a b c d (num_is x) (num_is y) = number_is _
  times_is a b c d _ _ = leaves_is

  less_same : (a b c d : Value) → ValueIs w a c → ValueIs w b d → less c d ≡ less a b
  less_same a b c d (num_is x) (num_is y) = refl
  less_same a b c d (text_is x) (text_is y) = refl
  less_same a b c d _ _ = refl

  -- a number that goes up or down by one
  pub bumped_is : (up : Bool) (a b : Value) → ValueIs w a b → GotIs w (bumped up a) (bumped up b)
  bumped_is true a b (num_is z) = number_is _
  bumped_is false a b (num_is z) = number_is _
  bumped_is true a b _ = leaves_is
  bumped_is false a b _ = leaves_is

module _ (w : World) (heap heap' : List (Thing Code)) (pairs : Paired (ThingIs w) w.things heap heap') where
  pub binary_is : (op : BinaryOp) (a b c d : Value) → ValueIs w a c → ValueIs w b d → GotIs w (binary op a b) (binary op c d)
  binary_is o.Add a b c d h k = plus_is w a b c d h k
  binary_is o.Sub a b c d h k = minus_is w a b c d h k
  binary_is o.Mul a b c d h k = times_is w a b c d h k
  binary_is o.Same a b c d h k = truth_given w _ _ (same_is w heap heap' pairs a b c d h k)
  binary_is o.NotSame a b c d h k = truth_given w _ _ (ap not (same_is w heap heap' pairs a b c d h k))
  binary_is o.Less a b c d h k = truth_answer w _ _ (less_same w a b c d h k)
  binary_is o.LessSame a b c d h k = untruth_answer w _ _ (less_same w b a d c k h)
  binary_is o.More a b c d h k = truth_answer w _ _ (less_same w b a d c k h)
  binary_is o.MoreSame a b c d h k = untruth_answer w _ _ (less_same w a b c d h k)

  -- OPERATORS OF ONE OPERAND
  thing_type_same : (a b : Option (Thing Code)) → PlacesAre w a b → thing_type b ≡ thing_type a
  thing_type_same a b (places_are (failure_is name message)) = refl
  thing_type_same a b (places_are (closure_is r n m c h)) = refl
  thing_type_same a b (places_are (listed_is h n)) = refl
  thing_type_same a b (places_are (plain_is h)) = refl
  thing_type_same a b (places_are get_is) = refl
  thing_type_same a b (places_are run_is) = refl

  pub type_same : (a b : Value) → ValueIs w a b → type_text heap' b ≡ type_text heap a
  type_same a b undefined_is = refl
  type_same a b null_is = refl
  type_same a b (truth_is x) = refl
  type_same a b (num_is z) = refl
  type_same a b (text_is u) = refl
  type_same a b (thing_is k j e) = thing_type_same _ _ (places w heap heap' pairs k j e)

  pub unary_is : (op : UnaryOp) (a b : Value) → ValueIs w a b → GotIs w (unary heap op a) (unary heap' op b)
  unary_is u.Not a b h = truth_given w _ _ (ap not (is_true_same w a b h))
  unary_is u.Minus a b h = minus_is w _ a _ b (num_is (pos 0)) h
  unary_is u.Typeof a b h = subst (λ x. GotIs w (g.Value (v.Text (type_text heap a))) (g.Value (v.Text x))) (sym (type_same a b h)) (gives_is (text_is _))
  unary_is u.Void a b h = gives_is undefined_is

  -- FUNCTIONS: what can be called has the type of a function, and nothing else has
  thing_not_callable : (a b : Option (Thing Code)) → PlacesAre w a b → code_in a ≡ None → same_text (thing_type b) (codes "function") ≡ false
  thing_not_callable a b (places_are (failure_is name message)) e = refl
  thing_not_callable a b (places_are (closure_is r n m c h)) e = absurd (cc)
  thing_not_callable a b (places_are (listed_is h n)) e = refl
  thing_not_callable a b (places_are (plain_is h)) e = refl
  thing_not_callable a b (places_are get_is) e = absurd (cc)
  thing_not_callable a b (places_are run_is) e = absurd (cc)

  thing_callable : (a b : Option (Thing Code)) → PlacesAre w a b → (code_in a ≡ None → ⊥) → same_text (thing_type b) (codes "function") ≡ true
  thing_callable a b (places_are (failure_is name message)) f = absurd (f refl)
  thing_callable a b (places_are (closure_is r n m c h)) f = refl
  thing_callable a b (places_are (listed_is h n)) f = absurd (f refl)
  thing_callable a b (places_are (plain_is h)) f = absurd (f refl)
  thing_callable a b (places_are get_is) f = refl
  thing_callable a b (places_are run_is) f = refl

  pub not_callable_same : (a b : Value) → ValueIs w a b → code_of heap a ≡ None → same_text (type_text heap' b) (codes "function") ≡ false
  not_callable_same a b undefined_is e = refl
  not_callable_same a b null_is e = refl
  not_callable_same a b (truth_is x) e = refl
  not_callable_same a b (num_is z) e = refl
  not_callable_same a b (text_is u) e = refl
  not_callable_same a b (thing_is k j h) e = thing_not_callable _ _ (places w heap heap' pairs k j h) e

  pub callable_same : (a b : Value) → ValueIs w a b → (code_of heap a ≡ None → ⊥) → same_text (type_text heap' b) (codes "function") ≡ true
  callable_same a b (thing_is k j h) f = thing_callable _ _ (places w heap heap' pairs k j h) f
  callable_same a b _ f = absurd (f refl)
