-- Values that correspond are printed, shown, read and computed with alike.
use Rattle.std.proofs.Common.{◌≡◌, ℕ, ℤ, ◌+◌, ◌≤◌, Bool, true, false, List, [], ◌∷◌, ◌++◌, length, length-append, Option, Some, None, refl, sym, ap, ◌∙◌, subst, arith, ⊎_elim}
use Rattle.std.specs.Prelude.{◌≢◌, pos, nat_eq, nat_le, codes, if◌then◌else◌, slice_get}
use Rattle.std.specs.Fmt.{signed_decimal}
use Rattle.std.proofs.lemmas.Bool.{cases_eq, eq-eqb, eqb-true, leb-true}
use Rattle.actx_match.specs.Pairing.{Paired}
use Rattle.actx_data.specs.Number.{greatest}
use Rattle.actx_data.specs.Units.{joined}
use Rattle.actx_data.specs.declared.shown.ErrorName.{ErrorName}
use Rattle.actx_data.specs.declared.shown.ErrorName.TheVariants.{Error, TypeError, RangeError, ReferenceError}
use Rattle.actx_data.specs.declared.value.Value.{Value}
use Rattle.actx_data.specs.declared.value.Value.TheVariants as v
use Rattle.actx_rules.specs.Texts.{same_text}
use Rattle.actx_rules.specs.Taken.{longest_text}
use Rattle.actx_grammar.specs.declared.operators.BinaryOp.{BinaryOp}
use Rattle.actx_grammar.specs.declared.operators.BinaryOp.TheVariants as o
use Rattle.actx_rules.specs.Operators.{Answer, Gives, Throws, Leaves, number_or_leaves, text_or_leaves, truth_text, primitive_text, join_before, plus, minus, times, same, binary}
use Rattle.actx_rules.specs.Printing.{thing_text, printed, printed_more, line_of, is_format, is_line}
use Rattle.actx_rules.specs.Properties.{prop_of, own_or, fixed_or, error_text, failure_props, get_thing, number_of_units, get, place_in, is_in, show_thing, show, more_shown}
use Rattle.actx_rules.specs.State.{Prop, Thing}
use Rattle.actx_rules.specs.Related.{World, ValueIs, undefined_is, truth_is, num_is, text_is, thing_is, ValuesAre, no_values, more_values, OptionIs, none_is, some_is, PropsAre, no_props, more_props, ThingIs, failure_is, closure_is, listed_is, plain_is, get_is, run_is, ShownAre, no_shown, more_shown_are}

-- answers that correspond
pub data AnswerIs (w : World) : Answer → Answer → Type 0 where
  gives_is : {a b : Value} → ValueIs w a b → AnswerIs w (Gives a) (Gives b)
  throws_is : (name : ErrorName) → AnswerIs w (Throws name) (Throws name)
  leaves_is : AnswerIs w Leaves Leaves

-- what is known of the things at places that correspond
pub data PlacesAre (w : World) : Option Thing → Option Thing → Type 0 where
  places_are : {a b : Thing} → ThingIs w a b → PlacesAre w (Some a) (Some b)

module _ (w : World) (heap heap' : List Thing) (pairs : Paired (ThingIs w) w.things heap heap') where
  pub places : (k j : ℕ) → slice_get w.things k ≡ Some j → PlacesAre w (slice_get heap k) (slice_get heap' j)
  places k j e =
      let p = pairs.pair k j e in
      subst (λ o. PlacesAre w o (slice_get heap' j)) (sym p.2) (subst (λ o. PlacesAre w (Some p.0) o) (sym p.3) (places_are p.4))

  -- PRINTING
  thing_text_same : (a b : Option Thing) → PlacesAre w a b → thing_text b ≡ thing_text a
  thing_text_same a b (places_are (failure_is name)) = refl
  thing_text_same a b (places_are (closure_is n m c h)) = refl
  thing_text_same a b (places_are (listed_is h l)) = refl
  thing_text_same a b (places_are (plain_is h)) = refl
  thing_text_same a b (places_are get_is) = refl
  thing_text_same a b (places_are run_is) = refl

  printed_same : (a b : Value) → ValueIs w a b → printed heap' b ≡ printed heap a
  printed_same a b undefined_is = refl
  printed_same a b (truth_is x) = refl
  printed_same a b (num_is z) = refl
  printed_same a b (text_is u l) = refl
  printed_same a b (thing_is k j e v) = thing_text_same _ _ (places k j e)

  printed_more_same : (xs ys : List Value) → ValuesAre w xs ys → printed_more heap' ys ≡ printed_more heap xs
  printed_more_same xs ys no_values = refl
  printed_more_same xs ys (more_values {a = a} {b = b} {xs = xs'} {ys = ys'} h t) =
      let p = printed_same a b h in
      let q = printed_more_same xs' ys' t in
      ap (λ x. 32 ∷ (x ++ printed_more heap' ys')) p ∙ ap (λ x. 32 ∷ (printed heap a ++ x)) q

  pub line_same : (xs ys : List Value) → ValuesAre w xs ys → line_of heap' ys ≡ line_of heap xs
  line_same xs ys no_values = refl
  line_same xs ys (more_values {a = a} {b = b} {xs = xs'} {ys = ys'} h t) =
      ap (λ x. x ++ printed_more heap' ys') (printed_same a b h) ∙ ap (λ x. printed heap a ++ x) (printed_more_same xs' ys' t)

  format_same : (xs ys : List Value) → ValuesAre w xs ys → is_format ys ≡ is_format xs
  format_same xs ys no_values = refl
  format_same xs ys (more_values (text_is u l) no_values) = refl
  format_same xs ys (more_values (text_is u l) (more_values h t)) = refl
  format_same xs ys (more_values undefined_is t) = refl
  format_same xs ys (more_values (truth_is x) t) = refl
  format_same xs ys (more_values (num_is z) t) = refl
  format_same xs ys (more_values (thing_is k j e v) t) = refl

  pub is_line_same : (xs ys : List Value) → ValuesAre w xs ys → is_line heap' ys ≡ is_line heap xs
  is_line_same xs ys h =
      ap (λ x. if is_format ys then false else nat_le (length x) 1048576) (line_same xs ys h) ∙ ap (λ x. if x then false else nat_le (length (line_of heap xs)) 1048576) (format_same xs ys h)

  -- READING
  pub prop_is : (key : List ℕ) (ps qs : List Prop) → PropsAre w ps qs → OptionIs w (prop_of key ps) (prop_of key qs)
  prop_is key ps qs no_props = none_is
  prop_is key ps qs (more_props k {a = a} {b = b} {ps = ps'} {qs = qs'} h t) = by (same_text key k) (prop_of key ps') (prop_of key qs') (prop_is key ps' qs' t)
    where
      by : (equal : Bool) (x y : Option Value) → OptionIs w x y → OptionIs w (if equal then Some a else x) (if equal then Some b else y)
      by true x y g = some_is h
      by false x y g = g

  if_leaves : (b : Bool) → AnswerIs w (if b then Gives v.Undefined else Leaves) (if b then Gives v.Undefined else Leaves)
  if_leaves true = gives_is undefined_is
  if_leaves false = leaves_is

  if_undefined : (b : Bool) → AnswerIs w (if b then Leaves else Gives v.Undefined) (if b then Leaves else Gives v.Undefined)
  if_undefined true = leaves_is
  if_undefined false = gives_is undefined_is

  fixed_is : (key : List ℕ) (x y : Option Value) → OptionIs w x y → AnswerIs w (fixed_or x key) (fixed_or y key)
  fixed_is key x y none_is = if_leaves _
  fixed_is key x y (some_is h) = gives_is h

  own_is : (key : List ℕ) (x y : Option Value) → OptionIs w x y → AnswerIs w (own_or x key) (own_or y key)
  own_is key x y none_is = if_undefined _
  own_is key x y (some_is h) = gives_is h

  failure_is_read : (key : List ℕ) (name : ErrorName) → OptionIs w (prop_of key (failure_props name [])) (prop_of key (failure_props name []))
  failure_is_read key name = prop_is key _ _ (more_props (codes "name") (text_is _ (name_length name)) (more_props (codes "message") (text_is [] (omega arith)) no_props))
    where
      name_length : (name : ErrorName) → length (error_text name) ≤ longest_text
      name_length Error = omega arith
      name_length TypeError = omega arith
      name_length RangeError = omega arith
      name_length ReferenceError = omega arith

  thing_read : (key : List ℕ) (a b : Option Thing) → PlacesAre w a b → AnswerIs w (get_thing a key) (get_thing b key)
  thing_read key a b (places_are (failure_is name)) = fixed_is key _ _ (failure_is_read key name)
  thing_read key a b (places_are (closure_is n m c h)) = if_leaves _
  thing_read key a b (places_are (listed_is h l)) = fixed_is key _ _ (prop_is key _ _ h)
  thing_read key a b (places_are (plain_is h)) = own_is key _ _ (prop_is key _ _ h)
  thing_read key a b (places_are get_is) = if_leaves _
  thing_read key a b (places_are run_is) = if_leaves _

  units_is : (n : ℕ) → AnswerIs w (number_of_units n) (number_of_units n)
  units_is n = by (nat_le n greatest)
    where
      by : (b : Bool) → AnswerIs w (if b then Gives (v.Num (pos n)) else Leaves) (if b then Gives (v.Num (pos n)) else Leaves)
      by true = gives_is (num_is _)
      by false = leaves_is

  text_read : (u key : List ℕ) (b : Bool) → AnswerIs w (if b then number_of_units (length u) else Leaves) (if b then number_of_units (length u) else Leaves)
  text_read u key true = units_is (length u)
  text_read u key false = leaves_is

  pub read_is : (key : List ℕ) (a b : Value) → ValueIs w a b → AnswerIs w (get heap a key) (get heap' b key)
  read_is key a b undefined_is = throws_is TypeError
  read_is key a b (truth_is x) = leaves_is
  read_is key a b (num_is z) = leaves_is
  read_is key a b (text_is u l) = text_read u key _
  read_is key a b (thing_is k j e v) = thing_read key _ _ (places k j e)

module _ (w : World) where
  -- OPERATORS
  pub primitive_same : (a b : Value) → ValueIs w a b → primitive_text b ≡ primitive_text a
  primitive_same a b undefined_is = refl
  primitive_same a b (truth_is x) = refl
  primitive_same a b (num_is z) = refl
  primitive_same a b (text_is u l) = refl
  primitive_same a b (thing_is k j e v) = refl

  number_is : (o : Option ℤ) → AnswerIs w (number_or_leaves o) (number_or_leaves o)
  number_is (Some z) = gives_is (num_is z)
  number_is None = leaves_is

  -- a text that an operator makes is no longer than a text may be
  joined_is : (a b : List ℕ) → AnswerIs w (text_or_leaves (joined a b)) (text_or_leaves (joined a b))
  joined_is a b = by (nat_le (length a + length b) 1048576) refl
    where
      by : (fits : Bool) → nat_le (length a + length b) 1048576 ≡ fits → AnswerIs w (text_or_leaves (if fits then Some (a ++ b) else None)) (text_or_leaves (if fits then Some (a ++ b) else None))
      by true e = gives_is (text_is (a ++ b) (let l = leb-true _ _ e in omega (arith, l, length-append a b)))
      by false e = leaves_is

  before_is : (u : List ℕ) (o p : Option (List ℕ)) → p ≡ o → AnswerIs w (join_before u o) (join_before u p)
  before_is u o p e = subst (λ x. AnswerIs w (join_before u o) (join_before u x)) (sym e) (by o)
    where
      by : (o : Option (List ℕ)) → AnswerIs w (join_before u o) (join_before u o)
      by (Some x) = joined_is _ _
      by None = leaves_is

  plus_is : (a b c d : Value) → ValueIs w a c → ValueIs w b d → AnswerIs w (plus a b) (plus c d)
  plus_is a b c d (text_is u l) k = before_is u _ _ (primitive_same b d k)
  plus_is a b c d (num_is x) (num_is y) = number_is _
  plus_is a b c d undefined_is (text_is u l) = joined_is (codes "undefined") u
  plus_is a b c d (truth_is x) (text_is u l) = joined_is (truth_text x) u
  plus_is a b c d (num_is x) (text_is u l) = joined_is (signed_decimal x) u
  plus_is a b c d (thing_is k j e v) (text_is u l) = leaves_is
  plus_is a b c d _ _ = leaves_is

  minus_is : (a b c d : Value) → ValueIs w a c → ValueIs w b d → AnswerIs w (minus a b) (minus c d)
  minus_is a b c d (num_is x) (num_is y) = number_is _
  minus_is a b c d _ _ = leaves_is

  times_is : (a b c d : Value) → ValueIs w a c → ValueIs w b d → AnswerIs w (times a b) (times c d)
  times_is a b c d (num_is x) (num_is y) = number_is _
  times_is a b c d _ _ = leaves_is

-- NUMBERS OF THINGS
unequal : (n m : ℕ) → n ≢ m → nat_eq n m ≡ false
unequal n m other = by (nat_eq n m) (λ e. other (eqb-true n m e))
  where
    by : (b : Bool) → (b ≢ true) → b ≡ false
    by true f = absurd (f refl)
    by false f = refl

some_same : (x y : ℕ) → Some x ≡ Some y → x ≡ y
some_same x y e = cc

-- two places of the source are one exactly where the target's are
pub same_places : {A B : Type 0} (P : A → B → Type 0) (places : List ℕ) (xs : List A) (ys : List B) → Paired P places xs ys → (k k' j j' : ℕ) → slice_get places k ≡ Some j → slice_get places k' ≡ Some j' → nat_eq j j' ≡ nat_eq k k'
same_places P places xs ys h k k' j j' e f =
    ⊎_elim
    (λ same. eq-eqb j j' (some_same j j' (sym e ∙ ap (slice_get places) same ∙ f)) ∙ sym (eq-eqb k k' same))
    (λ other. unequal j j' (λ z. other (h.apart k k' j' (e ∙ ap Some z) f)) ∙ sym (unequal k k' other))
    (cases_eq k k')

if_same : {A : Type 0} (a b : Bool) (x x' y y' : A) → b ≡ a → x' ≡ x → y' ≡ y → (if b then x' else y') ≡ (if a then x else y)
if_same true true x x' y y' q h k = h
if_same false false x x' y y' q h k = k
if_same true false x x' y y' q h k = absurd (cc)
if_same false true x x' y y' q h k = absurd (cc)

module _ (w : World) (heap heap' : List Thing) (pairs : Paired (ThingIs w) w.things heap heap') where
  equal_is : (k j : ℕ) (k' j' : ℕ) → slice_get w.things k ≡ Some j → slice_get w.things k' ≡ Some j' → nat_eq j j' ≡ nat_eq k k'
  equal_is k j k' j' e e' = same_places (ThingIs w) w.things heap heap' pairs k k' j j' e e'

  -- one value or two, on both sides alike
  same_is : (a b c d : Value) → ValueIs w a c → ValueIs w b d → same c d ≡ same a b
  same_is a b c d (thing_is k j e v) (thing_is k' j' e' v') = equal_is k j k' j' e e'
  same_is a b c d undefined_is undefined_is = refl
  same_is a b c d undefined_is (truth_is y) = refl
  same_is a b c d undefined_is (num_is y) = refl
  same_is a b c d undefined_is (text_is y m) = refl
  same_is a b c d undefined_is (thing_is k j e v) = refl
  same_is a b c d (truth_is true) undefined_is = refl
  same_is a b c d (truth_is false) undefined_is = refl
  same_is a b c d (truth_is true) (truth_is y) = refl
  same_is a b c d (truth_is false) (truth_is y) = refl
  same_is a b c d (truth_is true) (num_is y) = refl
  same_is a b c d (truth_is false) (num_is y) = refl
  same_is a b c d (truth_is true) (text_is y m) = refl
  same_is a b c d (truth_is false) (text_is y m) = refl
  same_is a b c d (truth_is true) (thing_is k j e v) = refl
  same_is a b c d (truth_is false) (thing_is k j e v) = refl
  same_is a b c d (num_is x) undefined_is = refl
  same_is a b c d (num_is x) (truth_is y) = refl
  same_is a b c d (num_is x) (num_is y) = refl
  same_is a b c d (num_is x) (text_is y m) = refl
  same_is a b c d (num_is x) (thing_is k j e v) = refl
  same_is a b c d (text_is x l) undefined_is = refl
  same_is a b c d (text_is x l) (truth_is y) = refl
  same_is a b c d (text_is x l) (num_is y) = refl
  same_is a b c d (text_is x l) (text_is y m) = refl
  same_is a b c d (text_is x l) (thing_is k j e v) = refl
  same_is a b c d (thing_is k j e v) undefined_is = refl
  same_is a b c d (thing_is k j e v) (truth_is y) = refl
  same_is a b c d (thing_is k j e v) (num_is y) = refl
  same_is a b c d (thing_is k j e v) (text_is y m) = refl

  pub binary_is : (op : BinaryOp) (a b c d : Value) → ValueIs w a c → ValueIs w b d → AnswerIs w (binary op a b) (binary op c d)
  binary_is o.Add a b c d h k = plus_is w a b c d h k
  binary_is o.Sub a b c d h k = minus_is w a b c d h k
  binary_is o.Mul a b c d h k = times_is w a b c d h k
  binary_is o.Same a b c d h k = let e = same_is a b c d h k in subst (λ x. AnswerIs w (binary o.Same a b) (Gives (v.Truth x))) (sym e) (gives_is (truth_is _))
  binary_is _ a b c d h k = leaves_is

  -- SHOWING
  place_same : (n k j : ℕ) → slice_get w.things k ≡ Some j → (ks js : List ℕ) → ShownAre w ks js → place_in n j js ≡ place_in n k ks
  place_same n k j e ks js no_shown = refl
  place_same n k j e ks js (more_shown_are k' j' e' t) = if_same (nat_eq k k') (nat_eq j j') _ _ _ _ (equal_is k j k' j' e e') refl (place_same (n + 1) k j e _ _ t)

  in_same : (k j : ℕ) → slice_get w.things k ≡ Some j → (ks js : List ℕ) → ShownAre w ks js → is_in j js ≡ is_in k ks
  in_same k j e ks js no_shown = refl
  in_same k j e ks js (more_shown_are k' j' e' t) = if_same (nat_eq k k') (nat_eq j j') _ _ _ _ (equal_is k j k' j' e e') refl (in_same k j e _ _ t)

  shown_push : (k j : ℕ) → slice_get w.things k ≡ Some j → (ks js : List ℕ) → ShownAre w ks js → ShownAre w (ks ++ k ∷ []) (js ++ j ∷ [])
  shown_push k j e ks js no_shown = more_shown_are k j e no_shown
  shown_push k j e ks js (more_shown_are k' j' e' t) = more_shown_are k' j' e' (shown_push k j e _ _ t)

  show_thing_same : (a b : Option Thing) (n : ℕ) → PlacesAre w a b → show_thing b n ≡ show_thing a n
  show_thing_same a b n (places_are (failure_is name)) = refl
  show_thing_same a b n (places_are (closure_is m p c h)) = refl
  show_thing_same a b n (places_are (listed_is h l)) = refl
  show_thing_same a b n (places_are (plain_is h)) = refl
  show_thing_same a b n (places_are get_is) = refl
  show_thing_same a b n (places_are run_is) = refl

  -- the same is shown of values that correspond
  pub show_same : (a b : Value) → ValueIs w a b → (ks js : List ℕ) → ShownAre w ks js → show heap' js b ≡ show heap ks a
  show_same a b undefined_is ks js t = refl
  show_same a b (truth_is x) ks js t = refl
  show_same a b (num_is z) ks js t = refl
  show_same a b (text_is u l) ks js t = refl
  show_same a b (thing_is k j e v) ks js t = ap (show_thing (slice_get heap' j)) (place_same 1 k j e ks js t) ∙ show_thing_same _ _ (place_in 1 k ks) (places w heap heap' pairs k j e)

  pub more_shown_is : (a b : Value) → ValueIs w a b → (ks js : List ℕ) → ShownAre w ks js → ShownAre w (more_shown ks a) (more_shown js b)
  more_shown_is a b undefined_is ks js t = t
  more_shown_is a b (truth_is x) ks js t = t
  more_shown_is a b (num_is z) ks js t = t
  more_shown_is a b (text_is u l) ks js t = t
  more_shown_is a b (thing_is k j e v) ks js t = by (is_in k ks) (is_in j js) (in_same k j e ks js t)
    where
      by : (a b : Bool) → b ≡ a → ShownAre w (if a then ks else ks ++ k ∷ []) (if b then js else js ++ j ∷ [])
      by true true q = t
      by false false q = shown_push k j e ks js t
      by true false q = absurd (cc)
      by false true q = absurd (cc)

  -- what a value shows once it is among the things shown
  pub show_more_same : (a b : Value) → ValueIs w a b → (ks js : List ℕ) → ShownAre w ks js → show heap' (more_shown js b) b ≡ show heap (more_shown ks a) a
  show_more_same a b h ks js t = show_same a b h _ _ (more_shown_is a b h ks js t)
