-- Values that correspond are printed and shown alike, and are the same alike.
use Rattle.std.proofs.Common.{◌≡◌, ℕ, ◌+◌, Bool, true, false, List, [], ◌∷◌, ◌++◌, length, Option, Some, refl, sym, ap, ◌∙◌, subst, ⊎_elim}
use Rattle.std.specs.Prelude.{◌≢◌, nat_eq, nat_le, if◌then◌else◌, slice_get, flat_map}
use Rattle.std.proofs.lemmas.Bool.{cases_eq, eq-eqb, eqb-true}
use Rattle.actx_match.specs.Pairing.{Paired}
use Rattle.actx_data.specs.declared.value.Value.{Value}
use Rattle.actx_data.specs.declared.value.Value.TheVariants as v
use Rattle.actx_heap.specs.Things.{Thing}
use Rattle.actx_heap.specs.Properties.{same}
use Rattle.actx_heap.specs.declared.answers.Got.{Got}
use Rattle.actx_heap.specs.declared.answers.Got.TheVariants as g
use Rattle.actx_table.specs.Operators.{primitive_text}
use Rattle.actx_table.specs.Showing.{thing_text, printed, spaced, line_of, is_format, is_line, place_in, is_in, show_thing, show, more_shown}
use Rattle.actx_table.specs.State.{Code}
use Rattle.actx_table.specs.Related.{World, ValueIs, undefined_is, null_is, truth_is, num_is, text_is, thing_is, ValuesAre, no_values, more_values, ThingIs, failure_is, closure_is, listed_is, plain_is, get_is, run_is, ShownAre, no_shown, more_shown_are}

-- answers that correspond
pub data GotIs (w : World) : Got → Got → Type 0 where
  gives_is : {a b : Value} → ValueIs w a b → GotIs w (g.Value a) (g.Value b)
  throws_is : GotIs w g.Throws g.Throws
  leaves_is : GotIs w g.Leaves g.Leaves

-- what is known of the things at places that correspond
pub data PlacesAre (w : World) : Option (Thing Code) → Option (Thing Code) → Type 0 where
  places_are : {a b : Thing Code} → ThingIs w a b → PlacesAre w (Some a) (Some b)

module _ (w : World) where
  -- what a value says by itself, values that correspond say alike, where all things do
  pub alike : {A : Type 0} (f : Value → A) → ((k j : ℕ) → f (v.Thing j) ≡ f (v.Thing k)) → (a b : Value) → ValueIs w a b → f b ≡ f a
  alike f h a b undefined_is = refl
  alike f h a b null_is = refl
  alike f h a b (truth_is x) = refl
  alike f h a b (num_is z) = refl
  alike f h a b (text_is u) = refl
  alike f h a b (thing_is k j e) = h k j

  pub primitive_same : (a b : Value) → ValueIs w a b → primitive_text b ≡ primitive_text a
  primitive_same a b h = alike primitive_text (λ k j. refl) a b h

  format_same : (xs ys : List Value) → ValuesAre w xs ys → is_format ys ≡ is_format xs
  format_same xs ys no_values = refl
  format_same xs ys (more_values (text_is u) no_values) = refl
  format_same xs ys (more_values (text_is u) (more_values h t)) = refl
  format_same xs ys (more_values _ t) = refl

module _ (w : World) (heap heap' : List (Thing Code)) (pairs : Paired (ThingIs w) w.things heap heap') where
  pub places : (k j : ℕ) → slice_get w.things k ≡ Some j → PlacesAre w (slice_get heap k) (slice_get heap' j)
  places k j e =
      let p = pairs.pair k j e in
      subst (λ o. PlacesAre w o (slice_get heap' j)) (sym p.2) (subst (λ o. PlacesAre w (Some p.0) o) (sym p.3) (places_are p.4))

  -- PRINTING
  thing_text_same : (a b : Option (Thing Code)) → PlacesAre w a b → thing_text b ≡ thing_text a
  thing_text_same a b (places_are (failure_is name message)) = refl
  thing_text_same a b (places_are (closure_is r n m c h)) = refl
  thing_text_same a b (places_are (listed_is h n)) = refl
  thing_text_same a b (places_are (plain_is h)) = refl
  thing_text_same a b (places_are get_is) = refl
  thing_text_same a b (places_are run_is) = refl

  printed_same : (a b : Value) → ValueIs w a b → printed heap' b ≡ printed heap a
  printed_same a b undefined_is = refl
  printed_same a b null_is = refl
  printed_same a b (truth_is x) = refl
  printed_same a b (num_is z) = refl
  printed_same a b (text_is u) = refl
  printed_same a b (thing_is k j e) = thing_text_same _ _ (places k j e)

  spaced_same : (xs ys : List Value) → ValuesAre w xs ys → flat_map (spaced heap') ys ≡ flat_map (spaced heap) xs
  spaced_same xs ys no_values = refl
  spaced_same xs ys (more_values {a = a} {b = b} {xs = xs'} {ys = ys'} h t) =
      ap (λ x. 32 ∷ (x ++ flat_map (spaced heap') ys')) (printed_same a b h) ∙ ap (λ x. 32 ∷ (printed heap a ++ x)) (spaced_same xs' ys' t)

  pub line_same : (xs ys : List Value) → ValuesAre w xs ys → line_of heap' ys ≡ line_of heap xs
  line_same xs ys no_values = refl
  line_same xs ys (more_values {a = a} {b = b} {xs = xs'} {ys = ys'} h t) =
      ap (λ x. x ++ flat_map (spaced heap') ys') (printed_same a b h) ∙ ap (λ x. printed heap a ++ x) (spaced_same xs' ys' t)

  pub is_line_same : (xs ys : List Value) → ValuesAre w xs ys → is_line heap' ys ≡ is_line heap xs
  is_line_same xs ys h =
      ap (λ x. if is_format ys then false else nat_le (length x) 1048576) (line_same xs ys h) ∙ ap (λ x. if x then false else nat_le (length (line_of heap xs)) 1048576) (format_same w xs ys h)

-- NUMBERS OF THINGS
unequal : (n m : ℕ) → n ≢ m → nat_eq n m ≡ false
unequal n m other = by (nat_eq n m) (λ e. other (eqb-true n m e))
  where
    by : (b : Bool) → (b ≢ true) → b ≡ false
    by true f = absurd (f refl)
    by false f = refl

some_same : (x y : ℕ) → Some x ≡ Some y → x ≡ y
some_same x y e = cc

-- two places of the source are one exactly where the target's are
pub same_places : {A B : Type 0} (P : A → B → Type 0) (places : List ℕ) (xs : List A) (ys : List B) → Paired P places xs ys → (k k' j j' : ℕ) → slice_get places k ≡ Some j → slice_get places k' ≡ Some j' → nat_eq j j' ≡ nat_eq k k'
same_places P places xs ys h k k' j j' e f =
    ⊎_elim
    (λ same. eq-eqb j j' (some_same j j' (sym e ∙ ap (slice_get places) same ∙ f)) ∙ sym (eq-eqb k k' same))
    (λ other. unequal j j' (λ z. other (h.apart k k' j' (e ∙ ap Some z) f)) ∙ sym (unequal k k' other))
    (cases_eq k k')

pub if_same : {A : Type 0} (a b : Bool) (x x' y y' : A) → b ≡ a → x' ≡ x → y' ≡ y → (if b then x' else y') ≡ (if a then x else y)
if_same true true x x' y y' q h k = h
if_same false false x x' y y' q h k = k
if_same true false x x' y y' q h k = absurd (cc)
if_same false true x x' y y' q h k = absurd (cc)

module _ (w : World) (heap heap' : List (Thing Code)) (pairs : Paired (ThingIs w) w.things heap heap') where
  pub equal_is : (k j : ℕ) (k' j' : ℕ) → slice_get w.things k ≡ Some j → slice_get w.things k' ≡ Some j' → nat_eq j j' ≡ nat_eq k k'
  equal_is k j k' j' e e' = same_places (ThingIs w) w.things heap heap' pairs k k' j j' e e'

  -- one value or two, on both sides alike
  pub same_is : (a b c d : Value) → ValueIs w a c → ValueIs w b d → same c d ≡ same a b
  same_is a b c d (thing_is k j e) (thing_is k' j' e') = equal_is k j k' j' e e'
  same_is a b c d undefined_is undefined_is = refl
  same_is a b c d null_is null_is = refl
  same_is a b c d (truth_is true) (truth_is y) = refl
  same_is a b c d (truth_is false) (truth_is y) = refl
  same_is a b c d (num_is x) (num_is y) = refl
  same_is a b c d (text_is x) (text_is y) = refl
  same_is a b c d _ _ = refl

  -- SHOWING
  pub place_same : (n k j : ℕ) → slice_get w.things k ≡ Some j → (ks js : List ℕ) → ShownAre w ks js → place_in n j js ≡ place_in n k ks
  place_same n k j e ks js no_shown = refl
  place_same n k j e ks js (more_shown_are k' j' e' t) = if_same (nat_eq k k') (nat_eq j j') _ _ _ _ (equal_is k j k' j' e e') refl (place_same (n + 1) k j e _ _ t)

  pub in_same : (k j : ℕ) → slice_get w.things k ≡ Some j → (ks js : List ℕ) → ShownAre w ks js → is_in j js ≡ is_in k ks
  in_same k j e ks js no_shown = refl
  in_same k j e ks js (more_shown_are k' j' e' t) = if_same (nat_eq k k') (nat_eq j j') _ _ _ _ (equal_is k j k' j' e e') refl (in_same k j e _ _ t)

  pub shown_push : (k j : ℕ) → slice_get w.things k ≡ Some j → (ks js : List ℕ) → ShownAre w ks js → ShownAre w (ks ++ k ∷ []) (js ++ j ∷ [])
  shown_push k j e ks js no_shown = more_shown_are k j e no_shown
  shown_push k j e ks js (more_shown_are k' j' e' t) = more_shown_are k' j' e' (shown_push k j e _ _ t)

  show_thing_same : (a b : Option (Thing Code)) (n : ℕ) → PlacesAre w a b → show_thing b n ≡ show_thing a n
  show_thing_same a b n (places_are (failure_is name message)) = refl
  show_thing_same a b n (places_are (closure_is r p m c h)) = refl
  show_thing_same a b n (places_are (listed_is h l)) = refl
  show_thing_same a b n (places_are (plain_is h)) = refl
  show_thing_same a b n (places_are get_is) = refl
  show_thing_same a b n (places_are run_is) = refl

  -- the same is shown of values that correspond
  pub show_same : (a b : Value) → ValueIs w a b → (ks js : List ℕ) → ShownAre w ks js → show heap' js b ≡ show heap ks a
  show_same a b undefined_is ks js t = refl
  show_same a b null_is ks js t = refl
  show_same a b (truth_is x) ks js t = refl
  show_same a b (num_is z) ks js t = refl
  show_same a b (text_is u) ks js t = refl
  show_same a b (thing_is k j e) ks js t = ap (show_thing (slice_get heap' j)) (place_same 1 k j e ks js t) ∙ show_thing_same _ _ (place_in 1 k ks) (places w heap heap' pairs k j e)

  pub more_shown_is : (a b : Value) → ValueIs w a b → (ks js : List ℕ) → ShownAre w ks js → ShownAre w (more_shown ks a) (more_shown js b)
  more_shown_is a b undefined_is ks js t = t
  more_shown_is a b null_is ks js t = t
  more_shown_is a b (truth_is x) ks js t = t
  more_shown_is a b (num_is z) ks js t = t
  more_shown_is a b (text_is u) ks js t = t
  more_shown_is a b (thing_is k j e) ks js t = by (is_in k ks) (is_in j js) (in_same k j e ks js t)
    where
      by : (a b : Bool) → b ≡ a → ShownAre w (if a then ks else ks ++ k ∷ []) (if b then js else js ++ j ∷ [])
      by true true q = t
      by false false q = shown_push k j e ks js t
      by true false q = absurd (cc)
      by false true q = absurd (cc)

  -- what a value shows once it is among the things shown
  pub show_more_same : (a b : Value) → ValueIs w a b → (ks js : List ℕ) → ShownAre w ks js → show heap' (more_shown js b) b ≡ show heap (more_shown ks a) a
  show_more_same a b h ks js t = show_same a b h _ _ (more_shown_is a b h ks js t)
