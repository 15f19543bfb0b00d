-- Properties of values that correspond are read and written alike.
use Rattle.std.proofs.Common.{◌≡◌, ℕ, Bool, true, false, List, [], ◌∷◌, length, Option, Some, None, refl, sym, subst}
use Rattle.std.specs.Prelude.{pos, nat_le, codes, if◌then◌else◌, slice_get, slice_set}
use Rattle.actx_match.specs.Pairing.{Paired}
use Rattle.actx_data.specs.Number.{greatest}
use Rattle.actx_data.specs.declared.shown.ErrorName.{ErrorName}
use Rattle.actx_data.specs.declared.value.Value.{Value}
use Rattle.actx_data.specs.declared.value.Value.TheVariants as v
use Rattle.actx_heap.specs.Texts.{same_text, is_index, index_of}
use Rattle.actx_heap.specs.Things.{Prop, Thing, Plain}
use Rattle.actx_heap.specs.Properties.{prop_of, with_prop, key_text, is_proto, own_or, fixed_or, failure_props, get_thing, number_of_units, unit_or, get_text, get_from, get, put_at, put_in, put}
use Rattle.actx_heap.specs.declared.answers.Got.TheVariants as g
use Rattle.actx_heap.specs.declared.answers.Put.{Put}
use Rattle.actx_heap.specs.declared.answers.Put.TheVariants as p
use Rattle.actx_table.specs.Expressions.{with_keyed, literal}
use Rattle.actx_table.specs.State.{Code}
use Rattle.actx_table.specs.Related.{World, ValueIs, undefined_is, null_is, truth_is, num_is, text_is, thing_is, ValuesAre, no_values, more_values, OptionIs, none_is, some_is, PropsAre, no_props, more_props, ThingIs, failure_is, closure_is, listed_is, plain_is, get_is, run_is}
use Rattle.actx_table.proofs.Same.Alike.{GotIs, gives_is, throws_is, leaves_is, PlacesAre, places_are, places, alike}

-- lists of properties that correspond, where there are any
pub data OptPropsAre (w : World) : Option (List Prop) → Option (List Prop) → Type 0 where
  no_list : OptPropsAre w None None
  some_list : {ps qs : List Prop} → PropsAre w ps qs → OptPropsAre w (Some ps) (Some qs)

-- what writing does to both heaps: nothing, or an object of each has its properties set
pub data PutIs (w : World) (heap heap' : List (Thing Code)) : Put × List (Thing Code) → Put × List (Thing Code) → Type 0 where
  put_throws : PutIs w heap heap' (p.Throws, heap) (p.Throws, heap')
  put_leaves : PutIs w heap heap' (p.Leaves, heap) (p.Leaves, heap')
  put_done : (k j : ℕ) {ps qs ps0 qs0 : List Prop} → slice_get w.things k ≡ Some j → slice_get heap k ≡ Some (Plain ps0) → slice_get heap' j ≡ Some (Plain qs0) → PropsAre w ps qs → PutIs w heap heap' (p.Done, slice_set heap k (Plain ps)) (p.Done, slice_set heap' j (Plain qs))

module _ (w : World) where
  -- LISTS OF PROPERTIES
  pub prop_is : (key : List ℕ) (ps qs : List Prop) → PropsAre w ps qs → OptionIs w (prop_of key ps) (prop_of key qs)
  prop_is key ps qs no_props = none_is
  prop_is key ps qs (more_props k {a = a} {b = b} {ps = ps'} {qs = qs'} h t) = by (same_text key k) (prop_of key ps') (prop_of key qs') (prop_is key ps' qs' t)
    where
      by : (equal : Bool) (x y : Option Value) → OptionIs w x y → OptionIs w (if equal then Some a else x) (if equal then Some b else y)
      by true x y g = some_is h
      by false x y g = g

  props_if : (b : Bool) (ps qs ps' qs' : List Prop) → PropsAre w ps qs → PropsAre w ps' qs' → PropsAre w (if b then ps else ps') (if b then qs else qs')
  props_if true ps qs ps' qs' h k = h
  props_if false ps qs ps' qs' h k = k

  pub with_prop_is : (key : List ℕ) (a b : Value) (ps qs : List Prop) → ValueIs w a b → PropsAre w ps qs → PropsAre w (with_prop key a ps) (with_prop key b qs)
  with_prop_is key a b ps qs h no_props = more_props key h no_props
  with_prop_is key a b ps qs h (more_props k g t) = props_if (same_text key k) _ _ _ _ (more_props k h t) (more_props k g (with_prop_is key a b _ _ h t))

  -- KEYS
  pub key_same : (k l : Value) → ValueIs w k l → key_text l ≡ key_text k
  key_same k l h = alike w key_text (λ n m. refl) k l h

  -- LITERALS
  keyed_is : (o p : Option (List ℕ)) (a b : Value) (ps qs : List Prop) (f f' : List Prop → Option (List Prop)) → p ≡ o → ValueIs w a b → PropsAre w ps qs → ((xs ys : List Prop) → PropsAre w xs ys → OptPropsAre w (f xs) (f' ys)) → OptPropsAre w (with_keyed o a ps f) (with_keyed p b qs f')
  keyed_is o p a b ps qs f f' e h g rest = subst (λ x. OptPropsAre w (with_keyed o a ps f) (with_keyed x b qs f')) (sym e) (by o)
    where
      by_proto : (key : List ℕ) (proto : Bool) → OptPropsAre w (if proto then None else f (with_prop key a ps)) (if proto then None else f' (with_prop key b qs))
      by_proto key true = no_list
      by_proto key false = rest _ _ (with_prop_is key a b ps qs h g)

      by : (o : Option (List ℕ)) → OptPropsAre w (with_keyed o a ps f) (with_keyed o b qs f')
      by None = no_list
      by (Some key) = by_proto key (is_proto key)

  pub literal_is : (keys : List (Option (List ℕ))) (xs ys : List Value) (ps qs : List Prop) → ValuesAre w xs ys → PropsAre w ps qs → OptPropsAre w (literal keys xs ps) (literal keys ys qs)
  literal_is [] xs ys ps qs h g = some_list g
  literal_is (Some key ∷ keys) xs ys ps qs no_values g = no_list
  literal_is (Some key ∷ keys) xs ys ps qs (more_values {a = a} {b = b} {xs = vs} {ys = ws} h t) g = keyed_is (Some key) (Some key) a b ps qs (literal keys vs) (literal keys ws) refl h g (λ ms ns k. literal_is keys vs ws ms ns t k)
  literal_is (None ∷ keys) xs ys ps qs no_values g = no_list
  literal_is (None ∷ keys) xs ys ps qs (more_values h no_values) g = no_list
  literal_is (None ∷ keys) xs ys ps qs (more_values {a = k} {b = l} d (more_values {a = a} {b = b} {xs = vs} {ys = ws} h t)) g = keyed_is (key_text k) (key_text l) a b ps qs (literal keys vs) (literal keys ws) (key_same k l d) h g (λ ms ns k. literal_is keys vs ws ms ns t k)

  -- WHAT IS READ
  if_leaves : (b : Bool) → GotIs w (if b then g.Value v.Undefined else g.Leaves) (if b then g.Value v.Undefined else g.Leaves)
  if_leaves true = gives_is undefined_is
  if_leaves false = leaves_is

  if_undefined : (b : Bool) → GotIs w (if b then g.Leaves else g.Value v.Undefined) (if b then g.Leaves else g.Value v.Undefined)
  if_undefined true = leaves_is
  if_undefined false = gives_is undefined_is

  fixed_is : (key : List ℕ) (x y : Option Value) → OptionIs w x y → GotIs w (fixed_or x key) (fixed_or y key)
  fixed_is key x y none_is = if_leaves _
  fixed_is key x y (some_is h) = gives_is h

  own_is : (key : List ℕ) (x y : Option Value) → OptionIs w x y → GotIs w (own_or x key) (own_or y key)
  own_is key x y none_is = if_undefined _
  own_is key x y (some_is h) = gives_is h

  failure_props_are : (name : ErrorName) (message : List ℕ) → PropsAre w (failure_props name message) (failure_props name message)
  failure_props_are name message = more_props (codes "name") (text_is _) (more_props (codes "message") (text_is message) no_props)

  thing_read : (key : List ℕ) (a b : Option (Thing Code)) → PlacesAre w a b → GotIs w (get_thing a key) (get_thing b key)
  thing_read key a b (places_are (failure_is name message)) = fixed_is key _ _ (prop_is key _ _ (failure_props_are name message))
  thing_read key a b (places_are (closure_is r n m c h)) = if_leaves _
  thing_read key a b (places_are (listed_is h n)) = fixed_is key _ _ (prop_is key _ _ h)
  thing_read key a b (places_are (plain_is h)) = own_is key _ _ (prop_is key _ _ h)
  thing_read key a b (places_are get_is) = if_leaves _
  thing_read key a b (places_are run_is) = if_leaves _

  units_is : (n : ℕ) → GotIs w (number_of_units n) (number_of_units n)
  units_is n = by (nat_le n greatest)
    where
      by : (b : Bool) → GotIs w (if b then g.Value (v.Num (pos n)) else g.Leaves) (if b then g.Value (v.Num (pos n)) else g.Leaves)
      by true = gives_is (num_is _)
      by false = leaves_is

  unit_is : (o : Option ℕ) → GotIs w (unit_or o) (unit_or o)
  unit_is (Some c) = gives_is (text_is _)
  unit_is None = gives_is undefined_is

  text_read : (u key : List ℕ) → GotIs w (get_text u key) (get_text u key)
  text_read u key = by (same_text key (codes "length")) (is_index key)
    where
      by : (b c : Bool) → (let x = if b then number_of_units (length u) else (if c then unit_or (slice_get u (index_of key)) else g.Leaves) in GotIs w x x)
      by true c = units_is (length u)
      by false true = unit_is _
      by false false = leaves_is

module _ (w : World) (heap heap' : List (Thing Code)) (pairs : Paired (ThingIs w) w.things heap heap') where
  -- READING
  from_is : (key : Option (List ℕ)) (a b : Value) → ValueIs w a b → GotIs w (get_from heap a key) (get_from heap' b key)
  from_is (Some key) a b (text_is u) = text_read w u key
  from_is (Some key) a b (thing_is k j e) = thing_read w key _ _ (places w heap heap' pairs k j e)
  from_is None a b (text_is u) = leaves_is
  from_is None a b (thing_is k j e) = leaves_is
  from_is key a b _ = leaves_is

  with_key : (a b k l : Value) → ValueIs w a b → ValueIs w k l → GotIs w (get_from heap a (key_text k)) (get_from heap' b (key_text l))
  with_key a b k l h d = subst (λ x. GotIs w (get_from heap a (key_text k)) (get_from heap' b x)) (sym (key_same w k l d)) (from_is (key_text k) a b h)

  pub read_is : (a b k l : Value) → ValueIs w a b → ValueIs w k l → GotIs w (get heap a k) (get heap' b l)
  read_is a b k l undefined_is d = throws_is
  read_is a b k l null_is d = throws_is
  read_is a b k l (truth_is x) d = with_key _ _ k l (truth_is x) d
  read_is a b k l (num_is z) d = with_key _ _ k l (num_is z) d
  read_is a b k l (text_is u) d = with_key _ _ k l (text_is u) d
  read_is a b k l (thing_is n m e) d = with_key _ _ k l (thing_is n m e) d

  -- WRITING
  put_at_is : (key : List ℕ) (n m : ℕ) (x y : Value) (a b : Option (Thing Code)) → slice_get w.things n ≡ Some m → slice_get heap n ≡ a → slice_get heap' m ≡ b → PlacesAre w a b → ValueIs w x y → PutIs w heap heap' (put_at a heap n key x) (put_at b heap' m key y)
  put_at_is key n m x y a b e ha hb (places_are (failure_is name message)) h = put_leaves
  put_at_is key n m x y a b e ha hb (places_are (closure_is r xs ss c o)) h = put_leaves
  put_at_is key n m x y a b e ha hb (places_are (listed_is t d)) h = put_leaves
  put_at_is key n m x y a b e ha hb (places_are (plain_is t)) h = put_done n m e ha hb (with_prop_is w key x y _ _ h t)
  put_at_is key n m x y a b e ha hb (places_are get_is) h = put_leaves
  put_at_is key n m x y a b e ha hb (places_are run_is) h = put_leaves

  put_in_is : (key : Option (List ℕ)) (a b x y : Value) → ValueIs w a b → ValueIs w x y → PutIs w heap heap' (put_in heap a key x) (put_in heap' b key y)
  put_in_is (Some key) a b x y (thing_is n m e) h = by (is_proto key)
    where
      by : (proto : Bool) → PutIs w heap heap' (if proto then (p.Leaves, heap) else put_at (slice_get heap n) heap n key x) (if proto then (p.Leaves, heap') else put_at (slice_get heap' m) heap' m key y)
      by true = put_leaves
      by false = put_at_is key n m x y _ _ e refl refl (places w heap heap' pairs n m e) h
  put_in_is None a b x y (thing_is n m e) h = put_leaves
  put_in_is key a b x y _ h = put_leaves

  put_key : (a b k l x y : Value) → ValueIs w a b → ValueIs w k l → ValueIs w x y → PutIs w heap heap' (put_in heap a (key_text k) x) (put_in heap' b (key_text l) y)
  put_key a b k l x y h d g = subst (λ o. PutIs w heap heap' (put_in heap a (key_text k) x) (put_in heap' b o y)) (sym (key_same w k l d)) (put_in_is (key_text k) a b x y h g)

  pub put_is : (a b k l x y : Value) → ValueIs w a b → ValueIs w k l → ValueIs w x y → PutIs w heap heap' (put heap a k x) (put heap' b l y)
  put_is a b k l x y undefined_is d g = put_throws
  put_is a b k l x y null_is d g = put_throws
  put_is a b k l x y (truth_is z) d g = put_key _ _ k l x y (truth_is z) d g
  put_is a b k l x y (num_is z) d g = put_key _ _ k l x y (num_is z) d g
  put_is a b k l x y (text_is u) d g = put_key _ _ k l x y (text_is u) d g
  put_is a b k l x y (thing_is n m e) d g = put_key _ _ k l x y (thing_is n m e) d g
