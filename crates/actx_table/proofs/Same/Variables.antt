-- Variables of the agent and the entries of the prelude's states.
use Rattle.std.proofs.Common.{◌≡◌, ℕ, suc, ◌+◌, ◌<◌, Bool, true, false, List, [], ◌∷◌, ◌++◌, length, length-append, Option, Some, None, refl, sym, ◌∙◌, subst, arith}
use Rattle.std.specs.Prelude.{nat_eq, if◌then◌else◌, slice_get, slice_set}
use Rattle.std.proofs.lemmas.Bool.{eqb-true}
use Rattle.std.proofs.lemmas.Option.{slice_get_within}
use Rattle.actx_match.proofs.Pairing.{get_set_same, paired_owned}
use Rattle.actx_data.specs.declared.value.Value.{Value}
use Rattle.actx_data.specs.declared.value.Value.TheVariants as v
use Rattle.actx_heap.specs.Things.{Thing}
use Rattle.actx_table.specs.Agent.{variable_at, this_variable, entry_of, with_entry, entry_at, weak_at, with_weak}
use Rattle.actx_table.specs.PreludeState.{now_record, state_record}
use Rattle.actx_table.specs.Scopes.{option_or}
use Rattle.actx_table.specs.State.{Code, Variable, Entry, Weak, Store}
use Rattle.actx_table.specs.Related.{World, ValueIs, undefined_is, null_is, truth_is, num_is, text_is, thing_is, ThingIs, VariablesAre, no_variables, more_variables, StoreIs}
use Rattle.actx_table.proofs.Same.Growth.{Grows, grows_same, Lasts, mapping_lasts, value_later}
use Rattle.actx_table.proofs.Same.Names.{if_false}
use Rattle.actx_table.proofs.Same.Alike.{same_places}
use Rattle.actx_table.proofs.Same.Stores.{lasts_now, store_by}

-- A VARIABLE MORE
other_place : (n m : ℕ) → m < n → nat_eq n m ≡ false
other_place n m l = by (nat_eq n m) refl
  where
    by : (b : Bool) → nat_eq n m ≡ b → nat_eq n m ≡ false
    by true e = let q = eqb-true n m e in absurd (omega (arith, q, l))
    by false e = e

-- a new key goes behind the others
pub variables_push : (w w' : World) (heap heap' : List (Thing Code)) → Grows w w' → Lasts heap heap' → (k j n q : ℕ) (a b : Value) → ((i m : ℕ) → slice_get w.things i ≡ Some m → m < j) → slice_get w'.things k ≡ Some j → ValueIs w' a b → slice_get heap' q ≡ Some (state_record n b) → (xs : List Variable) (es : List Entry) → VariablesAre w heap xs es → VariablesAre w' heap' (xs ++ record { place = k; number = n; default = a } ∷ []) (with_entry j (v.Thing q) es)
variables_push w w' heap heap' grows lasts k j n q a b old p h e xs es no_variables = more_variables k j n q p h e no_variables
variables_push w w' heap heap' grows lasts k j n q a b old p h e xs es (more_variables k' j' n' r' {xs = xs'} {es = es'} p' h' e' t) =
    let entry : Entry = record { place = j'; value = v.Thing r' } in
    let x : Variable = record { place = k'; number = n'; default = _ } in
    let ih = variables_push w w' heap heap' grows lasts k j n q a b old p h e xs' es' t in
    subst (VariablesAre w' heap' (x ∷ (xs' ++ record { place = k; number = n; default = a } ∷ []))) (sym (if_false (nat_eq j j') (record { place = j'; value = v.Thing q } ∷ es') (entry ∷ with_entry j (v.Thing q) es') (other_place j j' (old k' j' p'))))
    (more_variables k' j' n' r' (grows.things.says k' j' p') (value_later w w' grows _ _ h') (lasts.says r' _ refl e') ih)

-- a WeakMap has the entries that it was given, where it had any
weak_if : (k : ℕ) (b : Bool) (w : Weak) (old es : List Entry) (ws : List Weak) → nat_eq k w.place ≡ b → (if b then Some w.entries else weak_at k ws) ≡ Some old → (weak_at k ws ≡ Some old → weak_at k (with_weak k es ws) ≡ Some es) → weak_at k (if b then record { place = w.place; entries = es } ∷ ws else w ∷ with_weak k es ws) ≡ Some es
weak_if k true w old es ws q e f = subst (λ b. (if b then Some es else weak_at k ws) ≡ Some es) (sym q) refl
weak_if k false w old es ws q e f = if_false (nat_eq k w.place) (Some w.entries) (weak_at k (with_weak k es ws)) q ∙ f e

pub weak_given : (k : ℕ) (old es : List Entry) (ws : List Weak) → weak_at k ws ≡ Some old → weak_at k (with_weak k es ws) ≡ Some es
weak_given k old es [] e = absurd (cc)
weak_given k old es (w ∷ ws) e = weak_if k (nat_eq k w.place) w old es ws refl e (weak_given k old es ws)

module _ (w : World) (s r : Store) (st : StoreIs w s r) where
  pub places_old : (i m : ℕ) → slice_get w.things i ≡ Some m → m < length r.heap
  places_old i m e = let p = st.heap.pair i m e in slice_get_within r.heap m p.1 p.3

  -- the record of the current mapping with the number of variables, and the states with these entries
  abbrev pub heap_with : ℕ → List (Thing Code)
  heap_with n = slice_set r.heap (3 + w.before) (now_record st.agent.current n)

  abbrev pub weak_with : List Entry → List Weak
  weak_with es = with_weak (2 + w.before) es r.weak

  pub lasts_variable : (n : ℕ) → Lasts r.heap (heap_with n)
  lasts_variable n = lasts_now w s r st st.agent.current n

  -- the store with these variables and entries
  pub store_variable : (x : Variable) (es : List Entry) → VariablesAre w (heap_with (suc (length s.variables))) (s.variables ++ x ∷ []) es → StoreIs w (record s { variables = s.variables ++ x ∷ [] }) (record r { heap = heap_with (suc (length s.variables)); weak = weak_with es })
  store_variable x es are =
      let n = suc (length s.variables) in
      let heap' = heap_with n in
      let lasts = lasts_variable n in
      let long = length-append s.variables (x ∷ []) in
      let made : n ≡ length (s.variables ++ x ∷ []) = omega (arith, long) in
      store_by w w s r st (grows_same w) s.scope r.scope s.receiver r.receiver s.heap heap' s.scopes r.scopes (weak_with es) s.mapping (s.variables ++ x ∷ []) lasts st.top.has
      (paired_owned (ThingIs w) w.things s.heap r.heap (3 + w.before) _ st.agent.now_own st.heap)
      st.scopes
      (record {
        entries = es;
        entries_at = weak_given (2 + w.before) st.agent.entries es r.weak st.agent.entries_at;
        variables_are = are;
        current = st.agent.current;
        now_at = subst (λ m. slice_get heap' (3 + w.before) ≡ Some (now_record st.agent.current m)) made (get_set_same r.heap (3 + w.before) _ _ st.agent.now_at);
        now_own = st.agent.now_own;
        places = st.agent.places;
        maps_are = st.agent.maps_are;
        mapping_is = mapping_lasts r.heap heap' lasts _ _ st.agent.mapping_is;
      })

-- THE VARIABLE THAT A RECEIVER IS
pub data VariableIs (w : World) (heap : List (Thing Code)) : Option Variable → Value → Type 0 where
  no_variable : VariableIs w heap None v.Undefined
  a_variable : (k n r : ℕ) {a b : Value} → ValueIs w a b → slice_get heap r ≡ Some (state_record n b) → VariableIs w heap (Some (record { place = k; number = n; default = a })) (v.Thing r)

variable_if : (w : World) (heap : List (Thing Code)) (a b : Bool) (x y : Option Variable) (e f : Option Value) → b ≡ a → VariableIs w heap x (option_or e v.Undefined) → VariableIs w heap y (option_or f v.Undefined) → VariableIs w heap (if a then x else y) (option_or (if b then e else f) v.Undefined)
variable_if w heap true true x y e f q h k = h
variable_if w heap false false x y e f q h k = k
variable_if w heap true false x y e f q h k = absurd (cc)
variable_if w heap false true x y e f q h k = absurd (cc)

module _ (w : World) (s r : Store) (st : StoreIs w s r) where
  variable_in : (k j : ℕ) → slice_get w.things k ≡ Some j → (xs : List Variable) (es : List Entry) → VariablesAre w r.heap xs es → VariableIs w r.heap (variable_at k xs) (option_or (entry_of j es) v.Undefined)
  variable_in k j e xs es no_variables = no_variable
  variable_in k j e xs es (more_variables k' j' n q p h g t) = variable_if w r.heap (nat_eq k k') (nat_eq j j') _ _ _ _ (same_places (ThingIs w) w.things s.heap r.heap st.heap k k' j j' e p) (a_variable k' n q h g) (variable_in k j e _ _ t)

  pub this_is : (a b : Value) → ValueIs w a b → VariableIs w r.heap (this_variable a s.variables) (entry_at b st.agent.entries)
  this_is a b undefined_is = no_variable
  this_is a b null_is = no_variable
  this_is a b (truth_is x) = no_variable
  this_is a b (num_is z) = no_variable
  this_is a b (text_is u) = no_variable
  this_is a b (thing_is k j e) = variable_in k j e _ _ st.agent.variables_are
