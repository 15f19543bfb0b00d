-- Variables of the agent and the entries of the prelude's states.
use Rattle.std.proofs.Common.{◌≡◌, ℕ, suc, ◌<◌, Bool, true, false, List, [], ◌∷◌, ◌++◌, length, length-append, Option, Some, None, refl, sym, ◌∙◌, subst, arith}
use Rattle.std.specs.Prelude.{nat_eq, if◌then◌else◌, slice_get, slice_set}
use Rattle.std.proofs.lemmas.Bool.{eqb-true}
use Rattle.std.proofs.lemmas.Option.{slice_get_within}
use Rattle.actx_match.proofs.Pairing.{get_set_same, get_set_other, paired_owned}
use Rattle.actx_data.specs.declared.value.Value.{Value}
use Rattle.actx_data.specs.declared.value.Value.TheVariants as v
use Rattle.actx_rules.specs.Agent.{variable_at, this_variable}
use Rattle.actx_rules.specs.Properties.{with_entry, entry_at, entry_of}
use Rattle.actx_rules.specs.State.{Entry, Thing, Weak, Variable, Store, option_or}
use Rattle.actx_rules.specs.Related.{World, ValueIs, undefined_is, truth_is, num_is, text_is, thing_is, ThingIs, now_record, state_record, VariablesAre, no_variables, more_variables, StoreIs}
use Rattle.actx_rules.proofs.Same.Growth.{Grows, grows_same, Lasts, lasts_on, lasts_set, value_later, mapping_later}
use Rattle.actx_rules.proofs.Same.Names.{if_false}
use Rattle.actx_rules.proofs.Same.Shown.{same_places}
use Rattle.actx_rules.proofs.Same.Stores.{prelude_later}

-- A VARIABLE MORE
other_place : (n m : ℕ) → m < n → nat_eq n m ≡ false
other_place n m l = by (nat_eq n m) refl
  where
    by : (b : Bool) → nat_eq n m ≡ b → nat_eq n m ≡ false
    by true e = let q = eqb-true n m e in absurd (omega (arith, q, l))
    by false e = e

-- a new key goes behind the others
pub variables_push : (w w' : World) (heap heap' : List Thing) → Grows w w' → Lasts heap heap' → (k j n q : ℕ) (a b : Value) → ((i m : ℕ) → slice_get w.things i ≡ Some m → m < j) → slice_get w'.things k ≡ Some j → ValueIs w' a b → slice_get heap' q ≡ Some (state_record n b) → (xs : List Variable) (es : List Entry) → VariablesAre w heap xs es → VariablesAre w' heap' (xs ++ record { place = k; number = n; default = a } ∷ []) (with_entry j (v.Thing q) es)
variables_push w w' heap heap' grows lasts k j n q a b old p h e xs es no_variables = more_variables k j n q p h e no_variables
variables_push w w' heap heap' grows lasts k j n q a b old p h e xs es (more_variables k' j' n' r' {xs = xs'} {es = es'} p' h' e' t) =
    let entry : Entry = record { place = j'; value = v.Thing r' } in
    let x : Variable = record { place = k'; number = n'; default = _ } in
    let ih = variables_push w w' heap heap' grows lasts k j n q a b old p h e xs' es' t in
    subst (VariablesAre w' heap' (x ∷ (xs' ++ record { place = k; number = n; default = a } ∷ []))) (sym (if_false (nat_eq j j') (record { place = j'; value = v.Thing q } ∷ es') (entry ∷ with_entry j (v.Thing q) es') (other_place j j' (old k' j' p'))))
    (more_variables k' j' n' r' (grows.things.says k' j' p') (value_later w w' grows _ _ h') (lasts.says r' _ refl e') ih)

module _ (w : World) (s r : Store) (st : StoreIs w s r) where
  pub places_old : (i m : ℕ) → slice_get w.things i ≡ Some m → m < length r.heap
  places_old i m e = let p = st.heap.pair i m e in slice_get_within r.heap m p.1 p.3

  abbrev pub heap_with : ℕ → List Entry → List Thing
  heap_with n es = slice_set (slice_set r.heap 3 (now_record st.agent.current n)) 2 (Weak es)

  pub lasts_variable : (n : ℕ) (es : List Entry) → Lasts r.heap (heap_with n es)
  lasts_variable n es =
      let heap1 = slice_set r.heap 3 (now_record st.agent.current n) in
      lasts_on r.heap heap1 (slice_set heap1 2 (Weak es)) (lasts_set r.heap 3 _ (now_record st.agent.current n) st.agent.now_at refl) (lasts_set heap1 2 _ (Weak es) (get_set_other r.heap 3 2 _ (λ e. absurd (cc)) ∙ st.agent.states_at) refl)

  -- the store with these variables and entries
  pub store_variable : (x : Variable) (es : List Entry) → VariablesAre w (heap_with (suc (length s.variables)) es) (s.variables ++ x ∷ []) es → StoreIs w (record s { variables = s.variables ++ x ∷ [] }) (record r { heap = heap_with (suc (length s.variables)) es })
  store_variable x es are =
      let n = suc (length s.variables) in
      let heap1 = slice_set r.heap 3 (now_record st.agent.current n) in
      let heap2 = slice_set heap1 2 (Weak es) in
      let grows = grows_same w in
      let lasts = lasts_variable n es in
      let long = length-append s.variables (x ∷ []) in
      let made : n ≡ length (s.variables ++ x ∷ []) = omega (arith, long) in
      let now1 : slice_get heap2 3 ≡ Some (now_record st.agent.current n) = get_set_other heap1 2 3 _ (λ z. absurd (cc)) ∙ get_set_same r.heap 3 _ _ st.agent.now_at in
      record {
        scopes = st.scopes;
        heap = paired_owned (ThingIs w) w.things s.heap heap1 2 _ st.agent.states_own (paired_owned (ThingIs w) w.things s.heap r.heap 3 _ st.agent.now_own st.heap);
        shown = st.shown;
        events = st.events;
        long = st.long;
        options = st.options;
        top = st.top;
        prelude = prelude_later r.heap heap2 lasts st.prelude;
        agent = record {
          entries = es;
          states_at = get_set_same heap1 2 _ _ (get_set_other r.heap 3 2 _ (λ z. absurd (cc)) ∙ st.agent.states_at);
          states_own = st.agent.states_own;
          variables_are = are;
          current = st.agent.current;
          now_at = subst (λ m. slice_get heap2 3 ≡ Some (now_record st.agent.current m)) made now1;
          now_own = st.agent.now_own;
          mapping_is = mapping_later w w grows r.heap heap2 lasts _ _ st.agent.mapping_is;
        };
        get_method = st.get_method;
        run_method = st.run_method;
      }

-- THE VARIABLE THAT A RECEIVER IS
pub data VariableIs (w : World) (heap : List Thing) : Option Variable → Value → Type 0 where
  no_variable : VariableIs w heap None v.Undefined
  a_variable : (k n r : ℕ) {a b : Value} → ValueIs w a b → slice_get heap r ≡ Some (state_record n b) → VariableIs w heap (Some (record { place = k; number = n; default = a })) (v.Thing r)

variable_if : (w : World) (heap : List Thing) (a b : Bool) (x y : Option Variable) (e f : Option Value) → b ≡ a → VariableIs w heap x (option_or e v.Undefined) → VariableIs w heap y (option_or f v.Undefined) → VariableIs w heap (if a then x else y) (option_or (if b then e else f) v.Undefined)
variable_if w heap true true x y e f q h k = h
variable_if w heap false false x y e f q h k = k
variable_if w heap true false x y e f q h k = absurd (cc)
variable_if w heap false true x y e f q h k = absurd (cc)

module _ (w : World) (s r : Store) (st : StoreIs w s r) where
  variable_in : (k j : ℕ) → slice_get w.things k ≡ Some j → (xs : List Variable) (es : List Entry) → VariablesAre w r.heap xs es → VariableIs w r.heap (variable_at k xs) (option_or (entry_of j es) v.Undefined)
  variable_in k j e xs es no_variables = no_variable
  variable_in k j e xs es (more_variables k' j' n q p h g t) = variable_if w r.heap (nat_eq k k') (nat_eq j j') _ _ _ _ (same_places (ThingIs w) w.things s.heap r.heap st.heap k k' j j' e p) (a_variable k' n q h g) (variable_in k j e _ _ t)

  pub this_is : (a b : Value) → ValueIs w a b → VariableIs w r.heap (this_variable a s.variables) (entry_at b st.agent.entries)
  this_is a b undefined_is = no_variable
  this_is a b (truth_is x) = no_variable
  this_is a b (num_is z) = no_variable
  this_is a b (text_is u l) = no_variable
  this_is a b (thing_is k j e v) = variable_in k j e _ _ st.agent.variables_are
