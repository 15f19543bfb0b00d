-- The rows that make a variable: with no options, and with options that have no name, a name, or something else for one.
use Rattle.std.proofs.Common.{◌≡◌, ℕ, suc, ◌≤◌, Bool, true, false, List, [], ◌∷◌, ◌++◌, length, length-append, Option, Some, refl, ap, ◌∙◌, subst, arith}
use Rattle.std.specs.Prelude.{nat_le, codes, if◌then◌else◌, slice_get}
use Rattle.std.proofs.lemmas.Bool.{le-leb}
use Rattle.actx_match.proofs.Pairing.{get_last}
use Rattle.actx_data.specs.Number.{greatest}
use Rattle.actx_data.specs.declared.end.End.TheVariants.{Left}
use Rattle.actx_data.specs.declared.value.Value.{Value}
use Rattle.actx_data.specs.declared.value.Value.TheVariants as v
use Rattle.actx_rules.specs.Taken.{longest_text}
use Rattle.actx_grammar.specs.declared.side.Side.TheVariants.{Plain as plain}
use Rattle.actx_rules.specs.Agent.{variable_props}
use Rattle.actx_rules.specs.Operators.{Leaves}
use Rattle.actx_rules.specs.Properties.{fixed_or, get_thing, with_entry}
use Rattle.actx_rules.specs.Machine.{makes, new_variable, option_of, named_variable, variable_of, call_thing}
use Rattle.actx_rules.specs.State.{Prop, Thing, Plain, Listed, Task, Frame, Variable, Store, Stops, with_thing}
use Rattle.actx_rules.specs.Related.{World, ValueIs, undefined_is, truth_is, num_is, text_is, thing_is, OptionIs, none_is, some_is, no_props, more_props, ThingIs, failure_is, closure_is, listed_is, plain_is, get_is, run_is, state_record, variable_thing_of, ForValue, FramesAre, given_is, ScopeIs, StoreIs}
use Rattle.actx_rules.specs.Laws.{Laws, Makes, Quits, made_props, option_at, IsNoName}
use Rattle.actx_rules.proofs.Same.Growth.{grows_thing, thing_world, Lasts, lasts_on, lasts_front, value_later, frames_later, later_thing, later_heap, later_cells}
use Rattle.actx_rules.proofs.Same.Shown.{PlacesAre, places_are, places, prop_is}
use Rattle.actx_rules.proofs.Same.Stores.{ready, store_thing, new_place, new_value, store_cells, store_nodes}
use Rattle.actx_rules.proofs.Same.Variables.{variables_push, places_old, heap_with, lasts_variable, store_variable}
use Rattle.actx_rules.proofs.Same.Joins.{Joins, landed, quitted, to_given}

-- a name of at most the longest text's length is a number of units
name_fits : (u : List ℕ) → length u ≤ longest_text → nat_le (length u) greatest ≡ true
name_fits u l = le-leb (length u) greatest (omega (arith, l))

module _ (laws : Laws) (w : World) where
  making : (name : List ℕ) (a b : Value) (ws : List Value) (task : Task) (fs gs : List Frame) (s r : Store) (st : StoreIs w s r) → length name ≤ longest_text → ValueIs w a b → Makes r ws gs st.agent.entries st.agent.current (length s.variables) name b → FramesAre w r.heap r.scopes ForValue fs gs → ScopeIs w task fs s.scope s.receiver r.scope r.receiver → Joins (length s.mapping) (makes (Listed (variable_props name)) fs (record s { variables = s.variables ++ record { place = length s.heap; number = suc (length s.variables); default = a } ∷ [] })) (call_thing plain (Some variable_thing_of) v.Undefined ws gs r)
  making name a b ws task fs gs s r st short h l f c =
      let k = length s.heap in
      let j = length r.heap in
      let n = suc (length s.variables) in
      let w1 = thing_world w j true in
      let grows = grows_thing w j true in
      let thing = Listed (variable_props name) in
      let made = Listed (made_props (v.Text name)) in
      let node = state_record n b in
      let s1 = with_thing s thing in
      let r1 = with_thing r made in
      let are = listed_is (more_props (codes "get") st.get_method (more_props (codes "run") st.run_method (more_props (codes "name") (text_is name short) no_props))) refl in
      let st1 = store_thing w s r st thing made true are (λ ps e. absurd (cc)) in
      let r2 = record r1 { heap = r1.heap ++ node ∷ [] } in
      let st2 = store_nodes w1 s1 r1 st1 (node ∷ []) in
      let es = with_entry j (v.Thing (suc j)) st.agent.entries in
      let x : Variable = record { place = k; number = n; default = a } in
      let heap3 = heap_with w1 s1 r2 st2 n es in
      let lasts1 : Lasts r.heap r1.heap = lasts_front r.heap (made ∷ []) in
      let lasts2 : Lasts r1.heap r2.heap = lasts_front r1.heap (node ∷ []) in
      let lasts3 : Lasts r2.heap heap3 = lasts_variable w1 s1 r2 st2 n es in
      let lasts = lasts_on r.heap r2.heap heap3 (lasts_on r.heap r1.heap r2.heap lasts1 lasts2) lasts3 in
      let long : length r1.heap ≡ suc j = let q = length-append r.heap (made ∷ []) in omega (arith, q) in
      let got : slice_get r2.heap (suc j) ≡ Some node = subst (λ i. slice_get r2.heap i ≡ Some node) long (get_last r1.heap node) in
      let value = value_later w w1 grows a b h in
      let entries = variables_push w w1 r.heap heap3 grows lasts k j n (suc j) a b (places_old w s r st) (new_place w s r st true) value (lasts3.says (suc j) node refl got) s.variables st.agent.entries st.agent.variables_are in
      let s3 = record s1 { variables = s.variables ++ x ∷ [] } in
      let r3 = record r2 { heap = heap3 } in
      let st3 = store_variable w1 s1 r2 st2 x es entries in
      let f1 = frames_later (later_thing w r.heap r.scopes made true) f in
      let f2 = frames_later (later_heap w1 r1.heap r.scopes r2.heap lasts2) f1 in
      let f3 = frames_later (later_heap w1 r2.heap r.scopes heap3 lasts3) f2 in
      landed (length s.mapping) 300 _ w1 _ _ fs gs s3 (record r3 { scopes = r.scopes ++ l.cells }) l.leads (omega arith)
      (given_is (new_value w s r st) (frames_later (later_cells w1 heap3 r.scopes l.cells) f3))
      (to_given w w1 grows _ task fs _ _ _ _ c f)
      (store_cells w1 s3 r3 st3 l.cells r.scope r.receiver)

  -- the next variable, or one too many
  new_by : (fits : Bool) (name : List ℕ) (a b : Value) (ws : List Value) (task : Task) (fs gs : List Frame) (s r : Store) (st : StoreIs w s r) → (fits ≡ true → Makes r ws gs st.agent.entries st.agent.current (length s.variables) name b) → (fits ≡ false → Quits (call_thing plain (Some variable_thing_of) v.Undefined ws gs r) 300) → length name ≤ longest_text → ValueIs w a b → FramesAre w r.heap r.scopes ForValue fs gs → ScopeIs w task fs s.scope s.receiver r.scope r.receiver → Joins (length s.mapping) (if fits then makes (Listed (variable_props name)) fs (record s { variables = s.variables ++ record { place = length s.heap; number = suc (length s.variables); default = a } ∷ [] }) else Stops Left) (call_thing plain (Some variable_thing_of) v.Undefined ws gs r)
  new_by true name a b ws task fs gs s r st fitting other short h f c = making name a b ws task fs gs s r st short h (fitting refl) f c
  new_by false name a b ws task fs gs s r st fitting other short h f c = quitted (length s.mapping) 300 _ (other refl) (omega arith)

  -- without options
  pub alone : (task : Task) (fs gs : List Frame) (s r : Store) → StoreIs w s r → FramesAre w r.heap r.scopes ForValue fs gs → ScopeIs w task fs s.scope s.receiver r.scope r.receiver → Joins (length s.mapping) (new_variable [] v.Undefined fs s) (call_thing plain (Some variable_thing_of) v.Undefined [] gs r)
  alone task fs gs s r st f c = new_by (nat_le (suc (length s.variables)) greatest) [] v.Undefined v.Undefined [] task fs gs s r st (laws.makes_alone r gs (ready w s r st)) (laws.alone_quits r gs (ready w s r st)) (omega arith) undefined_is f c

  -- what is no text has no length
  nameless : (a b : Thing) → ((ps : List Prop) → a ≡ Plain ps → ⊥) → ThingIs w a b → get_thing (Some b) (codes "length") ≡ Leaves
  nameless a b other (failure_is name) = refl
  nameless a b other (closure_is n m c h) = refl
  nameless a b other (listed_is h none) = ap (λ o. fixed_or o (codes "length")) none
  nameless a b other (plain_is {ps = ps} h) = absurd (other ps refl)
  nameless a b other get_is = refl
  nameless a b other run_is = refl

  nameless_at : (s r : Store) (st : StoreIs w s r) (k j : ℕ) → slice_get w.things k ≡ Some j → slice_get w.values k ≡ Some true → IsNoName r (v.Thing j)
  nameless_at s r st k j e value =
      let p = st.heap.pair k j e in
      ap (λ o. get_thing o (codes "length")) p.3 ∙ nameless p.0 p.1 (λ ps q. st.options k ps (p.2 ∙ ap Some q) value) p.4

  -- with options: by their name
  named_rule : (x y d e : Value) (j : ℕ) (qs : List Prop) (task : Task) (fs gs : List Frame) (s r : Store) → StoreIs w s r → ValueIs w x y → option_at (codes "name") qs ≡ y → ValueIs w d e → option_at (codes "defaultValue") qs ≡ e → slice_get r.heap j ≡ Some (Plain qs) → FramesAre w r.heap r.scopes ForValue fs gs → ScopeIs w task fs s.scope s.receiver r.scope r.receiver → Joins (length s.mapping) (named_variable x d fs s) (call_thing plain (Some variable_thing_of) v.Undefined (v.Thing j ∷ []) gs r)
  named_rule x y d e j qs task fs gs s r st undefined_is p h q at f c =
      let name : List ℕ = [] in
      new_by (nat_le (suc (length s.variables)) greatest) name d e (v.Thing j ∷ []) task fs gs s r st
      (λ fits. subst (Makes r (v.Thing j ∷ []) gs st.agent.entries st.agent.current (length s.variables) name) q (laws.makes_unnamed r gs (ready w s r st) j qs at p fits))
      (laws.unnamed_quits r gs (ready w s r st) j qs at p) (omega arith) h f c
  named_rule x y d e j qs task fs gs s r st (text_is u l) p h q at f c =
      new_by (nat_le (suc (length s.variables)) greatest) u d e (v.Thing j ∷ []) task fs gs s r st
      (λ fits. subst (Makes r (v.Thing j ∷ []) gs st.agent.entries st.agent.current (length s.variables) u) q (laws.makes_named r gs (ready w s r st) j qs u at p (name_fits u l) fits))
      (laws.named_quits r gs (ready w s r st) j qs u at p (name_fits u l)) l h f c
  named_rule x y d e j qs task fs gs s r st (truth_is b) p h q at f c = quitted (length s.mapping) 300 _ (laws.no_name_quits r gs (ready w s r st) j qs (v.Truth b) at p refl) (omega arith)
  named_rule x y d e j qs task fs gs s r st (num_is z) p h q at f c = quitted (length s.mapping) 300 _ (laws.no_name_quits r gs (ready w s r st) j qs (v.Num z) at p refl) (omega arith)
  named_rule x y d e j qs task fs gs s r st (thing_is k i g value) p h q at f c = quitted (length s.mapping) 300 _ (laws.no_name_quits r gs (ready w s r st) j qs (v.Thing i) at p (nameless_at s r st k i g value)) (omega arith)

  option_value : (o p : Option Value) → OptionIs w o p → ValueIs w (option_of o) (option_of p)
  option_value o p none_is = undefined_is
  option_value o p (some_is h) = h

  options_rule : (o : Option Thing) (j : ℕ) (qs : List Prop) (task : Task) (fs gs : List Frame) (s r : Store) → StoreIs w s r → PlacesAre w o (Some (Plain qs)) → slice_get r.heap j ≡ Some (Plain qs) → FramesAre w r.heap r.scopes ForValue fs gs → ScopeIs w task fs s.scope s.receiver r.scope r.receiver → Joins (length s.mapping) (variable_of o fs s) (call_thing plain (Some variable_thing_of) v.Undefined (v.Thing j ∷ []) gs r)
  options_rule o j qs task fs gs s r st (places_are (plain_is {ps = ps} h)) at f c =
      named_rule _ _ _ _ j qs task fs gs s r st (option_value _ _ (prop_is w s.heap r.heap st.heap (codes "name") ps qs h)) refl (option_value _ _ (prop_is w s.heap r.heap st.heap (codes "defaultValue") ps qs h)) refl at f c

  pub with_options : (k j : ℕ) (qs : List Prop) (task : Task) (fs gs : List Frame) (s r : Store) → StoreIs w s r → slice_get w.things k ≡ Some j → slice_get r.heap j ≡ Some (Plain qs) → FramesAre w r.heap r.scopes ForValue fs gs → ScopeIs w task fs s.scope s.receiver r.scope r.receiver → Joins (length s.mapping) (variable_of (slice_get s.heap k) fs s) (call_thing plain (Some variable_thing_of) v.Undefined (v.Thing j ∷ []) gs r)
  with_options k j qs task fs gs s r st e at f c = options_rule (slice_get s.heap k) j qs task fs gs s r st (subst (PlacesAre w (slice_get s.heap k)) at (places w s.heap r.heap st.heap k j e)) at f c
