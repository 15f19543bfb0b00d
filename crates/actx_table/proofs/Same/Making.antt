-- The rows that make a variable: with no options, with options that have no name or a name, or out of the profile.
use Rattle.std.proofs.Common.{◌≡◌, ℕ, suc, ◌≤◌, Bool, true, false, List, [], ◌∷◌, ◌++◌, length, length-append, Option, Some, None, refl, ap, ◌∙◌, subst, arith}
use Rattle.std.specs.Prelude.{nat_le, codes, if◌then◌else◌, slice_get}
use Rattle.actx_match.proofs.Pairing.{get_last}
use Rattle.actx_data.specs.Number.{greatest}
use Rattle.actx_data.specs.declared.end.End.TheVariants.{Left}
use Rattle.actx_data.specs.declared.value.Value.{Value}
use Rattle.actx_data.specs.declared.value.Value.TheVariants as v
use Rattle.actx_grammar.specs.declared.side.Side.TheVariants.{Plain as plain}
use Rattle.actx_heap.specs.Properties.{get, get_thing, fixed_or, same}
use Rattle.actx_heap.specs.Texts.{same_text}
use Rattle.actx_heap.specs.Things.{Prop, Thing, Plain, Listed, Failure, Function}
use Rattle.actx_heap.specs.declared.answers.Got.TheVariants as g
use Rattle.actx_table.specs.Agent.{variable_props, with_entry}
use Rattle.actx_table.specs.Answers.{makes, with_thing}
use Rattle.actx_table.specs.Expressions.{call_code}
use Rattle.actx_table.specs.Forms.{first, new_variable, named_variable, variable_of, variable_form}
use Rattle.actx_table.specs.Operators.{type_text, thing_type}
use Rattle.actx_table.specs.PreludeState.{state_record, variable_code}
use Rattle.actx_table.specs.Laws.{Laws, Makes, Quits, made_props, option_at}
use Rattle.actx_table.specs.Scopes.{option_or}
use Rattle.actx_table.specs.State.{Code, Task, Frame, Variable, Store, Move, Stops}
use Rattle.actx_table.specs.Related.{World, ValueIs, undefined_is, null_is, truth_is, num_is, text_is, thing_is, ValuesAre, no_values, more_values, OptionIs, none_is, some_is, no_props, more_props, ThingIs, failure_is, closure_is, listed_is, plain_is, get_is, run_is, ForValue, FramesAre, given_is, ScopeIs, StoreIs}
use Rattle.actx_table.proofs.Same.Growth.{grows_thing, thing_world, Lasts, lasts_on, lasts_front, value_later, frames_later, later_thing, later_heap, later_cells}
use Rattle.actx_table.proofs.Same.Alike.{PlacesAre, places_are, places}
use Rattle.actx_table.proofs.Same.Reading.{prop_is}
use Rattle.actx_table.proofs.Same.Stores.{ready, store_thing, new_place, new_value, store_cells, store_nodes}
use Rattle.actx_table.proofs.Same.Variables.{variables_push, places_old, heap_with, weak_with, lasts_variable, store_variable}
use Rattle.actx_table.proofs.Same.Joins.{Joins, landed, quitted, to_given}

no_undefined : (b : Bool) → same (v.Truth b) v.Undefined ≡ false
no_undefined true = refl
no_undefined false = refl

no_null : (b : Bool) → same (v.Truth b) v.Null ≡ false
no_null true = refl
no_null false = refl

module _ (laws : Laws) (w : World) where
  abbrev variable_call : List Value → List Frame → Store → Move
  variable_call ws gs r = call_code plain (Some variable_code) v.Undefined ws gs r

  making : (name : List ℕ) (a b : Value) (ws : List Value) (task : Task) (fs gs : List Frame) (s r : Store) (st : StoreIs w s r) → ValueIs w a b → Makes r ws gs st.agent.entries st.agent.current (length s.variables) w.before name b → FramesAre w r.heap r.scopes ForValue fs gs → ScopeIs w task fs s.scope s.receiver r.scope r.receiver → Joins (length s.mapping) (makes (Listed (variable_props name)) fs (record s { variables = s.variables ++ record { place = length s.heap; number = suc (length s.variables); default = a } ∷ [] })) (variable_call ws gs r)
  making name a b ws task fs gs s r st h l f c =
      let k = length s.heap in
      let j = length r.heap in
      let n = suc (length s.variables) in
      let w1 = thing_world w j in
      let grows = grows_thing w j in
      let thing = Listed (variable_props name) in
      let made = Listed (made_props w.before (v.Text name)) in
      let node = state_record n b in
      let s1 = with_thing s thing in
      let r1 = with_thing r made in
      let are = listed_is (more_props (codes "get") st.get_method (more_props (codes "run") st.run_method (more_props (codes "name") (text_is name) no_props))) refl in
      let st1 = store_thing w s r st thing made are in
      let r2 = record r1 { heap = r1.heap ++ node ∷ [] } in
      let st2 = store_nodes w1 s1 r1 st1 (node ∷ []) in
      let es = with_entry j (v.Thing (suc j)) st.agent.entries in
      let x : Variable = record { place = k; number = n; default = a } in
      let heap3 = heap_with w1 s1 r2 st2 n in
      let lasts1 : Lasts r.heap r1.heap = lasts_front r.heap (made ∷ []) in
      let lasts2 : Lasts r1.heap r2.heap = lasts_front r1.heap (node ∷ []) in
      let lasts3 : Lasts r2.heap heap3 = lasts_variable w1 s1 r2 st2 n in
      let lasts = lasts_on r.heap r2.heap heap3 (lasts_on r.heap r1.heap r2.heap lasts1 lasts2) lasts3 in
      let long : length r1.heap ≡ suc j = let q = length-append r.heap (made ∷ []) in omega (arith, q) in
      let got : slice_get r2.heap (suc j) ≡ Some node = subst (λ i. slice_get r2.heap i ≡ Some node) long (get_last r1.heap node) in
      let value = value_later w w1 grows a b h in
      let entries = variables_push w w1 r.heap heap3 grows lasts k j n (suc j) a b (places_old w s r st) (new_place w s r st) value (lasts3.says (suc j) node refl got) s.variables st.agent.entries st.agent.variables_are in
      let s3 = record s1 { variables = s.variables ++ x ∷ [] } in
      let r3 = record r2 { heap = heap3; weak = weak_with w1 s1 r2 st2 es } in
      let st3 = store_variable w1 s1 r2 st2 x es entries in
      let f1 = frames_later (later_thing w r.heap r.scopes made) f in
      let f2 = frames_later (later_heap w1 r1.heap r.scopes r2.heap lasts2) f1 in
      let f3 = frames_later (later_heap w1 r2.heap r.scopes heap3 lasts3) f2 in
      landed (length s.mapping) 300 _ w1 _ _ fs gs s3 (record r3 { scopes = r.scopes ++ l.cells }) l.leads (omega arith)
      (given_is (new_value w s r st) (frames_later (later_cells w1 heap3 r.scopes l.cells) f3))
      (to_given w w1 grows _ task fs _ _ _ _ c f)
      (store_cells w1 s3 r3 st3 l.cells r.scope r.receiver)

  -- the next variable, or one too many
  new_by : (fits : Bool) (name : List ℕ) (a b : Value) (ws : List Value) (task : Task) (fs gs : List Frame) (s r : Store) (st : StoreIs w s r) → (fits ≡ true → Makes r ws gs st.agent.entries st.agent.current (length s.variables) w.before name b) → (fits ≡ false → Quits (variable_call ws gs r) 300) → ValueIs w a b → FramesAre w r.heap r.scopes ForValue fs gs → ScopeIs w task fs s.scope s.receiver r.scope r.receiver → Joins (length s.mapping) (if fits then makes (Listed (variable_props name)) fs (record s { variables = s.variables ++ record { place = length s.heap; number = suc (length s.variables); default = a } ∷ [] }) else Stops Left) (variable_call ws gs r)
  new_by true name a b ws task fs gs s r st fitting other h f c = making name a b ws task fs gs s r st h (fitting refl) f c
  new_by false name a b ws task fs gs s r st fitting other h f c = quitted (length s.mapping) 300 _ (other refl) (omega arith)

  left : (ws : List Value) (gs : List Frame) (s r : Store) → Quits (variable_call ws gs r) 300 → Joins (length s.mapping) (Stops Left) (variable_call ws gs r)
  left ws gs s r quits = quitted (length s.mapping) 300 _ quits (omega arith)

  module _ (task : Task) (fs gs : List Frame) (s r : Store) (st : StoreIs w s r) (f : FramesAre w r.heap r.scopes ForValue fs gs) (c : ScopeIs w task fs s.scope s.receiver r.scope r.receiver) where
    -- without options
    alone : (ws : List Value) → first ws ≡ v.Undefined → Joins (length s.mapping) (new_variable [] v.Undefined fs s) (variable_call ws gs r)
    alone ws e = new_by (nat_le (suc (length s.variables)) greatest) [] v.Undefined v.Undefined ws task fs gs s r st (laws.makes_alone r ws gs (ready w s r st) e) (laws.alone_quits r ws gs (ready w s r st) e) undefined_is f c

    -- with options: by their name
    no_text : (o : Option (Thing Code)) → same_text (thing_type o) (codes "string") ≡ false
    no_text None = refl
    no_text (Some (Plain ps)) = refl
    no_text (Some (Listed ps)) = refl
    no_text (Some (Failure name u)) = refl
    no_text (Some (Function code)) = refl

    nameless : (y : Value) (j : ℕ) (qs : List Prop) → slice_get r.heap j ≡ Some (Plain qs) → option_at (codes "name") qs ≡ y → same y v.Undefined ≡ false → same_text (type_text r.heap y) (codes "string") ≡ false → Joins (length s.mapping) (Stops Left) (variable_call (v.Thing j ∷ []) gs r)
    nameless y j qs at p a b = left (v.Thing j ∷ []) gs s r (laws.no_name_quits r (v.Thing j ∷ []) gs (ready w s r st) j qs refl at (ap (λ z. same z v.Undefined) p ∙ a) (ap (λ z. same_text (type_text r.heap z) (codes "string")) p ∙ b))

    named_rule : (x y d e : Value) (j : ℕ) (qs : List Prop) → ValueIs w x y → option_at (codes "name") qs ≡ y → ValueIs w d e → option_at (codes "defaultValue") qs ≡ e → slice_get r.heap j ≡ Some (Plain qs) → Joins (length s.mapping) (named_variable x d fs s) (variable_call (v.Thing j ∷ []) gs r)
    named_rule x y d e j qs undefined_is p h q at =
        new_by (nat_le (suc (length s.variables)) greatest) [] d e (v.Thing j ∷ []) task fs gs s r st
        (λ fits. subst (Makes r (v.Thing j ∷ []) gs st.agent.entries st.agent.current (length s.variables) w.before []) q (laws.makes_unnamed r (v.Thing j ∷ []) gs (ready w s r st) j qs refl at p fits))
        (laws.unnamed_quits r (v.Thing j ∷ []) gs (ready w s r st) j qs refl at p) h f c
    named_rule x y d e j qs (text_is u) p h q at =
        new_by (nat_le (suc (length s.variables)) greatest) u d e (v.Thing j ∷ []) task fs gs s r st
        (λ fits. subst (Makes r (v.Thing j ∷ []) gs st.agent.entries st.agent.current (length s.variables) w.before u) q (laws.makes_named r (v.Thing j ∷ []) gs (ready w s r st) j qs refl at u p fits))
        (laws.named_quits r (v.Thing j ∷ []) gs (ready w s r st) j qs refl at u p) h f c
    named_rule x y d e j qs null_is p h q at = nameless v.Null j qs at p refl refl
    named_rule x y d e j qs (truth_is b) p h q at = nameless (v.Truth b) j qs at p (no_undefined b) refl
    named_rule x y d e j qs (num_is z) p h q at = nameless (v.Num z) j qs at p refl refl
    named_rule x y d e j qs (thing_is k i g) p h q at = nameless (v.Thing i) j qs at p refl (no_text (slice_get r.heap i))

    option_value : (o p : Option Value) → OptionIs w o p → ValueIs w (option_or o v.Undefined) (option_or p v.Undefined)
    option_value o p none_is = undefined_is
    option_value o p (some_is h) = h

    -- what is no object of options
    unread : (j : ℕ) (b : Thing Code) → slice_get r.heap j ≡ Some b → get_thing (Some b) (codes "defaultValue") ≡ g.Leaves → Joins (length s.mapping) (Stops Left) (variable_call (v.Thing j ∷ []) gs r)
    unread j b at e = left (v.Thing j ∷ []) gs s r (laws.unread_quits r (v.Thing j ∷ []) gs refl refl (ap (λ o. get_thing o (codes "defaultValue")) at ∙ e))

    thing_rule : (a b : Thing Code) (j : ℕ) → ThingIs w a b → slice_get r.heap j ≡ Some b → Joins (length s.mapping) (variable_of (Some a) fs s) (variable_call (v.Thing j ∷ []) gs r)
    thing_rule a b j (plain_is {ps = ps} {qs = qs} h) at =
        named_rule _ _ _ _ j qs (option_value _ _ (prop_is w (codes "name") ps qs h)) refl (option_value _ _ (prop_is w (codes "defaultValue") ps qs h)) refl at
    thing_rule a b j (listed_is {qs = qs} h none) at = unread j (Listed qs) at (ap (λ o. fixed_or o (codes "defaultValue")) none)
    thing_rule a b j (failure_is name message) at = unread j b at refl
    thing_rule a b j (closure_is k n m l o) at = unread j b at refl
    thing_rule a b j get_is at = unread j b at refl
    thing_rule a b j run_is at = unread j b at refl

    options_rule : (o p : Option (Thing Code)) (j : ℕ) → PlacesAre w o p → slice_get r.heap j ≡ p → Joins (length s.mapping) (variable_of o fs s) (variable_call (v.Thing j ∷ []) gs r)
    options_rule o p j (places_are h) at = thing_rule _ _ j h at

    primitive_left : (b : Value) → same b v.Null ≡ false → same b v.Undefined ≡ false → get r.heap b (v.Text (codes "defaultValue")) ≡ g.Leaves → Joins (length s.mapping) (Stops Left) (variable_call (b ∷ []) gs r)
    primitive_left b m n e = left (b ∷ []) gs s r (laws.unread_quits r (b ∷ []) gs m n e)

    value_rule : (a b : Value) → ValueIs w a b → Joins (length s.mapping) (variable_form (a ∷ []) fs s) (variable_call (b ∷ []) gs r)
    value_rule a b undefined_is = alone (v.Undefined ∷ []) refl
    value_rule a b null_is = left (v.Null ∷ []) gs s r (laws.null_quits r (v.Null ∷ []) gs refl)
    value_rule a b (truth_is x) = primitive_left (v.Truth x) (no_null x) (no_undefined x) refl
    value_rule a b (num_is z) = primitive_left (v.Num z) refl refl refl
    value_rule a b (text_is u) = primitive_left (v.Text u) refl refl refl
    value_rule a b (thing_is k j e) = options_rule (slice_get s.heap k) (slice_get r.heap j) j (places w s.heap r.heap st.heap k j e) refl

    -- THE CONSTRUCTOR, of one part at most
    pub variable_rule : (xs ys : List Value) → length xs ≤ 1 → ValuesAre w xs ys → Joins (length s.mapping) (variable_form xs fs s) (variable_call ys gs r)
    variable_rule xs ys l no_values = alone [] refl
    variable_rule xs ys l (more_values h no_values) = value_rule _ _ h
    variable_rule xs ys l (more_values h (more_values k t)) = absurd (omega (arith, l))
