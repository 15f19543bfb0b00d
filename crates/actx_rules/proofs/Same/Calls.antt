-- The rows of calls and of operations on values.
use Rattle.std.proofs.Common.{◌≡◌, ℕ, suc, ◌+◌, ◌≤◌, Bool, true, false, List, [], ◌∷◌, ◌++◌, length, Option, Some, refl, sym, subst, arith}
use Rattle.std.specs.Prelude.{if◌then◌else◌}
use Rattle.actx_match.proofs.Pairing.{get_last}
use Rattle.actx_data.specs.declared.end.End.TheVariants.{Left}
use Rattle.actx_data.specs.declared.shown.ErrorName.TheVariants.{TypeError}
use Rattle.actx_data.specs.declared.trace.TraceEvent.TheVariants.{Out}
use Rattle.actx_data.specs.declared.value.Value.{Value}
use Rattle.actx_data.specs.declared.value.Value.TheVariants as v
use Rattle.actx_grammar.specs.Grammar.{count}
use Rattle.actx_rules.specs.Texts.{same_text}
use Rattle.actx_grammar.specs.declared.side.Side.TheVariants.{Source}
use Rattle.actx_grammar.specs.declared.side.Side.TheVariants as side
use Rattle.actx_grammar.specs.declared.operators.BinaryOp.{BinaryOp}
use Rattle.actx_grammar.specs.declared.operators.Form.TheVariants.{NewVariable}
use Rattle.actx_grammar.specs.Tree as t
use Rattle.actx_grammar.specs.Tree.{Exprs, Stmts}
use Rattle.actx_rules.specs.Operators.{Answer}
use Rattle.actx_rules.specs.Printing.{line_of, is_line}
use Rattle.actx_rules.specs.Properties.{with_prop, with_props, any_proto}
use Rattle.actx_rules.specs.Machine.{answered, log, operator_rule, get_rule, object_rule, call, call_thing, rule, eval_parts}
use Rattle.actx_rules.specs.State.{Prop, Thing, Plain, Task, Given, Call, Cell, Op, BuiltIn, CallOf, Frame, Pending, CallFrame, Store, Move, Writes, Stops, with_names, with_params}
use Rattle.actx_rules.specs.Related.{World, ExprsAre, no_exprs, more_exprs, ValueIs, undefined_is, truth_is, num_is, text_is, thing_is, ValuesAre, no_values, more_values, ArgumentsAre, PropsAre, no_props, more_props, ChainIs, no_cells, ThingIs, failure_is, closure_is, listed_is, plain_is, get_is, run_is, OpIs, operator_op, log_op, get_op, call_op, Holds, ForValue, ForCompletion, FramesAre, pending_is, call_frame_is, call_away, eval_is, exec_body_is, given_is, given_options, ScopeIs, here, away_call, StoreIs, MoveIs, goes_is, writes_is, stops_is}
use Rattle.actx_rules.specs.Laws.{Laws}
use Rattle.actx_rules.proofs.Same.Growth.{grows_thing, grows_scope, thing_world, scope_world, value_later, chain_later, frames_later, later_thing, later_scope}
use Rattle.actx_rules.proofs.Same.Names.{with_names_is, with_params_is}
use Rattle.actx_rules.proofs.Same.Shown.{AnswerIs, gives_is, throws_is, leaves_is, PlacesAre, places_are, places, line_same, is_line_same, read_is, binary_is}
use Rattle.actx_rules.proofs.Same.Stores.{store_thing, new_place, store_scope, new_chain}
use Rattle.actx_rules.proofs.Same.Variables.{this_is}
use Rattle.actx_rules.proofs.Same.Joins.{Joins, one, arguments_of, throws_rule, gives_rule}
use Rattle.actx_rules.proofs.Same.Methods.{getting, run_called}

pub move_if : (b : Bool) (m m' n n' : Move) → MoveIs m n → MoveIs m' n' → MoveIs (if b then m else m') (if b then n else n')
move_if true m m' n n' h k = h
move_if false m m' n n' h k = k

module _ (w : World) where
  -- ANSWERS, with the scopes and receivers in place
  pub answered_rule : (x y : Answer) (task : Task) (fs gs : List Frame) (s r : Store) → AnswerIs w x y → FramesAre w r.heap r.scopes ForValue fs gs → ScopeIs w task fs s.scope s.receiver r.scope r.receiver → StoreIs w s r → MoveIs (answered x fs s) (answered y gs r)
  answered_rule x y task fs gs s r (gives_is h) f c st = gives_rule w _ _ task fs gs s r h f c st
  answered_rule x y task fs gs s r (throws_is name) f c st = throws_rule w name ForValue task fs gs s r f c st
  answered_rule x y task fs gs s r leaves_is f c st = stops_is Left

  binary_rule : (op : BinaryOp) (xs ys : List Value) (task : Task) (fs gs : List Frame) (s r : Store) → ValuesAre w xs ys → FramesAre w r.heap r.scopes ForValue fs gs → ScopeIs w task fs s.scope s.receiver r.scope r.receiver → StoreIs w s r → MoveIs (operator_rule op xs fs s) (operator_rule op ys gs r)
  binary_rule op xs ys task fs gs s r no_values f c st = stops_is Left
  binary_rule op xs ys task fs gs s r (more_values h no_values) f c st = stops_is Left
  binary_rule op xs ys task fs gs s r (more_values h (more_values k no_values)) f c st = answered_rule _ _ task fs gs s r (binary_is w s.heap r.heap st.heap op _ _ _ _ h k) f c st
  binary_rule op xs ys task fs gs s r (more_values h (more_values k (more_values l t))) f c st = stops_is Left

  get_value_rule : (key : List ℕ) (xs ys : List Value) (task : Task) (fs gs : List Frame) (s r : Store) → ValuesAre w xs ys → FramesAre w r.heap r.scopes ForValue fs gs → ScopeIs w task fs s.scope s.receiver r.scope r.receiver → StoreIs w s r → MoveIs (get_rule key xs fs s) (get_rule key ys gs r)
  get_value_rule key xs ys task fs gs s r no_values f c st = stops_is Left
  get_value_rule key xs ys task fs gs s r (more_values h no_values) f c st = answered_rule _ _ task fs gs s r (read_is w s.heap r.heap st.heap key _ _ h) f c st
  get_value_rule key xs ys task fs gs s r (more_values h (more_values k t)) f c st = stops_is Left

  log_by : (b d : Bool) (l m : List ℕ) (fs gs : List Frame) (s r : Store) → d ≡ b → m ≡ l → FramesAre w r.heap r.scopes ForValue fs gs → ChainIs w s.scope r.scope → ValueIs w s.receiver r.receiver → StoreIs w s r → MoveIs (if b then Writes (Out l) (Given v.Undefined) fs s else Stops Left) (if d then Writes (Out m) (Given v.Undefined) gs r else Stops Left)
  log_by true true l m fs gs s r e line f c o st =
      subst (λ x. MoveIs (Writes (Out l) (Given v.Undefined) fs s) (Writes (Out x) (Given v.Undefined) gs r)) (sym line) (writes_is (Out l) w (given_is undefined_is f) (here c o) st)
  log_by false false l m fs gs s r e line f c o st = stops_is Left
  log_by true false l m fs gs s r e line f c o st = absurd (cc)
  log_by false true l m fs gs s r e line f c o st = absurd (cc)

  log_rule : (xs ys : List Value) (fs gs : List Frame) (s r : Store) → ValuesAre w xs ys → FramesAre w r.heap r.scopes ForValue fs gs → ChainIs w s.scope r.scope → ValueIs w s.receiver r.receiver → StoreIs w s r → MoveIs (log xs fs s) (log ys gs r)
  log_rule xs ys fs gs s r h f c o st =
      log_by (is_line s.heap xs) (is_line r.heap ys) (line_of s.heap xs) (line_of r.heap ys) fs gs s r (is_line_same w s.heap r.heap st.heap xs ys h) (line_same w s.heap r.heap st.heap xs ys h) f c o st

  -- THE OPTIONS OF A VARIABLE
  with_prop_is : (key : List ℕ) (a b : Value) (ps qs : List Prop) → ValueIs w a b → PropsAre w ps qs → PropsAre w (with_prop key a ps) (with_prop key b qs)
  with_prop_is key a b ps qs h no_props = more_props key h no_props
  with_prop_is key a b ps qs h (more_props k {a = x} {b = y} {ps = ps'} {qs = qs'} g t) = by (same_text key k) _ _ (with_prop_is key a b ps' qs' h t)
    where
      by : (equal : Bool) (rs us : List Prop) → PropsAre w rs us → PropsAre w (if equal then record { key = k; value = a } ∷ ps' else record { key = k; value = x } ∷ rs) (if equal then record { key = k; value = b } ∷ qs' else record { key = k; value = y } ∷ us)
      by true rs us u = more_props k h t
      by false rs us u = more_props k g u

  with_props_is : (keys : List (List ℕ)) (xs ys : List Value) (ps qs : List Prop) → ValuesAre w xs ys → PropsAre w ps qs → PropsAre w (with_props keys xs ps) (with_props keys ys qs)
  with_props_is [] xs ys ps qs h g = g
  with_props_is (key ∷ keys) xs ys ps qs no_values g = g
  with_props_is (key ∷ keys) xs ys ps qs (more_values h t) g = with_props_is keys _ _ _ _ t (with_prop_is key _ _ ps qs h g)

  pub object_made : (keys : List (List ℕ)) (xs ys : List Value) (fs gs : List Frame) (s r : Store) → ValuesAre w xs ys → FramesAre w r.heap r.scopes ForValue fs gs → ChainIs w s.scope r.scope → ValueIs w s.receiver r.receiver → StoreIs w s r → MoveIs (object_rule keys xs (Pending (BuiltIn NewVariable) [] t.none ∷ fs) s) (object_rule keys ys (Pending (CallOf v.Undefined) (v.Thing 9 ∷ []) t.none ∷ gs) r)
  object_made keys xs ys fs gs s r h f c o st =
      let w' = thing_world w (length r.heap) false in
      let grows = grows_thing w (length r.heap) false in
      let a = Plain (with_props keys xs []) in
      let b = Plain (with_props keys ys []) in
      move_if (any_proto keys) _ _ _ _ (stops_is Left)
      (goes_is w' (given_options (length s.heap) (length r.heap) (new_place w s r st false) (get_last r.heap b) (frames_later (later_thing w r.heap r.scopes b false) f))
      (here (chain_later w w' grows _ _ c) (value_later w w' grows _ _ o))
      (store_thing w s r st a b false (plain_is (with_props_is keys xs ys [] [] h no_props)) (λ ps e q. absurd (cc))))

-- CALLS
module _ (laws : Laws) (w : World) where
  called : (u x : Value) (vs : List Value) (ds : List Cell) (fs gs : List Frame) (s r : Store) → FramesAre w r.heap r.scopes ForValue fs gs → ScopeIs w (Call u x vs) fs s.scope s.receiver r.scope r.receiver → FramesAre (scope_world w (length r.scopes)) r.heap (r.scopes ++ ds ∷ []) ForCompletion (CallFrame s.scope s.receiver ∷ fs) (CallFrame r.scope r.receiver ∷ gs)
  called u x vs ds fs gs s r f sc = by x fs s.scope s.receiver r.scope r.receiver (frames_later (later_scope w r.heap r.scopes ds) f) sc
    where
      by : (called_on : Value) (fs : List Frame) (b : List ℕ) (x' : Value) (c : List ℕ) (y : Value) → FramesAre (scope_world w (length r.scopes)) r.heap (r.scopes ++ ds ∷ []) ForValue fs gs → ScopeIs w (Call u called_on vs) fs b x' c y → FramesAre (scope_world w (length r.scopes)) r.heap (r.scopes ++ ds ∷ []) ForCompletion (CallFrame b x' ∷ fs) (CallFrame c y ∷ gs)
      by called_on fs b x' c y f (here h k) = call_frame_is (chain_later w _ (grows_scope w (length r.scopes)) _ _ h) (value_later w _ (grows_scope w (length r.scopes)) _ _ k) f
      by called_on fs b x' c y f (away_call _ _ _ _) = call_away b x' c y f

  thing_called : (a b : Thing) (u x y : Value) (vs ws : List Value) (fs gs : List Frame) (s r : Store) → ThingIs w a b → ValueIs w x y → length vs ≤ 8 → ArgumentsAre w vs ws → FramesAre w r.heap r.scopes ForValue fs gs → ScopeIs w (Call u x vs) fs s.scope s.receiver r.scope r.receiver → StoreIs w s r → Joins (length s.mapping) (call_thing Source (Some a) x vs fs s) (call_thing side.Plain (Some b) y ws gs r)
  thing_called a b u x y vs ws fs gs s r (closure_is {xs = xs} {ys = ys} {ss = ss} {ts = ts} n m c o) h long hs f sc st =
      let w' = scope_world w (length r.scopes) in
      let ds = with_names ts (with_params ys ws []) in
      one (length s.mapping) _ _ (goes_is w' (exec_body_is m (called u x vs ds fs gs s r f sc))
      (here (new_chain w s r st _ _ c) (value_later w w' (grows_scope w (length r.scopes)) _ _ o))
      (store_scope w s r st _ _ _ _ _ ds (with_names_is w ss ts _ _ m (with_params_is w xs ys vs ws [] [] n hs no_cells))))
  thing_called a b u x y vs ws fs gs s r (failure_is name) h long hs f sc st = one (length s.mapping) _ _ (throws_rule w TypeError ForValue (Call u x vs) fs gs s r f sc st)
  thing_called a b u x y vs ws fs gs s r (listed_is p q) h long hs f sc st = one (length s.mapping) _ _ (throws_rule w TypeError ForValue (Call u x vs) fs gs s r f sc st)
  thing_called a b u x y vs ws fs gs s r (plain_is p) h long hs f sc st = one (length s.mapping) _ _ (throws_rule w TypeError ForValue (Call u x vs) fs gs s r f sc st)
  thing_called a b u x y vs ws fs gs s r get_is h long hs f sc st = getting laws w _ _ (Call u x vs) y ws fs gs s r st (this_is w s r st x y h) refl f sc
  thing_called a b u x y vs ws fs gs s r run_is h long hs f sc st = run_called laws w u x y vs ws fs gs s r st h long hs f sc

  places_called : (a b : Option Thing) (u x y : Value) (vs ws : List Value) (fs gs : List Frame) (s r : Store) → PlacesAre w a b → ValueIs w x y → length vs ≤ 8 → ArgumentsAre w vs ws → FramesAre w r.heap r.scopes ForValue fs gs → ScopeIs w (Call u x vs) fs s.scope s.receiver r.scope r.receiver → StoreIs w s r → Joins (length s.mapping) (call_thing Source a x vs fs s) (call_thing side.Plain b y ws gs r)
  places_called a b u x y vs ws fs gs s r (places_are p) h long hs f sc st = thing_called _ _ u x y vs ws fs gs s r p h long hs f sc st

  pub value_called : (p q x y : Value) (vs ws : List Value) (fs gs : List Frame) (s r : Store) → ValueIs w p q → ValueIs w x y → length vs ≤ 8 → ArgumentsAre w vs ws → FramesAre w r.heap r.scopes ForValue fs gs → ScopeIs w (Call p x vs) fs s.scope s.receiver r.scope r.receiver → StoreIs w s r → Joins (length s.mapping) (call Source p x vs fs s) (call side.Plain q y ws gs r)
  value_called p q x y vs ws fs gs s r (thing_is k j e _) h long hs f sc st = places_called _ _ p x y vs ws fs gs s r (places w s.heap r.heap st.heap k j e) h long hs f sc st
  value_called p q x y vs ws fs gs s r undefined_is h long hs f sc st = one (length s.mapping) _ _ (throws_rule w TypeError ForValue (Call p x vs) fs gs s r f sc st)
  value_called p q x y vs ws fs gs s r (truth_is b) h long hs f sc st = one (length s.mapping) _ _ (throws_rule w TypeError ForValue (Call p x vs) fs gs s r f sc st)
  value_called p q x y vs ws fs gs s r (num_is z) h long hs f sc st = one (length s.mapping) _ _ (throws_rule w TypeError ForValue (Call p x vs) fs gs s r f sc st)
  value_called p q x y vs ws fs gs s r (text_is u l) h long hs f sc st = one (length s.mapping) _ _ (throws_rule w TypeError ForValue (Call p x vs) fs gs s r f sc st)

  -- OPERATIONS
  rule_rule : (o p : Op) (xs ys : List Value) (fs gs : List Frame) (s r : Store) → OpIs w o p → Holds o (length xs) → ValuesAre w xs ys → FramesAre w r.heap r.scopes ForValue fs gs → ChainIs w s.scope r.scope → ValueIs w s.receiver r.receiver → StoreIs w s r → Joins (length s.mapping) (rule Source o xs fs s) (rule side.Plain p ys gs r)
  rule_rule o p xs ys fs gs s r (operator_op op) l h f c k st = one (length s.mapping) _ _ (binary_rule w op xs ys (Given v.Undefined) fs gs s r h f (here c k) st)
  rule_rule o p xs ys fs gs s r log_op l h f c k st = one (length s.mapping) _ _ (log_rule w xs ys fs gs s r h f c k st)
  rule_rule o p xs ys fs gs s r (get_op key) l h f c k st = one (length s.mapping) _ _ (get_value_rule w key xs ys (Given v.Undefined) fs gs s r h f (here c k) st)
  rule_rule o p xs ys fs gs s r (call_op g) l no_values f c k st = one (length s.mapping) _ _ (stops_is Left)
  rule_rule o p xs ys fs gs s r (call_op g) l (more_values h t) f c k st = value_called _ _ _ _ _ _ fs gs s r h g (omega (arith, l)) (arguments_of w _ _ t) f (here c k) st

  pub parts_rule : (o p : Op) (xs ys : List Value) (es ds : Exprs) (fs gs : List Frame) (s r : Store) → OpIs w o p → Holds o (length xs + count es) → ValuesAre w xs ys → ExprsAre es ds → FramesAre w r.heap r.scopes ForValue fs gs → ChainIs w s.scope r.scope → ValueIs w s.receiver r.receiver → StoreIs w s r → Joins (length s.mapping) (eval_parts Source o xs es fs s) (eval_parts side.Plain p ys ds gs r)
  parts_rule o p xs ys es ds fs gs s r q l h no_exprs f c k st = rule_rule o p xs ys fs gs s r q (holds o (length xs) l) h f c k st
    where
      holds : (o : Op) (n : ℕ) → Holds o (n + 0) → Holds o n
      holds o n l = subst (Holds o) (omega arith) l
  parts_rule o p xs ys es ds fs gs s r q l h (more_exprs {es = es'} e t) f c k st = one (length s.mapping) _ _ (goes_is w (eval_is e (pending_is q (holds o (length xs) (count es') l) h t f)) (here c k) st)
    where
      holds : (o : Op) (n m : ℕ) → Holds o (n + suc m) → Holds o (suc (n + m))
      holds o n m l = subst (Holds o) (omega arith) l
