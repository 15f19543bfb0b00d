-- The rows: from related states both sides make moves that lead to related states.
use Rattle.std.proofs.Common.{◌≡◌, ℕ, suc, ◌*◌, ◌≤◌, Bool, true, false, List, [], ◌∷◌, length, Option, Some, refl, sym, ap, subst, arith}
use Rattle.std.proofs.Math.Dec.{leb-zero}
use Rattle.std.specs.Prelude.{pos, nat_le, ◌&&◌, if◌then◌else◌}
use Rattle.actx_match.specs.Runs.{run}
use Rattle.actx_data.specs.Number.{greatest}
use Rattle.actx_data.specs.declared.end.End.TheVariants.{Left}
use Rattle.actx_data.specs.declared.shown.ErrorName.TheVariants.{ReferenceError}
use Rattle.actx_data.specs.declared.trace.TraceEvent.{TraceEvent}
use Rattle.actx_data.specs.declared.value.Value.{Value}
use Rattle.actx_data.specs.declared.value.Value.TheVariants as v
use Rattle.actx_grammar.specs.declared.side.Side.TheVariants.{Source}
use Rattle.actx_grammar.specs.declared.side.Side.TheVariants as side
use Rattle.actx_grammar.specs.declared.operators.FunctionKind.TheVariants.{Arrow as arrow_kind}
use Rattle.actx_grammar.specs.declared.operators.Form.TheVariants.{Log, NewVariable}
use Rattle.actx_grammar.specs.Grammar.{count}
use Rattle.actx_grammar.specs.ParserOperands.{suits}
use Rattle.actx_grammar.specs.Tree as t
use Rattle.actx_grammar.specs.Tree.{Expr, Exprs, Properties, ConstItems, Stmt, Stmts}
use Rattle.actx_rules.specs.Prelude.{name_variable}
use Rattle.actx_rules.specs.Machine.{read_cell, call_thing, call, eval_parts, keys_of, are_fixed, values_of, eval, begin_item, exec, exec_list, exec_body, next_statement, takes, step}
use Rattle.actx_rules.specs.State.{Normal, Cell, Closure, Eval, Given, Done, CallOf, BuiltIn, MakeObject, Frame, Pending, Store, Move, Goes, Stops, with_names}
use Rattle.actx_rules.specs.Related.{World, ExprIs, num_expr, text_expr, undefined_expr, named_expr, binary_expr, member_expr, call_expr, arrow_expr, log_expr, variable_expr, options_expr, ExprsAre, no_exprs, more_exprs, PropertiesAre, no_properties_are, more_properties, ItemsAre, no_items_are, more_items, StmtIs, const_stmt, value_stmt, return_stmt, return_nothing_stmt, StmtsAre, no_stmts, more_stmts, ValueIs, undefined_is, num_is, text_is, ValuesAre, no_values, none_is, some_is, normal_is, return_is, ChainIs, no_cells, closure_is, variable_thing_of, operator_op, log_op, get_op, call_op, StoreIs, ForValue, ForCompletion, FramesAre, pending_is, base_is, options_are, const_is, value_frame_is, return_frame_is, list_is, fits_any, eval_is, eval_options, exec_is, given_is, done_is, here, Related, MoveIs, goes_is, stops_is}
use Rattle.actx_rules.specs.Laws.{Laws}
use Rattle.actx_rules.proofs.Same.Growth.{grows_thing, grows_scope, thing_world, scope_world, value_later, chain_later, frames_later, later_thing, later_scope}
use Rattle.actx_rules.proofs.Same.Names.{FoundIs, not_found, found, find_is, find_variable, with_names_is}
use Rattle.actx_rules.proofs.Same.Stores.{store_thing, new_value, store_scope, new_chain, store_moved}
use Rattle.actx_rules.proofs.Same.Joins.{Joins, one, throws_rule}
use Rattle.actx_rules.proofs.Same.Making.{alone}
use Rattle.actx_rules.proofs.Same.Calls.{move_if, object_made, parts_rule}

-- a move of the source, and a move of the target with at most two steps more than `Joins` has
pub record Reaches (n : ℕ) (m m' : Move) : Type 0 where
  pub count : ℕ
  pub kept : (tr : List TraceEvent) → Related (takes m tr) (run (step side.Plain) count (takes m' tr))
  pub within : count ≤ 1002 * suc n

pub reached : (n : ℕ) (m m' : Move) → Joins n m m' → Reaches n m m'
reached n m m' j = record { count = j.count; kept = j.kept; within = let within = j.within in omega (arith, within) }

pub reached_by : (n : ℕ) (m m' : Move) → MoveIs m m' → Reaches n m m'
reached_by n m m' h = reached n m m' (one n m m' h)

-- a form with any number of parts
log_suits : (n : ℕ) → suits Log n ≡ true
log_suits n = ap (λ b. b && true) (leb-zero n)

either_way : (b d : Bool) (n : ℕ) (m m' : Move) → b ≡ true → d ≡ true → Reaches n m m' → Reaches n (if b then m else Stops Left) (if d then m' else Stops Left)
either_way true true n m m' p q h = h
either_way false d n m m' p q h = absurd (cc)
either_way true false n m m' p q h = absurd (cc)

keys_same : (ps qs : Properties) → PropertiesAre ps qs → keys_of qs ≡ keys_of ps
keys_same ps qs no_properties_are = refl
keys_same ps qs (more_properties key e t) = ap (λ ks. key ∷ ks) (keys_same _ _ t)

fixed_same : (ps qs : Properties) → PropertiesAre ps qs → are_fixed qs ≡ are_fixed ps
fixed_same ps qs no_properties_are = refl
fixed_same ps qs (more_properties key e t) = fixed_same _ _ t

or_left : (b d : Bool) (m n : Move) → d ≡ b → MoveIs m n → MoveIs (if b then m else Stops Left) (if d then n else Stops Left)
or_left true true m n e h = h
or_left false false m n e h = stops_is Left
or_left true false m n e h = absurd (cc)
or_left false true m n e h = absurd (cc)

values_are : (ps qs : Properties) → PropertiesAre ps qs → ExprsAre (values_of ps) (values_of qs)
values_are ps qs no_properties_are = no_exprs
values_are ps qs (more_properties key e t) = more_exprs e (values_are _ _ t)

module _ (laws : Laws) (w : World) where
  -- NAMES
  cell_rule : (a b : Option Cell) (fs gs : List Frame) (s r : Store) → FoundIs w a b → FramesAre w r.heap r.scopes ForValue fs gs → ChainIs w s.scope r.scope → ValueIs w s.receiver r.receiver → StoreIs w s r → MoveIs (read_cell a fs s) (read_cell b gs r)
  cell_rule a b fs gs s r not_found f c o st = stops_is Left
  cell_rule a b fs gs s r (found x constant none_is) f c o st = throws_rule w ReferenceError ForValue (Given v.Undefined) fs gs s r f (here c o) st
  cell_rule a b fs gs s r (found x constant (some_is h)) f c o st = goes_is w (given_is h f) (here c o) st

  -- the prelude's function is looked up before it is called
  looked_up : (n : ℕ) (m : Move) (ds : Exprs) (gs : List Frame) (s r : Store) → ChainIs w s.scope r.scope → StoreIs w s r → Joins n m (eval_parts side.Plain (CallOf v.Undefined) (v.Thing 9 ∷ []) ds gs r) → Reaches n m (Goes (Eval (t.Named name_variable)) (Pending (CallOf v.Undefined) [] ds ∷ gs) r)
  looked_up n m ds gs s r c st j =
      record {
        count = suc (suc j.count);
        kept = λ tr. subst (λ o. Related (takes m tr) (run (step side.Plain) (suc j.count) (takes (read_cell o (Pending (CallOf v.Undefined) [] ds ∷ gs) r) tr))) (sym (find_variable w s.scopes r.scopes st.scopes st.top s.scope r.scope c)) (j.kept tr);
        within = let within = j.within in omega (arith, within);
      }

  -- EXPRESSIONS
  -- what is called and is no property is evaluated first
  callee_rule : (e d : Expr) (es ds : Exprs) (fs gs : List Frame) (s r : Store) → count es ≤ 8 → ExprIs e d → ExprsAre es ds → FramesAre w r.heap r.scopes ForValue fs gs → ChainIs w s.scope r.scope → ValueIs w s.receiver r.receiver → StoreIs w s r → MoveIs (eval Source (t.Call e es) fs s) (eval side.Plain (t.Call d ds) gs r)
  callee_rule e d es ds fs gs s r l (num_expr n) m f c o st = goes_is w (eval_is (num_expr n) (pending_is (call_op undefined_is) (omega (arith, l)) no_values m f)) (here c o) st
  callee_rule e d es ds fs gs s r l (text_expr u q) m f c o st = goes_is w (eval_is (text_expr u q) (pending_is (call_op undefined_is) (omega (arith, l)) no_values m f)) (here c o) st
  callee_rule e d es ds fs gs s r l undefined_expr m f c o st = goes_is w (eval_is undefined_expr (pending_is (call_op undefined_is) (omega (arith, l)) no_values m f)) (here c o) st
  callee_rule e d es ds fs gs s r l (named_expr x) m f c o st = goes_is w (eval_is (named_expr x) (pending_is (call_op undefined_is) (omega (arith, l)) no_values m f)) (here c o) st
  callee_rule e d es ds fs gs s r l (binary_expr op a b) m f c o st = goes_is w (eval_is (binary_expr op a b) (pending_is (call_op undefined_is) (omega (arith, l)) no_values m f)) (here c o) st
  callee_rule e d es ds fs gs s r l (member_expr key k x) m f c o st = goes_is w (eval_is x (base_is key l m f)) (here c o) st
  callee_rule e d es ds fs gs s r l (call_expr q x y) m f c o st = goes_is w (eval_is (call_expr q x y) (pending_is (call_op undefined_is) (omega (arith, l)) no_values m f)) (here c o) st
  callee_rule e d es ds fs gs s r l (arrow_expr x y) m f c o st = goes_is w (eval_is (arrow_expr x y) (pending_is (call_op undefined_is) (omega (arith, l)) no_values m f)) (here c o) st
  callee_rule e d es ds fs gs s r l (log_expr x) m f c o st = goes_is w (eval_is (log_expr x) (pending_is (call_op undefined_is) (omega (arith, l)) no_values m f)) (here c o) st
  callee_rule e d es ds fs gs s r l variable_expr m f c o st = goes_is w (eval_is variable_expr (pending_is (call_op undefined_is) (omega (arith, l)) no_values m f)) (here c o) st
  callee_rule e d es ds fs gs s r l (options_expr x) m f c o st = goes_is w (eval_is (options_expr x) (pending_is (call_op undefined_is) (omega (arith, l)) no_values m f)) (here c o) st

  pub variable_called : (n : ℕ) (m : Move) (ws : List Value) (gs : List Frame) (s r : Store) → StoreIs w s r → Joins n m (call_thing side.Plain (Some variable_thing_of) v.Undefined ws gs r) → Joins n m (call side.Plain (v.Thing 9) v.Undefined ws gs r)
  variable_called n m ws gs s r st j = subst (λ o. Joins n m (call_thing side.Plain o v.Undefined ws gs r)) (sym st.prelude.variable_at) j

  pub eval_rule : (e d : Expr) (fs gs : List Frame) (s r : Store) → ExprIs e d → FramesAre w r.heap r.scopes ForValue fs gs → ChainIs w s.scope r.scope → ValueIs w s.receiver r.receiver → StoreIs w s r → Reaches (length s.mapping) (eval Source e fs s) (eval side.Plain d gs r)
  eval_rule e d fs gs s r (num_expr n) f c o st = reached_by (length s.mapping) _ _ (move_if (nat_le n greatest) _ _ _ _ (goes_is w (given_is (num_is (pos n)) f) (here c o) st) (stops_is Left))
  eval_rule e d fs gs s r (text_expr u l) f c o st = reached_by (length s.mapping) _ _ (goes_is w (given_is (text_is u l) f) (here c o) st)
  eval_rule e d fs gs s r undefined_expr f c o st = reached_by (length s.mapping) _ _ (goes_is w (given_is undefined_is f) (here c o) st)
  eval_rule e d fs gs s r (named_expr x) f c o st = reached_by (length s.mapping) _ _ (cell_rule _ _ fs gs s r (find_is w s.scopes r.scopes st.scopes x s.scope r.scope c) f c o st)
  eval_rule e d fs gs s r (binary_expr op a b) f c o st = reached_by (length s.mapping) _ _ (goes_is w (eval_is a (pending_is (operator_op op) tt no_values (more_exprs b no_exprs) f)) (here c o) st)
  eval_rule e d fs gs s r (member_expr key k x) f c o st = reached_by (length s.mapping) _ _ (goes_is w (eval_is x (pending_is (get_op key) tt no_values no_exprs f)) (here c o) st)
  eval_rule e d fs gs s r (call_expr l x m) f c o st = reached_by (length s.mapping) _ _ (callee_rule _ _ _ _ fs gs s r l x m f c o st)
  eval_rule e d fs gs s r (arrow_expr {xs = xs} {ys = ys} {ss = ss} {ts = ts} n m) f c o st =
      let w' = thing_world w (length r.heap) true in
      let a = Closure arrow_kind xs ss s.scope s.receiver in
      let b = Closure arrow_kind ys ts r.scope r.receiver in
      let grows = grows_thing w (length r.heap) true in
      reached_by (length s.mapping) _ _ (goes_is w' (given_is (new_value w s r st) (frames_later (later_thing w r.heap r.scopes b true) f))
      (here (chain_later w w' grows _ _ c) (value_later w w' grows _ _ o))
      (store_thing w s r st a b true (closure_is n m c o) (λ ps e. absurd (cc))))
  eval_rule e d fs gs s r (log_expr {es = es} {ds = ds} m) f c o st = either_way (suits Log (count es)) (suits Log (count ds)) (length s.mapping) _ _ (log_suits (count es)) (log_suits (count ds)) (reached (length s.mapping) _ _ (parts_rule laws w _ _ [] [] _ _ fs gs s r log_op tt no_values m f c o st))
  eval_rule e d fs gs s r variable_expr f c o st = looked_up (length s.mapping) _ t.none gs s r c st (variable_called (length s.mapping) _ [] gs s r st (alone laws w (Given v.Undefined) fs gs s r st f (here c o)))
  eval_rule e d fs gs s r (options_expr {ps = ps} {qs = qs} m) f c o st =
      looked_up (length s.mapping) _ (t.also (t.Object qs) t.none) gs s r c st (one (length s.mapping) _ _ (goes_is w (eval_options m f) (here c o) st))

  -- the options of a variable
  options_begun : (ps qs : Properties) (fs gs : List Frame) (s r : Store) → PropertiesAre ps qs → FramesAre w r.heap r.scopes ForValue fs gs → ChainIs w s.scope r.scope → ValueIs w s.receiver r.receiver → StoreIs w s r → MoveIs (eval_parts Source (MakeObject (keys_of ps)) [] (values_of ps) (Pending (BuiltIn NewVariable) [] t.none ∷ fs) s) (eval_parts side.Plain (MakeObject (keys_of qs)) [] (values_of qs) (Pending (CallOf v.Undefined) (v.Thing 9 ∷ []) t.none ∷ gs) r)
  options_begun ps qs fs gs s r no_properties_are f c o st = object_made w [] [] [] fs gs s r no_values f c o st
  options_begun ps qs fs gs s r (more_properties key {e = e} {d = d} {ps = ps'} {qs = qs'} x m) f c o st =
      subst (λ keys. MoveIs (Goes (Eval e) (Pending (MakeObject (key ∷ keys_of ps')) [] (values_of ps') ∷ Pending (BuiltIn NewVariable) [] t.none ∷ fs) s) (Goes (Eval d) (Pending (MakeObject (key ∷ keys)) [] (values_of qs') ∷ Pending (CallOf v.Undefined) (v.Thing 9 ∷ []) t.none ∷ gs) r)) (sym (keys_same ps' qs' m))
      (goes_is w (eval_is x (options_are (key ∷ keys_of ps') no_values (values_are ps' qs' m) f)) (here c o) st)

  pub options_rule : (ps qs : Properties) (fs gs : List Frame) (s r : Store) → PropertiesAre ps qs → FramesAre w r.heap r.scopes ForValue fs gs → ChainIs w s.scope r.scope → ValueIs w s.receiver r.receiver → StoreIs w s r → MoveIs (eval Source (t.Object ps) (Pending (BuiltIn NewVariable) [] t.none ∷ fs) s) (eval side.Plain (t.Object qs) (Pending (CallOf v.Undefined) (v.Thing 9 ∷ []) t.none ∷ gs) r)
  options_rule ps qs fs gs s r m f c o st = or_left (are_fixed ps) (are_fixed qs) _ _ (fixed_same ps qs m) (options_begun ps qs fs gs s r m f c o st)

  pub object_parts : (keys : List (List ℕ)) (xs ys : List Value) (es ds : Exprs) (fs gs : List Frame) (s r : Store) → ValuesAre w xs ys → ExprsAre es ds → FramesAre w r.heap r.scopes ForValue fs gs → ChainIs w s.scope r.scope → ValueIs w s.receiver r.receiver → StoreIs w s r → MoveIs (eval_parts Source (MakeObject keys) xs es (Pending (BuiltIn NewVariable) [] t.none ∷ fs) s) (eval_parts side.Plain (MakeObject keys) ys ds (Pending (CallOf v.Undefined) (v.Thing 9 ∷ []) t.none ∷ gs) r)
  object_parts keys xs ys es ds fs gs s r h no_exprs f c o st = object_made w keys xs ys fs gs s r h f c o st
  object_parts keys xs ys es ds fs gs s r h (more_exprs e m) f c o st = goes_is w (eval_is e (options_are keys h m f)) (here c o) st

  -- STATEMENTS
  pub normal_rule : (fs gs : List Frame) (s r : Store) → FramesAre w r.heap r.scopes ForCompletion fs gs → ChainIs w s.scope r.scope → ValueIs w s.receiver r.receiver → StoreIs w s r → MoveIs (Goes (Done Normal) fs s) (Goes (Done Normal) gs r)
  normal_rule fs gs s r f c o st = goes_is w (done_is ForCompletion (fits_any Normal) normal_is f) (here c o) st

  pub item_rule : (is js : ConstItems) (fs gs : List Frame) (s r : Store) → ItemsAre is js → FramesAre w r.heap r.scopes ForCompletion fs gs → ChainIs w s.scope r.scope → ValueIs w s.receiver r.receiver → StoreIs w s r → MoveIs (begin_item is fs s) (begin_item js gs r)
  item_rule is js fs gs s r no_items_are f c o st = normal_rule fs gs s r f c o st
  item_rule is js fs gs s r (more_items x e m) f c o st = goes_is w (eval_is e (const_is x m f)) (here c o) st

  pub exec_rule : (x y : Stmt) (fs gs : List Frame) (s r : Store) → StmtIs x y → FramesAre w r.heap r.scopes ForCompletion fs gs → ChainIs w s.scope r.scope → ValueIs w s.receiver r.receiver → StoreIs w s r → MoveIs (exec x fs s) (exec y gs r)
  exec_rule x y fs gs s r (const_stmt is) f c o st = item_rule _ _ fs gs s r is f c o st
  exec_rule x y fs gs s r (value_stmt e) f c o st = goes_is w (eval_is e (value_frame_is f)) (here c o) st
  exec_rule x y fs gs s r (return_stmt e) f c o st = goes_is w (eval_is e (return_frame_is f)) (here c o) st
  exec_rule x y fs gs s r return_nothing_stmt f c o st = goes_is w (done_is ForCompletion (fits_any _) (return_is undefined_is) f) (here c o) st

  pub list_rule : (ss ts : Stmts) (fs gs : List Frame) (s r : Store) → StmtsAre ss ts → FramesAre w r.heap r.scopes ForCompletion fs gs → ChainIs w s.scope r.scope → ValueIs w s.receiver r.receiver → StoreIs w s r → MoveIs (exec_list ss fs s) (exec_list ts gs r)
  list_rule ss ts fs gs s r no_stmts f c o st = normal_rule fs gs s r f c o st
  list_rule ss ts fs gs s r (more_stmts x m) f c o st =
      let w' = scope_world w (length r.scopes) in
      let grows = grows_scope w (length r.scopes) in
      let ds = with_names ts [] in
      goes_is w' (exec_is x (list_is m (chain_later w w' grows _ _ c) (frames_later (later_scope w r.heap r.scopes ds) f)))
      (here (new_chain w s r st _ _ c) (value_later w w' grows _ _ o))
      (store_scope w s r st _ _ _ _ _ ds (with_names_is w ss ts [] [] (more_stmts x m) no_cells))

  pub body_rule : (ss ts : Stmts) (fs gs : List Frame) (s r : Store) → StmtsAre ss ts → FramesAre w r.heap r.scopes ForCompletion fs gs → ChainIs w s.scope r.scope → ValueIs w s.receiver r.receiver → StoreIs w s r → MoveIs (exec_body ss fs s) (exec_body ts gs r)
  body_rule ss ts fs gs s r no_stmts f c o st = normal_rule fs gs s r f c o st
  body_rule ss ts fs gs s r (more_stmts x m) f c o st = goes_is w (exec_is x (list_is m c f)) (here c o) st

  pub next_rule : (ss ts : Stmts) (a b : List ℕ) (fs gs : List Frame) (s r : Store) → StmtsAre ss ts → ChainIs w a b → FramesAre w r.heap r.scopes ForCompletion fs gs → ChainIs w s.scope r.scope → ValueIs w s.receiver r.receiver → StoreIs w s r → MoveIs (next_statement ss a fs s) (next_statement ts b gs r)
  next_rule ss ts a b fs gs s r no_stmts k f c o st = goes_is w (done_is ForCompletion (fits_any Normal) normal_is f) (here k o) (store_moved w s r st a b s.receiver r.receiver)
  next_rule ss ts a b fs gs s r (more_stmts x m) k f c o st = goes_is w (exec_is x (list_is m k f)) (here c o) st
