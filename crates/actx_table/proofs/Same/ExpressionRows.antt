-- The rows of expressions: what is evaluated, and what the values of all children give.
use Rattle.std.proofs.Common.{◌≡◌, ℕ, suc, ◌+◌, ◌*◌, ◌≤◌, Bool, true, false, List, [], ◌∷◌, length, Some, None, refl, sym, ap, subst, arith}
use Rattle.std.proofs.lemmas.Bool.{leb-true}
use Rattle.std.specs.Prelude.{pos, nat_le, ◌&&◌, if◌then◌else◌}
use Rattle.actx_match.specs.Runs.{run}
use Rattle.actx_data.specs.Number.{greatest}
use Rattle.actx_data.specs.declared.end.End.TheVariants.{Left}
use Rattle.actx_data.specs.declared.trace.TraceEvent.{TraceEvent}
use Rattle.actx_data.specs.declared.value.Value.{Value}
use Rattle.actx_data.specs.declared.value.Value.TheVariants as v
use Rattle.actx_grammar.specs.declared.operators.Form.TheVariants.{Log, NewVariable, NewError}
use Rattle.actx_grammar.specs.declared.side.Side.TheVariants.{Source, Plain}
use Rattle.actx_grammar.specs.Grammar.{count}
use Rattle.actx_grammar.specs.ParserOperands.{suits}
use Rattle.actx_grammar.specs.Tree as t
use Rattle.actx_grammar.specs.Tree.{Code, Expr, Exprs, Key, Properties}
use Rattle.actx_table.specs.Answers.{code_in}
use Rattle.actx_table.specs.Expressions.{with_read, call, call_code, rule, eval_parts, eval_member, eval_set_member, eval_call, keys_of, parts_of, eval_function, eval}
use Rattle.actx_table.specs.Low.{p_}
use Rattle.actx_table.specs.Machine.{takes, step}
use Rattle.actx_table.specs.Prelude.{name_variable}
use Rattle.actx_table.specs.Related.{World, undefined_is, null_is, truth_is, num_is, text_is, ValuesAre, no_values, more_values, closure_is, OpIs, prefix_op, infix_op, log_op, error_op, set_op, read_op, write_op, object_op, call_op, Holds, ForValue, pending_is, options_is, bracket_read, bracket_write, logic_is, choice_is, change_is, base_is, Related, here, MoveIs, stops_is}
use Rattle.actx_table.specs.Renamed.{normal_runs, arrow_runs, no_name, some_name, ExprIs, num_expr, text_expr, truth_expr, null_expr, undefined_expr, this_expr, named_expr, unary_expr, binary_expr, logic_expr, choice_expr, set_name_expr, set_member_expr, change_expr, bump_expr, member_expr, call_expr, object_expr, function_expr, log_expr, error_expr, variable_expr, KeyIs, dot_key, bracket_key, index_key, ExprsAre, no_exprs, more_exprs, PropertiesAre, no_properties_are, fixed_property, computed_property, CodeIs, code_is}
use Rattle.actx_table.specs.State.{Eval, Given, Op, BuiltIn, MakeObject, CallOf, Frame, Pending, ChangeFrame, Store, Move, Goes, Stops}
use Rattle.actx_table.specs.Laws.{Laws}
use Rattle.actx_table.proofs.Same.Names.{find_variable}
use Rattle.actx_table.proofs.Same.EnteredRows.{named_function}
use Rattle.actx_table.proofs.Same.Joins.{Joins, taken, one, arguments_of}
use Rattle.actx_table.proofs.Same.At.{At, onto, evals, gives_at}
use Rattle.actx_table.proofs.Same.Making.{variable_rule}
use Rattle.actx_table.proofs.Same.Calls.{value_called}
use Rattle.actx_table.proofs.Same.ValueRows.{makes_at, name_read, name_bumped, unary_at, binary_at, set_rule_at, read_at, write_at, object_at, error_at, log_at}

-- a move of the target that comes some steps later
pub after : (k n : ℕ) (m m' m2 : Move) → k ≤ 1000 → ((tr : List TraceEvent) → run (step Plain) k (takes m' tr) ≡ takes m2 tr) → MoveIs m m2 → Joins n m m'
after k n m m' m2 few e h = record { count = k; kept = λ tr. subst (Related (takes m tr)) (sym (e tr)) (taken m m2 tr h); within = omega (arith, few) }

-- a move of the source, and a move of the target with at most two steps more than `Joins` has
pub record Reaches (n : ℕ) (m m' : Move) : Type 0 where
  pub count : ℕ
  pub kept : (tr : List TraceEvent) → Related (takes m tr) (run (step Plain) count (takes m' tr))
  pub within : count ≤ 1002 * suc n

pub reached : (n : ℕ) (m m' : Move) → Joins n m m' → Reaches n m m'
reached n m m' j = record { count = j.count; kept = j.kept; within = let within = j.within in omega (arith, within) }

pub reached_by : (n : ℕ) (m m' : Move) → MoveIs m m' → Reaches n m m'
reached_by n m m' h = reached n m m' (one n m m' h)

-- a number of parts that a form takes, or doesn't
count_same : (es ds : Exprs) → ExprsAre es ds → count ds ≡ count es
count_same es ds no_exprs = refl
count_same es ds (more_exprs x m) = ap suc (count_same _ _ m)

and_right : (a b : Bool) → a && b ≡ true → b ≡ true
and_right true b e = e
and_right false b e = absurd (cc)

few_parts : (n : ℕ) → suits NewVariable n ≡ true → n ≤ 1
few_parts n e = leb-true n 1 (and_right (nat_le 0 n) (nat_le n 1) e)

either_way : (b d : Bool) (n : ℕ) (m m' : Move) → d ≡ b → Reaches n m m' → Reaches n (if b then m else Stops Left) (if d then m' else Stops Left)
either_way true true n m m' q h = h
either_way false false n m m' q h = reached_by n _ _ (stops_is Left)
either_way false true n m m' q h = absurd (cc)
either_way true false n m m' q h = absurd (cc)

taken_way : (b : Bool) (n : ℕ) (m m' : Move) → b ≡ true → Reaches n m m' → Reaches n (if b then m else Stops Left) m'
taken_way true n m m' q h = h
taken_way false n m m' q h = absurd (cc)

number_at : {w : World} (b : Bool) (n : ℕ) {fs gs : List Frame} {s r : Store} → At w ForValue fs gs s r → MoveIs (if b then Goes (Given (v.Num (pos n))) fs s else Stops Left) (if b then Goes (Given (v.Num (pos n))) gs r else Stops Left)
number_at true n h = gives_at (num_is (pos n)) h
number_at false n h = stops_is Left

-- OBJECTS
keys_same : (ps qs : Properties) → PropertiesAre ps qs → keys_of qs ≡ keys_of ps
keys_same ps qs no_properties_are = refl
keys_same ps qs (fixed_property key e t) = ap (λ ks. Some key ∷ ks) (keys_same _ _ t)
keys_same ps qs (computed_property k e t) = ap (λ ks. None ∷ ks) (keys_same _ _ t)

parts_are : (ps qs : Properties) → PropertiesAre ps qs → ExprsAre (parts_of ps) (parts_of qs)
parts_are ps qs no_properties_are = no_exprs
parts_are ps qs (fixed_property key e t) = more_exprs e (parts_are _ _ t)
parts_are ps qs (computed_property k e t) = more_exprs k (more_exprs e (parts_are _ _ t))

module _ (laws : Laws) {w : World} where
  -- ALL CHILDREN ARE THERE
  rule_at : {o p : Op} {xs ys : List Value} {fs gs : List Frame} {s r : Store} → OpIs w o p → Holds o (length xs) → ValuesAre w xs ys → At w ForValue fs gs s r → Joins (length s.mapping) (rule Source o xs fs s) (rule Plain p ys gs r)
  rule_at {s = s} (prefix_op op) l x h = one (length s.mapping) _ _ (unary_at op x h)
  rule_at {s = s} (infix_op op) l x h = one (length s.mapping) _ _ (binary_at op x h)
  rule_at {s = s} log_op l x h = one (length s.mapping) _ _ (log_at x h)
  rule_at {s = s} (error_op name) l x h = one (length s.mapping) _ _ (error_at name x h)
  rule_at {s = s} (set_op x) l v h = one (length s.mapping) _ _ (set_rule_at x v h)
  rule_at {s = s} (read_op key) l x h = one (length s.mapping) _ _ (read_at key x h)
  rule_at {s = s} (write_op key) l x h = one (length s.mapping) _ _ (write_at key x h)
  rule_at {s = s} (object_op keys) l x h = one (length s.mapping) _ _ (object_at keys x h)
  rule_at {s = s} (call_op g) l no_values h = one (length s.mapping) _ _ (stops_is Left)
  rule_at {fs = fs} {gs = gs} {s = s} {r = r} (call_op g) l (more_values x t) h = value_called laws w _ _ _ _ _ _ fs gs s r x g (omega (arith, l)) (arguments_of w _ _ t) h.frames (here h.chain h.receiver) h.store

  pub parts_at : {o p : Op} {xs ys : List Value} {es ds : Exprs} {fs gs : List Frame} {s r : Store} → OpIs w o p → Holds o (length xs + count es) → ValuesAre w xs ys → ExprsAre es ds → At w ForValue fs gs s r → Joins (length s.mapping) (eval_parts Source o xs es fs s) (eval_parts Plain p ys ds gs r)
  parts_at {o = o} {xs = xs} q l x no_exprs h = rule_at q (holds o (length xs) l) x h
    where
      holds : (o : Op) (n : ℕ) → Holds o (n + 0) → Holds o n
      holds o n l = subst (Holds o) (omega arith) l
  parts_at {o = o} {xs = xs} {s = s} q l x (more_exprs {es = es} e m) h = one (length s.mapping) _ _ (evals e (onto h (pending_is q (holds o (length xs) (count es) l) x m h.frames)))
    where
      holds : (o : Op) (n k : ℕ) → Holds o (n + suc k) → Holds o (suc (n + k))
      holds o n k l = subst (Holds o) (omega arith) l

  -- THE PART OF A VARIABLE'S CONSTRUCTOR
  variable_called : {xs ys : List Value} {fs gs : List Frame} {s r : Store} → length xs ≤ 1 → ValuesAre w xs ys → At w ForValue fs gs s r → Joins (length s.mapping) (rule Source (BuiltIn NewVariable) xs fs s) (call Plain (v.Thing (9 + w.before)) v.Undefined ys gs r)
  variable_called {xs = xs} {ys = ys} {fs = fs} {gs = gs} {s = s} {r = r} l x h =
      subst (λ o. Joins (length s.mapping) (rule Source (BuiltIn NewVariable) xs fs s) (call_code Plain (code_in o) v.Undefined ys gs r)) (sym h.store.prelude.variable_at) (variable_rule laws w (Given v.Undefined) fs gs s r h.store h.frames (here h.chain h.receiver) xs ys l x)

  pub variable_parts : {xs ys : List Value} {es ds : Exprs} {fs gs : List Frame} {s r : Store} → length xs + count es ≤ 1 → ValuesAre w xs ys → ExprsAre es ds → At w ForValue fs gs s r → Joins (length s.mapping) (eval_parts Source (BuiltIn NewVariable) xs es fs s) (eval_parts Plain (CallOf v.Undefined) (v.Thing (9 + w.before) ∷ ys) ds gs r)
  variable_parts l x no_exprs h = variable_called (omega (arith, l)) x h
  variable_parts {s = s} l x (more_exprs e m) h = one (length s.mapping) _ _ (evals e (onto h (options_is (omega (arith, l)) x m h.frames)))

  -- the prelude's function is looked up before it is called
  looked_up : (n : ℕ) (m : Move) (ds : Exprs) {fs gs : List Frame} {s r : Store} → At w ForValue fs gs s r → Joins n m (eval_parts Plain (CallOf v.Undefined) (v.Thing (9 + w.before) ∷ []) ds gs r) → Reaches n m (Goes (Eval (t.Named name_variable)) (Pending (CallOf v.Undefined) [] ds ∷ gs) r)
  looked_up n m ds {gs = gs} {s = s} {r = r} h j =
      let f = find_variable w s.scopes r.scopes h.store.scopes h.store.top s.scope r.scope h.chain in
      record {
        count = suc (suc j.count);
        kept = λ tr. subst (λ o. Related (takes m tr) (run (step Plain) (suc j.count) (takes (with_read o (λ a. Goes (Given a) (Pending (CallOf v.Undefined) [] ds ∷ gs) r) (Pending (CallOf v.Undefined) [] ds ∷ gs) r) tr))) (sym f.1) (j.kept tr);
        within = let within = j.within in omega (arith, within);
      }

  -- MEMBERS
  member_at : {e d : Expr} {key lock : Key} {fs gs : List Frame} {s r : Store} → ExprIs e d → KeyIs key lock → At w ForValue fs gs s r → Joins (length s.mapping) (eval_member Source e key fs s) (eval_member Plain d lock gs r)
  member_at e (dot_key x) h = parts_at (read_op (Some x)) tt no_values (more_exprs e no_exprs) h
  member_at {s = s} e (bracket_key x) h = one (length s.mapping) _ _ (evals e (onto h (bracket_read x h.frames)))
  member_at e (index_key k) h = parts_at (read_op None) tt no_values (more_exprs e (more_exprs k no_exprs)) h

  set_member_at : {b c e d : Expr} {key lock : Key} {fs gs : List Frame} {s r : Store} → ExprIs b c → KeyIs key lock → ExprIs e d → At w ForValue fs gs s r → Joins (length s.mapping) (eval_set_member Source b key e fs s) (eval_set_member Plain c lock d gs r)
  set_member_at b (dot_key x) e h = parts_at (write_op (Some x)) tt no_values (more_exprs b (more_exprs e no_exprs)) h
  set_member_at {s = s} b (bracket_key x) e h = one (length s.mapping) _ _ (evals b (onto h (bracket_write x e h.frames)))
  set_member_at b (index_key k) e h = parts_at (write_op None) tt no_values (more_exprs b (more_exprs k (more_exprs e no_exprs))) h

  -- CALLS: what is called and is no property is evaluated first
  plain_call : {e d : Expr} {es ds : Exprs} {fs gs : List Frame} {s r : Store} → count es ≤ 8 → ExprIs e d → ExprsAre es ds → At w ForValue fs gs s r → MoveIs (Goes (Eval e) (Pending (CallOf v.Undefined) [] es ∷ fs) s) (Goes (Eval d) (Pending (CallOf v.Undefined) [] ds ∷ gs) r)
  plain_call l e m h = evals e (onto h (pending_is (call_op undefined_is) (omega (arith, l)) no_values m h.frames))

  call_at : {e d : Expr} {es ds : Exprs} {fs gs : List Frame} {s r : Store} → count es ≤ 8 → ExprIs e d → ExprsAre es ds → At w ForValue fs gs s r → MoveIs (eval_call Source e es fs s) (eval_call Plain d ds gs r)
  call_at l (member_expr e k) m h = evals e (onto h (base_is l k m h.frames))
  call_at l (num_expr n) m h = plain_call l (num_expr n) m h
  call_at l (text_expr u) m h = plain_call l (text_expr u) m h
  call_at l (truth_expr b) m h = plain_call l (truth_expr b) m h
  call_at l null_expr m h = plain_call l null_expr m h
  call_at l undefined_expr m h = plain_call l undefined_expr m h
  call_at l this_expr m h = plain_call l this_expr m h
  call_at l (named_expr x) m h = plain_call l (named_expr x) m h
  call_at l (unary_expr op a) m h = plain_call l (unary_expr op a) m h
  call_at l (binary_expr op a b) m h = plain_call l (binary_expr op a b) m h
  call_at l (logic_expr op a b) m h = plain_call l (logic_expr op a b) m h
  call_at l (choice_expr a b c) m h = plain_call l (choice_expr a b c) m h
  call_at l (set_name_expr x a) m h = plain_call l (set_name_expr x a) m h
  call_at l (set_member_expr a k b) m h = plain_call l (set_member_expr a k b) m h
  call_at l (change_expr x op a) m h = plain_call l (change_expr x op a) m h
  call_at l (bump_expr x up before) m h = plain_call l (bump_expr x up before) m h
  call_at l (call_expr k a b) m h = plain_call l (call_expr k a b) m h
  call_at l (object_expr a) m h = plain_call l (object_expr a) m h
  call_at l (function_expr a) m h = plain_call l (function_expr a) m h
  call_at l (log_expr a) m h = plain_call l (log_expr a) m h
  call_at l (error_expr name a) m h = plain_call l (error_expr name a) m h
  call_at l (variable_expr k a) m h = plain_call l (variable_expr k a) m h

  -- FUNCTIONS
  function_at : {f g : Code} {fs gs : List Frame} {s r : Store} → CodeIs f g → At w ForValue fs gs s r → MoveIs (eval_function Source f fs s) (eval_function Plain g gs r)
  function_at (code_is normal_runs no_name n m) h = makes_at (closure_is normal_runs n m h.chain undefined_is) h
  function_at (code_is arrow_runs no_name n m) h = makes_at (closure_is arrow_runs n m h.chain h.receiver) h
  function_at (code_is normal_runs (some_name x) n m) h = named_function x normal_runs n m undefined_is h
  function_at (code_is arrow_runs (some_name x) n m) h = named_function x arrow_runs n m h.receiver h

  object_begun : {ps qs : Properties} {fs gs : List Frame} {s r : Store} → PropertiesAre ps qs → At w ForValue fs gs s r → Joins (length s.mapping) (eval Source (t.Object ps) fs s) (eval Plain (t.Object qs) gs r)
  object_begun {ps = ps} {qs = qs} {fs = fs} {gs = gs} {s = s} {r = r} m h =
      subst (λ keys. Joins (length s.mapping) (eval_parts Source (MakeObject (keys_of ps)) [] (parts_of ps) fs s) (eval_parts Plain (MakeObject keys) [] (parts_of qs) gs r)) (sym (keys_same ps qs m))
      (parts_at (object_op (keys_of ps)) tt no_values (parts_are ps qs m) h)

  -- EVALUATING
  pub eval_at : {e d : Expr} {fs gs : List Frame} {s r : Store} → ExprIs e d → At w ForValue fs gs s r → Reaches (length s.mapping) (eval Source e fs s) (eval Plain d gs r)
  eval_at {s = s} (num_expr n) h = reached_by (length s.mapping) _ _ (number_at (nat_le n greatest) n h)
  eval_at {s = s} (text_expr u) h = reached_by (length s.mapping) _ _ (gives_at (text_is u) h)
  eval_at {s = s} (truth_expr b) h = reached_by (length s.mapping) _ _ (gives_at (truth_is b) h)
  eval_at {s = s} null_expr h = reached_by (length s.mapping) _ _ (gives_at null_is h)
  eval_at {s = s} undefined_expr h = reached_by (length s.mapping) _ _ (gives_at undefined_is h)
  eval_at {s = s} this_expr h = reached_by (length s.mapping) _ _ (gives_at h.receiver h)
  eval_at {fs = fs} {gs = gs} {s = s} {r = r} (named_expr x) h = reached_by (length s.mapping) _ _ (name_read x (λ a. Goes (Given a) fs s) (λ a. Goes (Given a) gs r) (λ a b v. gives_at v h) h)
  eval_at {s = s} (unary_expr op e) h = reached (length s.mapping) _ _ (parts_at (prefix_op op) tt no_values (more_exprs e no_exprs) h)
  eval_at {s = s} (binary_expr op a b) h = reached (length s.mapping) _ _ (parts_at (infix_op op) tt no_values (more_exprs a (more_exprs b no_exprs)) h)
  eval_at {s = s} (logic_expr op a b) h = reached_by (length s.mapping) _ _ (evals a (onto h (logic_is op b h.frames)))
  eval_at {s = s} (choice_expr e a b) h = reached_by (length s.mapping) _ _ (evals e (onto h (choice_is a b h.frames)))
  eval_at {s = s} (set_name_expr x e) h = reached (length s.mapping) _ _ (parts_at (set_op x) tt no_values (more_exprs e no_exprs) h)
  eval_at {s = s} (set_member_expr b k e) h = reached (length s.mapping) _ _ (set_member_at b k e h)
  eval_at {fs = fs} {gs = gs} {s = s} {r = r} (change_expr x op {e = e} {d = d} m) h = reached_by (length s.mapping) _ _ (name_read x (λ old. Goes (Eval e) (ChangeFrame x op old ∷ fs) s) (λ old. Goes (Eval d) (ChangeFrame (p_ x) op old ∷ gs) r) (λ a b v. evals m (onto h (change_is x op v h.frames))) h)
  eval_at {s = s} (bump_expr x up before) h = reached_by (length s.mapping) _ _ (name_bumped x up before h)
  eval_at {s = s} (member_expr e k) h = reached (length s.mapping) _ _ (member_at e k h)
  eval_at {s = s} (call_expr l e m) h = reached_by (length s.mapping) _ _ (call_at l e m h)
  eval_at {s = s} (object_expr m) h = reached (length s.mapping) _ _ (object_begun m h)
  eval_at {s = s} (function_expr f) h = reached_by (length s.mapping) _ _ (function_at f h)
  eval_at {s = s} (log_expr {es = es} {ds = ds} m) h = either_way (suits Log (count es)) (suits Log (count ds)) (length s.mapping) _ _ (ap (suits Log) (count_same es ds m)) (reached (length s.mapping) _ _ (parts_at log_op tt no_values m h))
  eval_at {s = s} (error_expr name {es = es} {ds = ds} m) h = either_way (suits (NewError name) (count es)) (suits (NewError name) (count ds)) (length s.mapping) _ _ (ap (suits (NewError name)) (count_same es ds m)) (reached (length s.mapping) _ _ (parts_at (error_op name) tt no_values m h))
  eval_at {s = s} (variable_expr {es = es} {ds = ds} l m) h = taken_way (suits NewVariable (count es)) (length s.mapping) _ _ l (looked_up (length s.mapping) _ ds h (variable_parts (let few = few_parts (count es) l in omega (arith, few)) no_values m h))
