-- The whole table: from related states each step of the source is matched, within a bound.
use Rattle.std.proofs.Common.{◌≡◌, ℕ, zero, suc, ◌<◌, List, [], ◌∷◌, ◌++◌, length, Some, refl, sym, ap, subst, arith}
use Rattle.actx_match.specs.Runs.{run}
use Rattle.actx_match.specs.Matching.{SteppedWithin, Moved, Fell, AtEnd}
use Rattle.actx_match.proofs.Runs.{cost_ones}
use Rattle.actx_data.specs.declared.shown.ErrorName.TheVariants.{TypeError}
use Rattle.actx_data.specs.declared.trace.TraceEvent.{TraceEvent}
use Rattle.actx_data.specs.declared.value.Value.{Value}
use Rattle.actx_data.specs.declared.value.Value.TheVariants as v
use Rattle.actx_grammar.specs.declared.side.Side.TheVariants.{Source, Plain}
use Rattle.actx_grammar.specs.Tree.{Stmts}
use Rattle.actx_heap.specs.Things.{Failure}
use Rattle.actx_table.specs.Answers.{with_thing}
use Rattle.actx_table.specs.Expressions.{call_code}
use Rattle.actx_table.specs.Laws.{Laws}
use Rattle.actx_table.specs.Machine.{row, at, takes, step}
use Rattle.actx_table.specs.Prelude.{run_body}
use Rattle.actx_table.specs.PreludeState.{run_code}
use Rattle.actx_table.specs.State.{Completion, Throw, Task, ExecBody, Done, Call, Frame, CallFrame, MappingFrame, Store, Now, Doing, State}
use Rattle.actx_table.specs.Weight.{weight}
use Rattle.actx_table.specs.Related.{World, StoreIs, TaskIs, eval_is, exec_is, exec_part_is, exec_list_is, exec_body_is, given_is, done_is, call_is, ScopeIs, here, IsRefused, run_entered, mapped_to, NowIs, doing_is, refusing_is, refused_is, over_is, Related}
use Rattle.actx_table.proofs.Same.EnteredRows.{list_rule}
use Rattle.actx_table.proofs.Same.Calls.{value_called}
use Rattle.actx_table.proofs.Same.Methods.{refused}
use Rattle.actx_table.proofs.Same.ExpressionRows.{Reaches, reached, reached_by, eval_at}
use Rattle.actx_table.proofs.Same.StatementRows.{exec_rule, part_rule, body_rule}
use Rattle.actx_table.proofs.Same.FrameRows.{value_at_frame, done_at_frame}

module _ (laws : Laws) (w : World) where
  row_rule : (a b : Task) (fs gs : List Frame) (s r : Store) → TaskIs w r.heap r.scopes a fs b gs → ScopeIs w a fs s.scope s.receiver r.scope r.receiver → StoreIs w s r → Reaches (length s.mapping) (row Source a fs s) (row Plain b gs r)
  row_rule a b fs gs s r (eval_is x f) (here c o) st = eval_at laws x (record { frames = f; chain = c; receiver = o; store = st })
  row_rule a b fs gs s r (exec_is x f) (here c o) st = reached_by (length s.mapping) _ _ (exec_rule x (record { frames = f; chain = c; receiver = o; store = st }))
  row_rule a b fs gs s r (exec_part_is x f) (here c o) st = reached_by (length s.mapping) _ _ (part_rule x (record { frames = f; chain = c; receiver = o; store = st }))
  row_rule a b fs gs s r (exec_list_is m f) (here c o) st = reached_by (length s.mapping) _ _ (list_rule m (record { frames = f; chain = c; receiver = o; store = st }))
  row_rule a b fs gs s r (exec_body_is m f) (here c o) st = reached_by (length s.mapping) _ _ (body_rule m (record { frames = f; chain = c; receiver = o; store = st }))
  row_rule a b fs gs s r (given_is x f) sc st = reached (length s.mapping) _ _ (value_at_frame laws x f sc st)
  row_rule a b fs gs s r (done_is wait k x f) sc st = reached (length s.mapping) _ _ (done_at_frame laws k x f sc st)
  row_rule a b fs gs s r (call_is l g h hs f) sc st = reached (length s.mapping) _ _ (value_called laws w _ _ _ _ _ _ fs gs s r g h l hs f sc st)

-- THE MEASURE: while run is refused in the target, the source calls what can't be called, and then that call throws
abbrev lag_at : Now → List Frame → ℕ
lag_at (Doing (Call f r vs)) (MappingFrame old back r' ∷ fs) = 1
lag_at _ _ = 0

abbrev pub lag : State → State → ℕ
lag s r = lag_at s.now s.frames

-- STEPS
abbrev pub Meets : State → State → Type 0
Meets = SteppedWithin (step Source) (step Plain) Related lag 1024 weight (λ _. 1)

no_body_done : (ss : Stmts) (c : Completion) → Doing (ExecBody ss) ≡ Doing (Done c) → ⊥
no_body_done ss c e = cc

module _ (laws : Laws) where
  -- the source's call of what can't be called throws, and the target waits
  refusing_meets : (w : World) (f y : Value) (xs ws : List Value) (ms : List (ℕ × Value)) (fs gs : List Frame) (s r : Store) (tr : List TraceEvent) → IsRefused w f y ws fs gs s r → Meets (at (Call f v.Undefined xs) (MappingFrame s.mapping s.scope s.receiver ∷ fs) (mapped_to s ms) tr) (at (ExecBody run_body) (CallFrame r.scope r.receiver ∷ gs) (run_entered r y ws) tr)
  refusing_meets w f y xs ws ms fs gs s r tr h =
      let t = at (ExecBody run_body) (CallFrame r.scope r.receiver ∷ gs) (run_entered r y ws) tr in
      let frames : List Frame = MappingFrame s.mapping s.scope s.receiver ∷ fs in
      record {
        count = 0;
        kept = subst (λ o. Related (takes (call_code Source o v.Undefined xs frames (mapped_to s ms)) tr) t) (sym h.none) (record { now = refused_is w f y ws ms h; trace = refl });
        goes_on = Fell (subst (λ o. lag (takes (call_code Source o v.Undefined xs frames (mapped_to s ms)) tr) t < 1) (sym h.none) (omega arith));
        within = omega arith;
      }

  -- the throw leaves the mapping, and the target throws
  refused_meets : (w : World) (f y : Value) (ws : List Value) (ms : List (ℕ × Value)) (fs gs : List Frame) (s r : Store) (tr : List TraceEvent) → IsRefused w f y ws fs gs s r → Meets (at (Done (Throw (v.Thing (length s.heap)))) (MappingFrame s.mapping s.scope s.receiver ∷ fs) (with_thing (mapped_to s ms) (Failure TypeError [])) tr) (at (ExecBody run_body) (CallFrame r.scope r.receiver ∷ gs) (run_entered r y ws) tr)
  refused_meets w f y ws ms fs gs s r tr h =
      let j = refused laws w 0 run_code (Call f v.Undefined []) y ws fs gs s r h.refuses h.frames (here h.chain h.receiver) h.store in
      let t = at (ExecBody run_body) (CallFrame r.scope r.receiver ∷ gs) (run_entered r y ws) tr in
      record {
        count = j.count;
        kept = j.kept tr;
        goes_on = Moved (moves j.count refl);
        within = let few = j.within in let ones = cost_ones (step Plain) j.count t in omega (arith, few, ones);
      }
    where
      moves : (n : ℕ) → h.refuses.leads.count ≡ n → 0 < n
      moves zero e = absurd (no_body_done run_body (Throw (v.Thing (length r.heap))) (ap (λ x. x.now) (subst (λ k. run (step Plain) k (takes (call_code Plain (Some run_code) y ws gs r) tr) ≡ at (Done (Throw (v.Thing (length r.heap)))) gs (record (with_thing r (Failure TypeError [])) { scopes = r.scopes ++ h.refuses.cells }) (tr ++ [])) e (h.refuses.leads.by tr))))
      moves (suc n) e = omega arith

  now_meets : (a b : Now) (fs gs : List Frame) (s r : Store) (tr : List TraceEvent) → NowIs a fs s b gs r → Meets (record { now = a; frames = fs; store = s; trace = tr }) (record { now = b; frames = gs; store = r; trace = tr })
  now_meets a b fs gs s r tr (doing_is w {a = x} {b = y} k c st) =
      let j = row_rule laws w x y fs gs s r k c st in
      record {
        count = suc j.count;
        kept = j.kept tr;
        goes_on = Moved (omega arith);
        within = let few = j.within in let ones = cost_ones (step Plain) (suc j.count) (at y gs r tr) in omega (arith, few, ones);
      }
  now_meets a b fs gs s r tr (refusing_is w f y xs ws ms {fs = fs'} {gs = gs'} {s = s'} {r = r'} h) = refusing_meets w f y xs ws ms fs' gs' s' r' tr h
  now_meets a b fs gs s r tr (refused_is w f y ws ms {fs = fs'} {gs = gs'} {s = s'} {r = r'} h) = refused_meets w f y ws ms fs' gs' s' r' tr h
  now_meets a b fs gs s r tr (over_is e) = record { count = 0; kept = record { now = over_is e; trace = refl }; goes_on = AtEnd refl; within = omega arith }

  pub steps : (s r : State) → Related s r → Meets s r
  steps s r h = subst (λ tr. Meets s (record { now = r.now; frames = r.frames; store = r.store; trace = tr })) (sym h.trace) (now_meets s.now r.now s.frames r.frames s.store r.store s.trace h.now)
