-- The whole table: from related states each step of the source is matched, within a bound.
use Rattle.std.proofs.Common.{◌≡◌, ℕ, suc, ◌+◌, ◌≤◌, List, [], ◌∷◌, ◌++◌, length, length-append, refl, sym, subst, arith}
use Rattle.actx_match.specs.Matching.{SteppedWithin, Moved, AtEnd}
use Rattle.actx_match.proofs.Runs.{cost_ones}
use Rattle.actx_data.specs.declared.end.End.TheVariants.{Ended, Threw, Left}
use Rattle.actx_data.specs.declared.event.Event.{Event}
use Rattle.actx_data.specs.declared.trace.TraceEvent.{TraceEvent}
use Rattle.actx_data.specs.declared.value.Value.{Value}
use Rattle.actx_data.specs.declared.value.Value.TheVariants as v
use Rattle.actx_grammar.specs.declared.side.Side.TheVariants.{Source}
use Rattle.actx_grammar.specs.declared.side.Side.TheVariants as side
use Rattle.actx_grammar.specs.Grammar.{count}
use Rattle.actx_grammar.specs.Tree.{Exprs}
use Rattle.actx_rules.specs.Operators.{Answer}
use Rattle.actx_rules.specs.Properties.{show, more_shown}
use Rattle.actx_rules.specs.Machine.{idle, base_given, given, done, row, at, step}
use Rattle.actx_rules.specs.State.{Completion, Normal, Throw, Task, Given, Done, Op, Frame, Store, Now, State, Goes, Stops}
use Rattle.actx_rules.specs.Weight.{weight}
use Rattle.actx_rules.specs.Related.{World, ExprsAre, no_stmts, more_stmts, ValueIs, undefined_is, no_values, more_values, CompletionIs, normal_is, return_is, throw_is, ChainIs, call_op, Holds, StoreIs, Wait, ForValue, ForCompletion, ForThrow, FramesAre, no_frames, bottom_is, pending_is, base_is, callee_is, options_are, options_lost, const_is, value_frame_is, return_frame_is, list_is, call_frame_is, call_away, mapping_frame_is, Fits, fits_any, fits_throw, fits_lost, TaskIs, eval_is, eval_options, exec_is, exec_list_is, exec_body_is, given_is, given_options, done_is, call_is, ScopeIs, here, away_given, away_done, away_end, NowIs, doing_is, over_is, Related, MoveIs, goes_is, stops_is}
use Rattle.actx_rules.specs.Laws.{Laws, comes_value, comes_throw}
use Rattle.actx_rules.proofs.Same.Growth.{frames_later}
use Rattle.actx_rules.proofs.Same.Names.{set_in_is}
use Rattle.actx_rules.proofs.Same.Shown.{AnswerIs, gives_is, throws_is, leaves_is, read_is, show_more_same}
use Rattle.actx_rules.proofs.Same.Stores.{store_moved, store_set, later_name, store_events}
use Rattle.actx_rules.proofs.Same.Joins.{Joins, one, values_push, fits_a_throw, throws_rule}
use Rattle.actx_rules.proofs.Same.Methods.{departing}
use Rattle.actx_rules.proofs.Same.Making.{with_options}
use Rattle.actx_rules.proofs.Same.Calls.{value_called, parts_rule}
use Rattle.actx_rules.proofs.Same.Rows.{Reaches, reached, reached_by, variable_called, eval_rule, options_rule, object_parts, normal_rule, item_rule, exec_rule, list_rule, body_rule, next_rule}

module _ (laws : Laws) (w : World) where
  -- VALUES
  base_rule : (x y : Answer) (a b : Value) (key : List ℕ) (es ds : Exprs) (fs gs : List Frame) (s r : Store) → AnswerIs w x y → ValueIs w a b → count es ≤ 8 → ExprsAre es ds → FramesAre w r.heap r.scopes ForValue fs gs → ChainIs w s.scope r.scope → ValueIs w s.receiver r.receiver → StoreIs w s r → MoveIs (base_given x a key es fs s) (base_given y b key ds gs r)
  base_rule x y a b key es ds fs gs s r (gives_is g) h l m f c o st = goes_is w (given_is g (callee_is l h m f)) (here c o) st
  base_rule x y a b key es ds fs gs s r (throws_is name) h l m f c o st = throws_rule w name ForValue (Given a) _ _ s r (base_is key l m f) (here c o) st
  base_rule x y a b key es ds fs gs s r leaves_is h l m f c o st = stops_is Left

  holds_pushed : (o : Op) (xs : List Value) (a : Value) (n : ℕ) → Holds o (suc (length xs + n)) → Holds o (length (xs ++ a ∷ []) + n)
  holds_pushed o xs a n l = let long = length-append xs (a ∷ []) in subst (Holds o) (omega (arith, long)) l

  given_rule : (a b : Value) (fs gs : List Frame) (s r : Store) → ValueIs w a b → FramesAre w r.heap r.scopes ForValue fs gs → ScopeIs w (Given a) fs s.scope s.receiver r.scope r.receiver → StoreIs w s r → Joins (length s.mapping) (given Source a fs s) (given side.Plain b gs r)
  given_rule a b fs gs s r h (pending_is {o = op} {xs = xs} {es = es} q l vs m f) (here c o) st = parts_rule laws w _ _ _ _ _ _ _ _ s r q (holds_pushed op xs a (count es) l) (values_push w _ _ a b vs h) m f c o st
  given_rule a b fs gs s r h (base_is key l m f) (here c o) st = one (length s.mapping) _ _ (base_rule _ _ a b key _ _ _ _ s r (read_is w s.heap r.heap st.heap key a b h) h l m f c o st)
  given_rule a b fs gs s r h (callee_is l g m f) (here c o) st = parts_rule laws w _ _ _ _ _ _ _ _ s r (call_op g) (omega (arith, l)) (more_values h no_values) m f c o st
  given_rule a b fs gs s r h (options_are keys vs m f) (here c o) st = one (length s.mapping) _ _ (object_parts laws w keys _ _ _ _ _ _ s r (values_push w _ _ a b vs h) m f c o st)
  given_rule a b fs gs s r h (const_is x is f) (here c o) st =
      let set = set_in_is w s.scopes r.scopes x a b s.scope r.scope c h st.scopes st.top in
      one (length s.mapping) _ _ (item_rule laws w _ _ _ _ _ _ is (frames_later (later_name w s r st x a b set) f) c o (store_set w s r st x a b set))
  given_rule a b fs gs s r h (value_frame_is f) (here c o) st = one (length s.mapping) _ _ (normal_rule laws w _ _ s r f c o st)
  given_rule a b fs gs s r h (return_frame_is f) (here c o) st = one (length s.mapping) _ _ (goes_is w (done_is ForCompletion (fits_any _) (return_is h) f) (here c o) st)
  given_rule a b fs gs s r h (mapping_frame_is k {old = ms} {m = m} {x = x} {y = y} {b = up} {c = over} {fs = fs'} {gs = gs'} mi kept c o f) sc st =
      departing laws w (Given a) (Given b) k ms m x y up over fs' gs' s r (comes_value b) mi kept c o f (λ heap scopes g. given_is h g) st

  -- COMPLETIONS
  -- the next event is the same
  idle_rule : (es ds : List Event) (s r : Store) → ds ≡ es → ScopeIs w (Done Normal) [] s.scope s.receiver r.scope r.receiver → StoreIs w s r → MoveIs (idle (Done Normal) es s) (idle (Done Normal) ds r)
  idle_rule es ds s r e c st = subst (λ x. MoveIs (idle (Done Normal) es s) (idle (Done Normal) x r)) (sym e) (by es)
    where
      by : (es : List Event) → MoveIs (idle (Done Normal) es s) (idle (Done Normal) es r)
      by [] = stops_is Ended
      by (_ ∷ es) = goes_is w (done_is ForCompletion (fits_any Normal) normal_is no_frames) c (store_events w s r st es)

  -- a throw passes a frame
  passes : (a b : Value) (wait : Wait) (fs gs : List Frame) (s r : Store) → ValueIs w a b → FramesAre w r.heap r.scopes wait fs gs → ChainIs w s.scope r.scope → ValueIs w s.receiver r.receiver → StoreIs w s r → MoveIs (Goes (Done (Throw a)) fs s) (Goes (Done (Throw b)) gs r)
  passes a b wait fs gs s r h f c o st = goes_is w (done_is wait (fits_a_throw wait a) (throw_is h) f) (here c o) st

  -- the program's own list is over
  ended : (x y : Completion) (s r : Store) → CompletionIs w x y → StoreIs w s r → MoveIs (Goes (Done x) [] (record s { scope = [] })) (Goes (Done y) [] (record r { scope = [] }))
  ended x y s r h st = goes_is w (done_is ForCompletion (fits_any x) h no_frames) (away_end [] s.receiver [] r.receiver) (store_moved w s r st [] [] s.receiver r.receiver)

  done_rule : (wait : Wait) (x y : Completion) (fs gs : List Frame) (s r : Store) → Fits wait x → CompletionIs w x y → FramesAre w r.heap r.scopes wait fs gs → ScopeIs w (Done x) fs s.scope s.receiver r.scope r.receiver → StoreIs w s r → Joins (length s.mapping) (done x fs s) (done y gs r)
  done_rule wait x y fs gs s r (fits_any _) normal_is no_frames sc st = one (length s.mapping) _ _ (idle_rule s.events r.events s r st.events sc st)
  done_rule wait x y fs gs s r (fits_any _) normal_is (bottom_is no_stmts) sc st = one (length s.mapping) _ _ (ended _ _ s r normal_is st)
  done_rule wait x y fs gs s r (fits_any _) normal_is (bottom_is (more_stmts z m)) (here c o) st = one (length s.mapping) _ _ (goes_is w (exec_is z (bottom_is m)) (here c o) st)
  done_rule wait x y fs gs s r (fits_any _) normal_is (list_is m k f) (here c o) st = one (length s.mapping) _ _ (next_rule laws w _ _ _ _ _ _ s r m k f c o st)
  done_rule wait x y fs gs s r (fits_any _) normal_is (call_frame_is b p f) sc st = one (length s.mapping) _ _ (goes_is w (given_is undefined_is f) (here b p) (store_moved w s r st _ _ _ _))
  done_rule wait x y fs gs s r (fits_any _) normal_is (call_away b p c q f) sc st = one (length s.mapping) _ _ (goes_is w (given_is undefined_is f) (away_given b p c q) (store_moved w s r st b c p q))
  done_rule wait x y fs gs s r (fits_any _) (return_is h) no_frames sc st = one (length s.mapping) _ _ (stops_is Left)
  done_rule wait x y fs gs s r (fits_any _) (return_is h) (bottom_is m) sc st = one (length s.mapping) _ _ (ended _ _ s r (return_is h) st)
  done_rule wait x y fs gs s r (fits_any _) (return_is h) (list_is m k f) (here c o) st = one (length s.mapping) _ _ (goes_is w (done_is ForCompletion (fits_any _) (return_is h) f) (here k o) (store_moved w s r st _ _ s.receiver r.receiver))
  done_rule wait x y fs gs s r (fits_any _) (return_is h) (call_frame_is b p f) sc st = one (length s.mapping) _ _ (goes_is w (given_is h f) (here b p) (store_moved w s r st _ _ _ _))
  done_rule wait x y fs gs s r (fits_any _) (return_is h) (call_away b p c q f) sc st = one (length s.mapping) _ _ (goes_is w (given_is h f) (away_given b p c q) (store_moved w s r st b c p q))
  done_rule wait x y fs gs s r (fits_any _) (throw_is {a = a} {b = b} h) no_frames sc st =
      one (length s.mapping) _ _ (subst (λ o. MoveIs (Stops (Threw (show s.heap (more_shown s.shown a) a))) (Stops (Threw o))) (sym (show_more_same w s.heap r.heap st.heap a b h s.shown r.shown st.shown)) (stops_is (Threw (show s.heap (more_shown s.shown a) a))))
  done_rule wait x y fs gs s r (fits_any _) (throw_is h) (bottom_is m) sc st = one (length s.mapping) _ _ (ended _ _ s r (throw_is h) st)
  done_rule wait x y fs gs s r (fits_any _) (throw_is h) (list_is m k f) (here c o) st = one (length s.mapping) _ _ (passes _ _ ForCompletion _ _ _ _ h f k o (store_moved w s r st _ _ s.receiver r.receiver))
  done_rule wait x y fs gs s r (fits_any _) (throw_is h) (call_frame_is b p f) sc st = one (length s.mapping) _ _ (goes_is w (done_is ForValue (fits_throw _) (throw_is h) f) (here b p) (store_moved w s r st _ _ _ _))
  done_rule wait x y fs gs s r (fits_any _) (throw_is h) (call_away b p c q f) sc st = one (length s.mapping) _ _ (goes_is w (done_is ForValue (fits_throw _) (throw_is h) f) (away_done b p c q) (store_moved w s r st b c p q))
  done_rule wait x y fs gs s r (fits_throw _) (throw_is h) (pending_is q l vs m f) (here c o) st = one (length s.mapping) _ _ (passes _ _ ForValue _ _ s r h f c o st)
  done_rule wait x y fs gs s r (fits_throw _) (throw_is h) (base_is key l m f) (here c o) st = one (length s.mapping) _ _ (passes _ _ ForValue _ _ s r h f c o st)
  done_rule wait x y fs gs s r (fits_throw _) (throw_is h) (callee_is l g m f) (here c o) st = one (length s.mapping) _ _ (passes _ _ ForValue _ _ s r h f c o st)
  done_rule wait x y fs gs s r (fits_throw _) (throw_is h) (options_are keys vs m f) (here c o) st = one (length s.mapping) _ _ (passes _ _ ForThrow _ _ s r h (options_lost f) c o st)
  done_rule wait x y fs gs s r (fits_throw _) (throw_is h) (const_is n m f) (here c o) st = one (length s.mapping) _ _ (passes _ _ ForCompletion _ _ s r h f c o st)
  done_rule wait x y fs gs s r (fits_throw _) (throw_is h) (value_frame_is f) (here c o) st = one (length s.mapping) _ _ (passes _ _ ForCompletion _ _ s r h f c o st)
  done_rule wait x y fs gs s r (fits_throw _) (throw_is h) (return_frame_is f) (here c o) st = one (length s.mapping) _ _ (passes _ _ ForCompletion _ _ s r h f c o st)
  done_rule wait x y fs gs s r (fits_throw _) (throw_is {a = a} {b = b} h) (mapping_frame_is k {old = ms} {m = m} {x = p} {y = q} {b = up} {c = over} {fs = fs'} {gs = gs'} mi kept c o f) sc st =
      departing laws w (Done (Throw a)) (Done (Throw b)) k ms m p q up over fs' gs' s r (comes_throw b) mi kept c o f (λ heap scopes g. done_is ForValue (fits_throw _) (throw_is h) g) st
  done_rule wait x y fs gs s r (fits_lost _) (throw_is h) (options_lost f) (here c o) st = one (length s.mapping) _ _ (passes _ _ ForValue _ _ s r h f c o st)

  -- THE TABLE
  row_rule : (a b : Task) (fs gs : List Frame) (s r : Store) → TaskIs w r.heap r.scopes a fs b gs → ScopeIs w a fs s.scope s.receiver r.scope r.receiver → StoreIs w s r → Reaches (length s.mapping) (row Source a fs s) (row side.Plain b gs r)
  row_rule a b fs gs s r (eval_is e f) (here c o) st = eval_rule laws w _ _ fs gs s r e f c o st
  row_rule a b fs gs s r (eval_options m f) (here c o) st = reached_by (length s.mapping) _ _ (options_rule laws w _ _ _ _ s r m f c o st)
  row_rule a b fs gs s r (exec_is x f) (here c o) st = reached_by (length s.mapping) _ _ (exec_rule laws w _ _ fs gs s r x f c o st)
  row_rule a b fs gs s r (exec_list_is m f) (here c o) st = reached_by (length s.mapping) _ _ (list_rule laws w _ _ fs gs s r m f c o st)
  row_rule a b fs gs s r (exec_body_is m f) (here c o) st = reached_by (length s.mapping) _ _ (body_rule laws w _ _ fs gs s r m f c o st)
  row_rule a b fs gs s r (given_is h f) sc st = reached (length s.mapping) _ _ (given_rule _ _ fs gs s r h f sc st)
  row_rule a b fs gs s r (given_options k j {qs = qs} {fs = fs'} {gs = gs'} e q f) (here c o) st = reached (length s.mapping) _ _ (variable_called laws w (length s.mapping) _ _ gs' s r st (with_options laws w k j qs (Given v.Undefined) fs' gs' s r st e q f (here c o)))
  row_rule a b fs gs s r (done_is wait k h f) sc st = reached (length s.mapping) _ _ (done_rule wait _ _ fs gs s r k h f sc st)
  row_rule a b fs gs s r (call_is l g h hs f) sc st = reached (length s.mapping) _ _ (value_called laws w _ _ _ _ _ _ fs gs s r g h l hs f sc st)

-- STEPS
abbrev pub Meets : State → State → Type 0
Meets = SteppedWithin (step Source) (step side.Plain) Related (λ _ _. 0) 1024 weight (λ _. 1)

module _ (laws : Laws) where
  now_meets : (a b : Now) (fs gs : List Frame) (s r : Store) (tr : List TraceEvent) → NowIs a fs s b gs r → Meets (record { now = a; frames = fs; store = s; trace = tr }) (record { now = b; frames = gs; store = r; trace = tr })
  now_meets a b fs gs s r tr (doing_is w {a = x} {b = y} k c st) =
      let j = row_rule laws w x y fs gs s r k c st in
      record {
        count = suc j.count;
        kept = j.kept tr;
        goes_on = Moved (omega arith);
        within = let few = j.within in let ones = cost_ones (step side.Plain) (suc j.count) (at y gs r tr) in omega (arith, few, ones);
      }
  now_meets a b fs gs s r tr (over_is e) = record { count = 0; kept = record { now = over_is e; trace = refl }; goes_on = AtEnd refl; within = omega arith }

  pub steps : (s r : State) → Related s r → Meets s r
  steps s r h = subst (λ tr. Meets s (record { now = r.now; frames = r.frames; store = r.store; trace = tr })) (sym h.trace) (now_meets s.now r.now s.frames r.frames s.store r.store s.trace h.now)
