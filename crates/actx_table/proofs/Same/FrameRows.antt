-- The rows of frames: what a value or a completion does at each of them.
use Rattle.std.proofs.Common.{◌≡◌, ℕ, suc, ◌+◌, ◌≤◌, Bool, true, false, List, [], ◌∷◌, ◌++◌, length, length-append, refl, sym, subst, arith}
use Rattle.std.specs.Prelude.{if◌then◌else◌}
use Rattle.actx_data.specs.declared.end.End.TheVariants.{Ended, Threw, Left}
use Rattle.actx_data.specs.declared.event.Event.{Event}
use Rattle.actx_data.specs.declared.shown.ErrorName.TheVariants.{TypeError}
use Rattle.actx_data.specs.declared.value.Value.{Value}
use Rattle.actx_data.specs.declared.value.Value.TheVariants as v
use Rattle.actx_grammar.specs.declared.side.Side.TheVariants.{Source, Plain}
use Rattle.actx_grammar.specs.Grammar.{count}
use Rattle.actx_grammar.specs.Tree as t
use Rattle.actx_grammar.specs.Tree.{Exprs, Expr, Key}
use Rattle.actx_heap.specs.Properties.{get}
use Rattle.actx_heap.specs.declared.answers.Got.{Got}
use Rattle.actx_table.specs.Agent.{callback_of}
use Rattle.actx_table.specs.Expressions.{callee_read, base_given}
use Rattle.actx_table.specs.Machine.{idle, next_event, host_event, given, done, finished}
use Rattle.actx_table.specs.Operators.{is_true, is_settled}
use Rattle.actx_table.specs.Scopes.{back_to, back_from}
use Rattle.actx_table.specs.Showing.{show, more_shown}
use Rattle.actx_table.specs.Statements.{call_done, list_done}
use Rattle.actx_table.specs.State.{Completion, Normal, Throw, Eval, Given, Done, Op, Loop, Frame, BaseFrame, KeyFrame, ListFrame, MappingFrame, Callback, Store, Goes, Stops}
use Rattle.actx_table.specs.Related.{World, ValueIs, text_is, no_values, more_values, CompletionIs, normal_is, break_is, continue_is, return_is, throw_is, undefined_is, ChainIs, call_op, Holds, LoopIs, loop_is, StoreIs, Wait, ForValue, ForCompletion, FramesAre, no_frames, bottom_is, pending_is, options_is, bracket_read, bracket_write, bracket_value, logic_is, choice_is, change_is, base_is, base_lost, key_is, callee_is, let_is, const_is, value_frame_is, return_frame_is, throw_frame_is, if_is, test_is, for_let_is, for_const_is, for_init_is, for_test_is, for_update_is, turn_is, for_copy_is, for_turn_is, try_is, catch_frame_is, last_frame_is, list_is, call_frame_is, call_away, mapping_frame_is, Fits, fits_any, fits_throw, fits_lost, given_is, done_is, ScopeIs, here, away_given, away_done, away_end, MoveIs, goes_is, stops_is}
use Rattle.actx_table.specs.Renamed.{ExprIs, KeyIs, dot_key, bracket_key, index_key, ExprsAre, StmtsAre, no_stmts, more_stmts}
use Rattle.actx_table.specs.Laws.{Laws, comes_value, comes_throw}
use Rattle.actx_table.proofs.Same.Alike.{GotIs, gives_is, throws_is, leaves_is, show_more_same}
use Rattle.actx_table.proofs.Same.Operators.{binary_is, is_true_same, is_settled_same}
use Rattle.actx_table.proofs.Same.Reading.{read_is}
use Rattle.actx_table.proofs.Same.Stores.{store_moved, store_events}
use Rattle.actx_table.proofs.Same.Joins.{Joins, one, values_push, fits_a_throw}
use Rattle.actx_table.proofs.Same.At.{At, onto, evals, executes, gives_at, completes_at, normal_at, moved_back, set_at}
use Rattle.actx_table.proofs.Same.Methods.{departing}
use Rattle.actx_table.proofs.Same.ValueRows.{throws_at, name_changed, property_read, property_written}
use Rattle.actx_table.proofs.Same.ExpressionRows.{after, parts_at, variable_parts}
use Rattle.actx_table.proofs.Same.StatementRows.{let_rule, const_rule, loop_tested, for_let_rule, for_const_rule, copy_done_rule, for_done_rule, branch_rule, turn_rule, for_turn_rule, list_done_rule, turn_done_rule, last_rule, try_done_rule, last_done_rule}

holds_pushed : (o : Op) (xs : List Value) (a : Value) (n : ℕ) → Holds o (suc (length xs + n)) → Holds o (length (xs ++ a ∷ []) + n)
holds_pushed o xs a n l = let long = length-append xs (a ∷ []) in subst (Holds o) (omega (arith, long)) l

-- no job waits, and an event without a callback is dropped
dropped : (e : Event) (es : List Event) (calls backs : List Callback) (s r : Store) → calls ≡ [] → backs ≡ [] → MoveIs (Goes (Done Normal) [] (record s { events = es })) (Goes (Done Normal) [] (record r { events = es })) → MoveIs (host_event (callback_of e.name calls) (Done Normal) e.text (record s { events = es })) (host_event (callback_of e.name backs) (Done Normal) e.text (record r { events = es }))
dropped e es calls backs s r p q h =
    subst (λ c. MoveIs (host_event (callback_of e.name c) (Done Normal) e.text (record s { events = es })) (host_event (callback_of e.name backs) (Done Normal) e.text (record r { events = es }))) (sym p)
    (subst (λ c. MoveIs (Goes (Done Normal) [] (record s { events = es })) (host_event (callback_of e.name c) (Done Normal) e.text (record r { events = es }))) (sym q) h)

module _ (laws : Laws) {w : World} where
  -- the property of a call's base
  callee_at : {x y : Got} {a b : Value} {key lock : Key} {es ds : Exprs} {fs gs : List Frame} {s r : Store} → GotIs w x y → ValueIs w a b → count es ≤ 8 → KeyIs key lock → ExprsAre es ds → At w ForValue fs gs s r → MoveIs (callee_read x (BaseFrame key es) a es fs s) (callee_read y (BaseFrame lock ds) b ds gs r)
  callee_at (gives_is f) x l k m h = gives_at f (onto h (callee_is l x m h.frames))
  callee_at throws_is x l k m h = throws_at TypeError (onto h (base_is l k m h.frames))
  callee_at leaves_is x l k m h = stops_is Left

  bracket_callee : {x y : Got} {a b : Value} (n : List ℕ) {es ds : Exprs} {fs gs : List Frame} {s r : Store} → GotIs w x y → ValueIs w a b → count es ≤ 8 → ExprsAre es ds → At w ForValue fs gs s r → MoveIs (callee_read x (BaseFrame (t.Dot n) es) a es fs s) (callee_read y (KeyFrame b ds) b ds gs r)
  bracket_callee n (gives_is f) x l m h = gives_at f (onto h (callee_is l x m h.frames))
  bracket_callee {b = b} n throws_is x l m h = throws_at TypeError (onto h (base_lost n b h.frames))
  bracket_callee n leaves_is x l m h = stops_is Left

  key_callee : {x y : Got} {a b : Value} {es ds : Exprs} {fs gs : List Frame} {s r : Store} → GotIs w x y → ValueIs w a b → count es ≤ 8 → ExprsAre es ds → At w ForValue fs gs s r → MoveIs (callee_read x (KeyFrame a es) a es fs s) (callee_read y (KeyFrame b ds) b ds gs r)
  key_callee (gives_is f) x l m h = gives_at f (onto h (callee_is l x m h.frames))
  key_callee throws_is x l m h = throws_at TypeError (onto h (key_is l x m h.frames))
  key_callee leaves_is x l m h = stops_is Left

  base_at : {a b : Value} {key lock : Key} {es ds : Exprs} {fs gs : List Frame} {s r : Store} → ValueIs w a b → count es ≤ 8 → KeyIs key lock → ExprsAre es ds → At w ForValue fs gs s r → Joins (length s.mapping) (base_given a key es fs s) (base_given b lock ds gs r)
  base_at {s = s} {r = r} x l (dot_key n) m h = one (length s.mapping) _ _ (callee_at (read_is w s.heap r.heap h.store.heap _ _ _ _ x (text_is n)) x l (dot_key n) m h)
  base_at {b = b} {ds = ds} {gs = gs} {s = s} {r = r} x l (bracket_key n) m h = after 2 (length s.mapping) _ _ (callee_read (get r.heap b (v.Text n)) (KeyFrame b ds) b ds gs r) (omega arith) (λ tr. refl) (bracket_callee n (read_is w s.heap r.heap h.store.heap _ _ _ _ x (text_is n)) x l m h)
  base_at {s = s} x l (index_key k) m h = one (length s.mapping) _ _ (evals k (onto h (key_is l x m h.frames)))

  -- A VALUE
  logic_at : {e d : Expr} {a b : Value} {fs gs : List Frame} {s r : Store} (c f : Bool) → f ≡ c → ValueIs w a b → ExprIs e d → At w ForValue fs gs s r → MoveIs (if c then Goes (Given a) fs s else Goes (Eval e) fs s) (if f then Goes (Given b) gs r else Goes (Eval d) gs r)
  logic_at true true q x e h = gives_at x h
  logic_at false false q x e h = evals e h
  logic_at true false q x e h = absurd (cc)
  logic_at false true q x e h = absurd (cc)

  choice_at : {a b c d : Expr} {fs gs : List Frame} {s r : Store} (x y : Bool) → y ≡ x → ExprIs a c → ExprIs b d → At w ForValue fs gs s r → MoveIs (Goes (Eval (if x then a else b)) fs s) (Goes (Eval (if y then c else d)) gs r)
  choice_at true true q a b h = evals a h
  choice_at false false q a b h = evals b h
  choice_at true false q a b h = absurd (cc)
  choice_at false true q a b h = absurd (cc)

  -- at a frame in its own scope
  pub value_at_frame : {a b : Value} {fs gs : List Frame} {s r : Store} → ValueIs w a b → FramesAre w r.heap r.scopes ForValue fs gs → ScopeIs w (Given a) fs s.scope s.receiver r.scope r.receiver → StoreIs w s r → Joins (length s.mapping) (given Source a fs s) (given Plain b gs r)
  value_at_frame {a = a} {b = b} {s = s} {r = r} x (mapping_frame_is k {old = ms} {new = places} {m = m} {x = p} {y = q} {b = up} {c = over} {fs = fs'} {gs = gs'} maps mi kept c o f) sc st =
      departing laws w (Given a) (Given b) k ms places m p q up over fs' gs' s r (comes_value b) maps mi kept c o f (λ heap scopes g. given_is x g) st
  value_at_frame {a = a} {s = s} x (pending_is {o = op} {xs = xs} {es = es} q l vs m f) (here c o) st = parts_at laws q (holds_pushed op xs a (count es) l) (values_push w _ _ _ _ vs x) m (record { frames = f; chain = c; receiver = o; store = st })
  value_at_frame {a = a} {s = s} x (options_is {xs = xs} l vs m f) (here c o) st = let long = length-append xs (a ∷ []) in variable_parts laws (omega (arith, l, long)) (values_push w _ _ _ _ vs x) m (record { frames = f; chain = c; receiver = o; store = st })
  value_at_frame {s = s} x (bracket_read n f) (here c o) st = after 2 (length s.mapping) _ _ _ (omega arith) (λ tr. refl) (property_read x (text_is n) (record { frames = f; chain = c; receiver = o; store = st }))
  value_at_frame {s = s} x (bracket_write n e f) (here c o) st = after 2 (length s.mapping) _ _ _ (omega arith) (λ tr. refl) (evals e (record { frames = bracket_value n x f; chain = c; receiver = o; store = st }))
  value_at_frame {s = s} x (bracket_value n y f) (here c o) st = one (length s.mapping) _ _ (property_written y (text_is n) x (record { frames = f; chain = c; receiver = o; store = st }))
  value_at_frame {a = a} {b = b} {s = s} x (logic_is op e f) (here c o) st = one (length s.mapping) _ _ (logic_at (is_settled op a) (is_settled op b) (is_settled_same w op a b x) x e (record { frames = f; chain = c; receiver = o; store = st }))
  value_at_frame {a = a} {b = b} {s = s} x (choice_is y n f) (here c o) st = one (length s.mapping) _ _ (choice_at (is_true a) (is_true b) (is_true_same w a b x) y n (record { frames = f; chain = c; receiver = o; store = st }))
  value_at_frame {s = s} {r = r} x (change_is n op old f) (here c o) st = one (length s.mapping) _ _ (name_changed n (binary_is w s.heap r.heap st.heap op _ _ _ _ old x) (record { frames = f; chain = c; receiver = o; store = st }))
  value_at_frame {s = s} x (base_is l k m f) (here c o) st = base_at x l k m (record { frames = f; chain = c; receiver = o; store = st })
  value_at_frame {s = s} {r = r} x (key_is l y m f) (here c o) st = one (length s.mapping) _ _ (key_callee (read_is w s.heap r.heap st.heap _ _ _ _ y x) y l m (record { frames = f; chain = c; receiver = o; store = st }))
  value_at_frame {s = s} x (callee_is l y m f) (here c o) st = parts_at laws (call_op y) (omega (arith, l)) (more_values x no_values) m (record { frames = f; chain = c; receiver = o; store = st })
  value_at_frame {a = a} {b = b} {s = s} x (let_is n m f) (here c o) st = one (length s.mapping) _ _ (let_rule m (set_at (record { frames = f; chain = c; receiver = o; store = st }) n a b x))
  value_at_frame {a = a} {b = b} {s = s} x (const_is n m f) (here c o) st = one (length s.mapping) _ _ (const_rule m (set_at (record { frames = f; chain = c; receiver = o; store = st }) n a b x))
  value_at_frame {s = s} x (value_frame_is f) (here c o) st = one (length s.mapping) _ _ (normal_at (record { frames = f; chain = c; receiver = o; store = st }))
  value_at_frame {s = s} x (return_frame_is f) (here c o) st = one (length s.mapping) _ _ (completes_at (return_is x) (record { frames = f; chain = c; receiver = o; store = st }))
  value_at_frame {s = s} x (throw_frame_is f) (here c o) st = one (length s.mapping) _ _ (completes_at (throw_is x) (record { frames = f; chain = c; receiver = o; store = st }))
  value_at_frame {a = a} {b = b} {s = s} x (if_is y n f) (here c o) st = one (length s.mapping) _ _ (branch_rule (is_true a) (is_true b) (is_true_same w a b x) y n (record { frames = f; chain = c; receiver = o; store = st }))
  value_at_frame {a = a} {b = b} {s = s} x (test_is e y f) (here c o) st = one (length s.mapping) _ _ (turn_rule (is_true a) (is_true b) (is_true_same w a b x) e y (record { frames = f; chain = c; receiver = o; store = st }))
  value_at_frame {a = a} {b = b} {s = s} x (for_let_is n m l f) (here c o) st = one (length s.mapping) _ _ (for_let_rule m l (set_at (record { frames = f; chain = c; receiver = o; store = st }) n a b x))
  value_at_frame {a = a} {b = b} {s = s} x (for_const_is n m l f) (here c o) st = one (length s.mapping) _ _ (for_const_rule m l (set_at (record { frames = f; chain = c; receiver = o; store = st }) n a b x))
  value_at_frame {s = s} x (for_init_is l f) (here c o) st = one (length s.mapping) _ _ (loop_tested l (record { frames = f; chain = c; receiver = o; store = st }))
  value_at_frame {a = a} {b = b} {s = s} x (for_test_is l f) (here c o) st = one (length s.mapping) _ _ (for_turn_rule (is_true a) (is_true b) (is_true_same w a b x) l (record { frames = f; chain = c; receiver = o; store = st }))
  value_at_frame {s = s} x (for_update_is l f) (here c o) st = one (length s.mapping) _ _ (loop_tested l (record { frames = f; chain = c; receiver = o; store = st }))

  -- COMPLETIONS
  idle_at : {s r : Store} → ScopeIs w (Done Normal) [] s.scope s.receiver r.scope r.receiver → StoreIs w s r → MoveIs (idle (Done Normal) s.jobs s) (idle (Done Normal) r.jobs r)
  idle_at {s = s} {r = r} c st =
      subst (λ j. MoveIs (idle (Done Normal) j s) (idle (Done Normal) r.jobs r)) (sym st.quiet.source_jobs)
      (subst (λ j. MoveIs (next_event (Done Normal) s.events s) (idle (Done Normal) j r)) (sym st.quiet.target_jobs)
      (subst (λ es. MoveIs (next_event (Done Normal) s.events s) (next_event (Done Normal) es r)) (sym st.events) (by s.events)))
    where
      by : (es : List Event) → MoveIs (next_event (Done Normal) es s) (next_event (Done Normal) es r)
      by [] = stops_is Ended
      by (e ∷ es) = dropped e es s.callbacks r.callbacks s r st.quiet.source_callbacks st.quiet.target_callbacks (goes_is w (done_is ForCompletion (fits_any Normal) normal_is no_frames) c (store_events w s r st es))

  finished_at : {x y : Completion} {s r : Store} → CompletionIs w x y → ScopeIs w (Done x) [] s.scope s.receiver r.scope r.receiver → StoreIs w s r → MoveIs (finished x s) (finished y r)
  finished_at normal_is c st = idle_at c st
  finished_at break_is c st = stops_is Left
  finished_at continue_is c st = stops_is Left
  finished_at (return_is x) c st = stops_is Left
  finished_at {s = s} {r = r} (throw_is {a = a} {b = b} x) c st = subst (λ o. MoveIs (Stops (Threw (show s.heap (more_shown s.shown a) a))) (Stops (Threw o))) (sym (show_more_same w s.heap r.heap st.heap a b x s.shown r.shown st.shown)) (stops_is (Threw (show s.heap (more_shown s.shown a) a)))

  -- a throw passes a frame
  passes : {wait : Wait} {a b : Value} {fs gs : List Frame} {s r : Store} → ValueIs w a b → At w wait fs gs s r → MoveIs (Goes (Done (Throw a)) fs s) (Goes (Done (Throw b)) gs r)
  passes {wait = wait} {a = a} x h = goes_is w (done_is wait (fits_a_throw wait a) (throw_is x) h.frames) (here h.chain h.receiver) h.store

  -- the program's own list is over
  ended : {x y : Completion} {s r : Store} → CompletionIs w x y → StoreIs w s r → MoveIs (Goes (Done x) [] (back_to s [])) (Goes (Done y) [] (back_to r []))
  ended {x = x} {s = s} {r = r} h st = goes_is w (done_is ForCompletion (fits_any x) h no_frames) (away_end [] s.receiver [] r.receiver) (store_moved w s r st [] [] s.receiver r.receiver)

  bottom_at : {x y : Completion} {ss ts : t.Stmts} {s r : Store} → CompletionIs w x y → StmtsAre ss ts → ScopeIs w (Done x) (ListFrame ss [] ∷ []) s.scope s.receiver r.scope r.receiver → StoreIs w s r → MoveIs (list_done x ss [] [] s) (list_done y ts [] [] r)
  bottom_at normal_is no_stmts c st = ended normal_is st
  bottom_at normal_is (more_stmts z m) (here c o) st = executes z (record { frames = bottom_is m; chain = c; receiver = o; store = st })
  bottom_at break_is m c st = ended break_is st
  bottom_at continue_is m c st = ended continue_is st
  bottom_at (return_is x) m c st = ended (return_is x) st
  bottom_at (throw_is x) m c st = ended (throw_is x) st

  -- a function's body is over
  call_ended : {x y : Completion} {b c : List ℕ} {p q : Value} {fs gs : List Frame} {s r : Store} → CompletionIs w x y → ChainIs w b c → ValueIs w p q → FramesAre w r.heap r.scopes ForValue fs gs → StoreIs w s r → MoveIs (call_done x fs (back_from s b p)) (call_done y gs (back_from r c q))
  call_ended {b = b} {c = c} {p = p} {q = q} {fs = fs} {gs = gs} {s = s} {r = r} x k o f st = by x (record { frames = f; chain = k; receiver = o; store = store_moved w s r st b c p q })
    where
      by : {x y : Completion} → CompletionIs w x y → At w ForValue fs gs (back_from s b p) (back_from r c q) → MoveIs (call_done x fs (back_from s b p)) (call_done y gs (back_from r c q))
      by (return_is z) h = gives_at z h
      by (throw_is z) h = passes z h
      by normal_is h = gives_at undefined_is h
      by break_is h = gives_at undefined_is h
      by continue_is h = gives_at undefined_is h

  away_ended : {x y : Completion} (b : List ℕ) (p : Value) (c : List ℕ) (q : Value) {old : List (ℕ × Value)} {b' : List ℕ} {x' : Value} {fs gs : List Frame} {s r : Store} → CompletionIs w x y → FramesAre w r.heap r.scopes ForValue (MappingFrame old b' x' ∷ fs) gs → StoreIs w s r → MoveIs (call_done x (MappingFrame old b' x' ∷ fs) (back_from s b p)) (call_done y gs (back_from r c q))
  away_ended b p c q {s = s} {r = r} (return_is z) f st = goes_is w (given_is z f) (away_given b p c q) (store_moved w s r st b c p q)
  away_ended b p c q {s = s} {r = r} (throw_is z) f st = goes_is w (done_is ForValue (fits_throw _) (throw_is z) f) (away_done b p c q) (store_moved w s r st b c p q)
  away_ended b p c q {s = s} {r = r} normal_is f st = goes_is w (given_is undefined_is f) (away_given b p c q) (store_moved w s r st b c p q)
  away_ended b p c q {s = s} {r = r} break_is f st = goes_is w (given_is undefined_is f) (away_given b p c q) (store_moved w s r st b c p q)
  away_ended b p c q {s = s} {r = r} continue_is f st = goes_is w (given_is undefined_is f) (away_given b p c q) (store_moved w s r st b c p q)

  -- at a frame that waits for a completion
  completed : {x y : Completion} {fs gs : List Frame} {s r : Store} → CompletionIs w x y → FramesAre w r.heap r.scopes ForCompletion fs gs → ScopeIs w (Done x) fs s.scope s.receiver r.scope r.receiver → StoreIs w s r → MoveIs (done x fs s) (done y gs r)
  completed x no_frames c st = finished_at x c st
  completed x (bottom_is m) c st = bottom_at x m c st
  completed x (turn_is e z f) (here c o) st = turn_done_rule x e z (record { frames = f; chain = c; receiver = o; store = st })
  completed x (for_copy_is l f) (here c o) st = copy_done_rule x l (record { frames = f; chain = c; receiver = o; store = st })
  completed x (for_turn_is l f) (here c o) st = for_done_rule x l (record { frames = f; chain = c; receiver = o; store = st })
  completed x (try_is d l k f) (here c o) st = try_done_rule x d l k (record { frames = f; chain = c; receiver = o; store = st })
  completed x (catch_frame_is l k f) (here c o) st = last_rule l x (moved_back (record { frames = f; chain = c; receiver = o; store = st }) k)
  completed x (last_frame_is y f) (here c o) st = last_done_rule x y (record { frames = f; chain = c; receiver = o; store = st })
  completed x (list_is m k f) (here c o) st = list_done_rule x m k (record { frames = f; chain = c; receiver = o; store = st })
  completed x (call_frame_is b p f) c st = call_ended x b p f st
  completed x (call_away b p c q f) k st = away_ended b p c q x f st

  -- a throw at a frame that waits for a value
  thrown_out : {a b : Value} {l m : Loop} {fs gs : List Frame} {s r : Store} → ValueIs w a b → LoopIs w l m → At w ForCompletion fs gs s r → MoveIs (Goes (Done (Throw a)) fs (back_to s l.back)) (Goes (Done (Throw b)) gs (back_to r m.back))
  thrown_out x (loop_is copies e u z k) h = passes x (moved_back h k)

  thrown : {a b : Value} {fs gs : List Frame} {s r : Store} → ValueIs w a b → FramesAre w r.heap r.scopes ForValue fs gs → ScopeIs w (Done (Throw a)) fs s.scope s.receiver r.scope r.receiver → StoreIs w s r → Joins (length s.mapping) (done (Throw a) fs s) (done (Throw b) gs r)
  thrown {a = a} {b = b} {s = s} {r = r} x (mapping_frame_is k {old = ms} {new = places} {m = m} {x = p} {y = q} {b = up} {c = over} {fs = fs'} {gs = gs'} maps mi kept c o f) sc st =
      departing laws w (Done (Throw a)) (Done (Throw b)) k ms places m p q up over fs' gs' s r (comes_throw b) maps mi kept c o f (λ heap scopes g. done_is ForValue (fits_throw _) (throw_is x) g) st
  thrown {s = s} x (pending_is q l vs m f) (here c o) st = one (length s.mapping) _ _ (passes x (record { frames = f; chain = c; receiver = o; store = st }))
  thrown {s = s} x (options_is l vs m f) (here c o) st = one (length s.mapping) _ _ (passes x (record { frames = f; chain = c; receiver = o; store = st }))
  thrown {s = s} x (bracket_read n f) (here c o) st = one (length s.mapping) _ _ (passes x (record { frames = f; chain = c; receiver = o; store = st }))
  thrown {s = s} x (bracket_write n e f) (here c o) st = one (length s.mapping) _ _ (passes x (record { frames = f; chain = c; receiver = o; store = st }))
  thrown {s = s} x (bracket_value n y f) (here c o) st = one (length s.mapping) _ _ (passes x (record { frames = f; chain = c; receiver = o; store = st }))
  thrown {s = s} x (logic_is op e f) (here c o) st = one (length s.mapping) _ _ (passes x (record { frames = f; chain = c; receiver = o; store = st }))
  thrown {s = s} x (choice_is y n f) (here c o) st = one (length s.mapping) _ _ (passes x (record { frames = f; chain = c; receiver = o; store = st }))
  thrown {s = s} x (change_is n op old f) (here c o) st = one (length s.mapping) _ _ (passes x (record { frames = f; chain = c; receiver = o; store = st }))
  thrown {s = s} x (base_is l k m f) (here c o) st = one (length s.mapping) _ _ (passes x (record { frames = f; chain = c; receiver = o; store = st }))
  thrown {s = s} x (key_is l y m f) (here c o) st = one (length s.mapping) _ _ (passes x (record { frames = f; chain = c; receiver = o; store = st }))
  thrown {s = s} x (callee_is l y m f) (here c o) st = one (length s.mapping) _ _ (passes x (record { frames = f; chain = c; receiver = o; store = st }))
  thrown {s = s} x (let_is n m f) (here c o) st = one (length s.mapping) _ _ (passes x (record { frames = f; chain = c; receiver = o; store = st }))
  thrown {s = s} x (const_is n m f) (here c o) st = one (length s.mapping) _ _ (passes x (record { frames = f; chain = c; receiver = o; store = st }))
  thrown {s = s} x (value_frame_is f) (here c o) st = one (length s.mapping) _ _ (passes x (record { frames = f; chain = c; receiver = o; store = st }))
  thrown {s = s} x (return_frame_is f) (here c o) st = one (length s.mapping) _ _ (passes x (record { frames = f; chain = c; receiver = o; store = st }))
  thrown {s = s} x (throw_frame_is f) (here c o) st = one (length s.mapping) _ _ (passes x (record { frames = f; chain = c; receiver = o; store = st }))
  thrown {s = s} x (if_is y n f) (here c o) st = one (length s.mapping) _ _ (passes x (record { frames = f; chain = c; receiver = o; store = st }))
  thrown {s = s} x (test_is e y f) (here c o) st = one (length s.mapping) _ _ (passes x (record { frames = f; chain = c; receiver = o; store = st }))
  thrown {s = s} x (for_let_is n m l f) (here c o) st = one (length s.mapping) _ _ (thrown_out x l (record { frames = f; chain = c; receiver = o; store = st }))
  thrown {s = s} x (for_const_is n m l f) (here c o) st = one (length s.mapping) _ _ (thrown_out x l (record { frames = f; chain = c; receiver = o; store = st }))
  thrown {s = s} x (for_init_is l f) (here c o) st = one (length s.mapping) _ _ (passes x (record { frames = f; chain = c; receiver = o; store = st }))
  thrown {s = s} x (for_test_is l f) (here c o) st = one (length s.mapping) _ _ (thrown_out x l (record { frames = f; chain = c; receiver = o; store = st }))
  thrown {s = s} x (for_update_is l f) (here c o) st = one (length s.mapping) _ _ (thrown_out x l (record { frames = f; chain = c; receiver = o; store = st }))

  pub done_at_frame : {wait : Wait} {x y : Completion} {fs gs : List Frame} {s r : Store} → Fits wait x → CompletionIs w x y → FramesAre w r.heap r.scopes wait fs gs → ScopeIs w (Done x) fs s.scope s.receiver r.scope r.receiver → StoreIs w s r → Joins (length s.mapping) (done x fs s) (done y gs r)
  done_at_frame {s = s} (fits_any _) x f c st = one (length s.mapping) _ _ (completed x f c st)
  done_at_frame (fits_throw _) (throw_is x) f c st = thrown x f c st
  done_at_frame {s = s} (fits_lost _) (throw_is x) (base_lost n b f) (here c o) st = one (length s.mapping) _ _ (passes x (record { frames = f; chain = c; receiver = o; store = st }))
