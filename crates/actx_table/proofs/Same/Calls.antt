-- The rows of calls.
use Rattle.std.proofs.Common.{ℕ, ◌≤◌, List, ◌∷◌, length, Option, Some, refl}
use Rattle.actx_data.specs.declared.shown.ErrorName.TheVariants.{TypeError}
use Rattle.actx_data.specs.declared.value.Value.{Value}
use Rattle.actx_grammar.specs.declared.operators.FunctionKind.{FunctionKind}
use Rattle.actx_grammar.specs.declared.side.Side.TheVariants.{Source, Plain}
use Rattle.actx_grammar.specs.Tree.{Stmts}
use Rattle.actx_heap.specs.Things.{Thing}
use Rattle.actx_table.specs.Answers.{code_in}
use Rattle.actx_table.specs.Expressions.{call_code, call}
use Rattle.actx_table.specs.Related.{World, ValueIs, undefined_is, null_is, truth_is, num_is, text_is, thing_is, ArgumentsAre, ChainIs, ThingIs, failure_is, closure_is, listed_is, plain_is, get_is, run_is, ForValue, ForCompletion, FramesAre, call_frame_is, call_away, exec_body_is, ScopeIs, here, away_call, StoreIs, goes_is}
use Rattle.actx_table.specs.Renamed.{RunsAtOnce, normal_runs, arrow_runs, NamesAre, StmtsAre}
use Rattle.actx_table.specs.Laws.{Laws}
use Rattle.actx_table.specs.State.{Code, Closure, Call, CallFrame, Cell, Frame, Store}
use Rattle.actx_table.proofs.Same.Growth.{Grows, value_later, chain_later, frames_later}
use Rattle.actx_table.proofs.Same.Alike.{PlacesAre, places_are, places}
use Rattle.actx_table.proofs.Same.Entered.{entered_later, call_entered}
use Rattle.actx_table.proofs.Same.Variables.{this_is}
use Rattle.actx_table.proofs.Same.Joins.{Joins, one, throws_rule}
use Rattle.actx_table.proofs.Same.Methods.{getting, run_called}

-- the caller's frame, in a later world
called : (w w' : World) (grows : Grows w w') (heap : List (Thing Code)) (scopes : List (List Cell)) (u x : Value) (vs : List Value) (fs gs : List Frame) (b c : List ℕ) (p q : Value) → FramesAre w' heap scopes ForValue fs gs → ScopeIs w (Call u x vs) fs b p c q → FramesAre w' heap scopes ForCompletion (CallFrame b p ∷ fs) (CallFrame c q ∷ gs)
called w w' grows heap scopes u x vs fs gs b c p q f (here h k) = call_frame_is (chain_later w w' grows b c h) (value_later w w' grows p q k) f
called w w' grows heap scopes u x vs fs gs b c p q f (away_call _ _ _ _) = call_away b p c q f

module _ (laws : Laws) (w : World) where
  closure_called : {kind : FunctionKind} {xs ys : List (List ℕ)} {ss ts : Stmts} {sc tc : List ℕ} {a b : Value} (u x y : Value) (vs ws : List Value) (fs gs : List Frame) (s r : Store) → RunsAtOnce kind → NamesAre xs ys → StmtsAre ss ts → ChainIs w sc tc → ValueIs w a b → ValueIs w x y → ArgumentsAre w vs ws → FramesAre w r.heap r.scopes ForValue fs gs → ScopeIs w (Call u x vs) fs s.scope s.receiver r.scope r.receiver → StoreIs w s r → Joins (length s.mapping) (call_code Source (Some (Closure kind xs ss sc a)) x vs fs s) (call_code Plain (Some (Closure kind ys ts tc b)) y ws gs r)
  closure_called u x y vs ws fs gs s r normal_runs n m k o h hs f c st =
      let e = call_entered w s r st _ _ x y _ _ vs ws _ _ n hs m k h in
      one (length s.mapping) _ _ (goes_is e.world (exec_body_is m (called w e.world e.adds.grows _ _ u x vs fs gs _ _ _ _ (frames_later (entered_later w s r _ _ e) f) c)) (here e.chain e.receiver) e.store)
  closure_called {a = a} {b = b} u x y vs ws fs gs s r arrow_runs n m k o h hs f c st =
      let e = call_entered w s r st _ _ a b _ _ vs ws _ _ n hs m k o in
      one (length s.mapping) _ _ (goes_is e.world (exec_body_is m (called w e.world e.adds.grows _ _ u x vs fs gs _ _ _ _ (frames_later (entered_later w s r _ _ e) f) c)) (here e.chain e.receiver) e.store)

  thing_called : (a b : Thing Code) (u x y : Value) (vs ws : List Value) (fs gs : List Frame) (s r : Store) → ThingIs w a b → ValueIs w x y → length vs ≤ 8 → ArgumentsAre w vs ws → FramesAre w r.heap r.scopes ForValue fs gs → ScopeIs w (Call u x vs) fs s.scope s.receiver r.scope r.receiver → StoreIs w s r → Joins (length s.mapping) (call_code Source (code_in (Some a)) x vs fs s) (call_code Plain (code_in (Some b)) y ws gs r)
  thing_called a b u x y vs ws fs gs s r (closure_is kind n m c o) h long hs f sc st = closure_called u x y vs ws fs gs s r kind n m c o h hs f sc st
  thing_called a b u x y vs ws fs gs s r (failure_is name message) h long hs f sc st = one (length s.mapping) _ _ (throws_rule w TypeError ForValue (Call u x vs) fs gs s r f sc st)
  thing_called a b u x y vs ws fs gs s r (listed_is p q) h long hs f sc st = one (length s.mapping) _ _ (throws_rule w TypeError ForValue (Call u x vs) fs gs s r f sc st)
  thing_called a b u x y vs ws fs gs s r (plain_is p) h long hs f sc st = one (length s.mapping) _ _ (throws_rule w TypeError ForValue (Call u x vs) fs gs s r f sc st)
  thing_called a b u x y vs ws fs gs s r get_is h long hs f sc st = getting laws w _ _ (Call u x vs) y ws fs gs s r st (this_is w s r st x y h) refl f sc
  thing_called a b u x y vs ws fs gs s r run_is h long hs f sc st = run_called laws w u x y vs ws fs gs s r st h long hs f sc

  places_called : (a b : Option (Thing Code)) (u x y : Value) (vs ws : List Value) (fs gs : List Frame) (s r : Store) → PlacesAre w a b → ValueIs w x y → length vs ≤ 8 → ArgumentsAre w vs ws → FramesAre w r.heap r.scopes ForValue fs gs → ScopeIs w (Call u x vs) fs s.scope s.receiver r.scope r.receiver → StoreIs w s r → Joins (length s.mapping) (call_code Source (code_in a) x vs fs s) (call_code Plain (code_in b) y ws gs r)
  places_called a b u x y vs ws fs gs s r (places_are p) h long hs f sc st = thing_called _ _ u x y vs ws fs gs s r p h long hs f sc st

  pub value_called : (p q x y : Value) (vs ws : List Value) (fs gs : List Frame) (s r : Store) → ValueIs w p q → ValueIs w x y → length vs ≤ 8 → ArgumentsAre w vs ws → FramesAre w r.heap r.scopes ForValue fs gs → ScopeIs w (Call p x vs) fs s.scope s.receiver r.scope r.receiver → StoreIs w s r → Joins (length s.mapping) (call Source p x vs fs s) (call Plain q y ws gs r)
  value_called p q x y vs ws fs gs s r (thing_is k j e) h long hs f sc st = places_called _ _ p x y vs ws fs gs s r (places w s.heap r.heap st.heap k j e) h long hs f sc st
  value_called p q x y vs ws fs gs s r undefined_is h long hs f sc st = one (length s.mapping) _ _ (throws_rule w TypeError ForValue (Call p x vs) fs gs s r f sc st)
  value_called p q x y vs ws fs gs s r null_is h long hs f sc st = one (length s.mapping) _ _ (throws_rule w TypeError ForValue (Call p x vs) fs gs s r f sc st)
  value_called p q x y vs ws fs gs s r (truth_is b) h long hs f sc st = one (length s.mapping) _ _ (throws_rule w TypeError ForValue (Call p x vs) fs gs s r f sc st)
  value_called p q x y vs ws fs gs s r (num_is z) h long hs f sc st = one (length s.mapping) _ _ (throws_rule w TypeError ForValue (Call p x vs) fs gs s r f sc st)
  value_called p q x y vs ws fs gs s r (text_is u) h long hs f sc st = one (length s.mapping) _ _ (throws_rule w TypeError ForValue (Call p x vs) fs gs s r f sc st)
