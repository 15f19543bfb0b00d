-- Which states of a program's run and of its emitted program's run correspond.
use Rattle.std.specs.Prelude.{◌≡◌, ℕ, ℤ, suc, ◌+◌, ◌≤◌, Bool, false, List, [], ◌∷◌, length, Option, Some, None, ◌⊎◌, slice_get, codes}
use Rattle.actx_match.specs.Pairing.{Paired, IsOwned}
use Rattle.actx_data.specs.declared.end.End.{End}
use Rattle.actx_data.specs.declared.shown.ErrorName.{ErrorName}
use Rattle.actx_data.specs.declared.shown.ErrorName.TheVariants.{TypeError}
use Rattle.actx_data.specs.declared.trace.TraceEvent.{TraceEvent}
use Rattle.actx_data.specs.declared.value.Value.{Value}
use Rattle.actx_data.specs.declared.value.Value.TheVariants as v
use Rattle.actx_grammar.specs.declared.operators.BinaryOp.{BinaryOp}
use Rattle.actx_grammar.specs.declared.operators.Form.TheVariants.{Log, NewVariable, NewError}
use Rattle.actx_grammar.specs.declared.operators.FunctionKind.{FunctionKind}
use Rattle.actx_grammar.specs.declared.operators.LogicOp.{LogicOp}
use Rattle.actx_grammar.specs.declared.operators.UnaryOp.{UnaryOp}
use Rattle.actx_grammar.specs.Grammar.{count}
use Rattle.actx_grammar.specs.Tree as t
use Rattle.actx_grammar.specs.Tree.{Expr, Exprs, MaybeExpr, Key, LetItems, ConstItems, Stmt, MaybeStmt, Catch, Last, Stmts}
use Rattle.actx_heap.specs.Texts.{same_text}
use Rattle.actx_heap.specs.Properties.{prop_of}
use Rattle.actx_heap.specs.Things.{Prop, Thing, Plain, Listed, Failure, Function}
use Rattle.actx_table.specs.Agent.{weak_props, weak_at}
use Rattle.actx_table.specs.Answers.{code_of, with_thing}
use Rattle.actx_table.specs.Laws.{Refuses, Equal}
use Rattle.actx_table.specs.Low.{p_}
use Rattle.actx_table.specs.Prelude.{name_now, name_variable, the_old, the_value, the_f, the_arguments, run_body}
use Rattle.actx_table.specs.PreludeState.{constant_at, IsBase, now_record, state_record, find_code, with_code, get_code, run_code, make_code, variable_code, MappingIs, running}
use Rattle.actx_table.specs.Renamed.{NamesAre, RunsAtOnce, ExprIs, KeyIs, ExprsAre, MaybeIs, LetsAre, ConstsAre, StmtIs, BranchIs, CatchIs, LastIs, StmtsAre}
use Rattle.actx_table.specs.Scopes.{cell_of, fixed_cell, with_call}
use Rattle.actx_table.specs.State.{Completion, Normal, Break, Continue, Return, Throw, Cell, Code, Closure, Native, VariableGet, VariableRun, WeakMapGet, WeakMapSet, Task, Eval, Exec, ExecPart, ExecList, ExecBody, Given, Done, Call, Op, Prefix, Infix, BuiltIn, SetVar, Read, Write, MakeObject, CallOf, Loop, Frame, Pending, LogicFrame, ChoiceFrame, ChangeFrame, BaseFrame, KeyFrame, CalleeFrame, LetFrame, ConstFrame, ValueFrame, ReturnFrame, ThrowFrame, IfFrame, TestFrame, TurnFrame, ForLet, ForConst, ForInit, ForCopy, ForTest, ForTurn, ForUpdate, TryFrame, CatchFrame, LastFrame, ListFrame, CallFrame, MappingFrame, Variable, Entry, Weak, Store, Now, Doing, Over, State, Move, Goes, Writes, Stops}

-- where the source's things and scopes stand in the target; and how many functions the program's list declares, which stand
-- in the target's heap before the prelude's things
pub record World : Type 0 where
  pub before : ℕ
  pub things : List ℕ
  pub scopes : List ℕ

-- VALUES
pub data ValueIs (w : World) : Value → Value → Type 0 where
  undefined_is : ValueIs w v.Undefined v.Undefined
  null_is : ValueIs w v.Null v.Null
  truth_is : (b : Bool) → ValueIs w (v.Truth b) (v.Truth b)
  num_is : (z : ℤ) → ValueIs w (v.Num z) (v.Num z)
  text_is : (u : List ℕ) → ValueIs w (v.Text u) (v.Text u)
  thing_is : (k j : ℕ) → slice_get w.things k ≡ Some j → ValueIs w (v.Thing k) (v.Thing j)

pub data ValuesAre (w : World) : List Value → List Value → Type 0 where
  no_values : ValuesAre w [] []
  more_values : {a b : Value} {xs ys : List Value} → ValueIs w a b → ValuesAre w xs ys → ValuesAre w (a ∷ xs) (b ∷ ys)

pub data OptionIs (w : World) : Option Value → Option Value → Type 0 where
  none_is : OptionIs w None None
  some_is : {a b : Value} → ValueIs w a b → OptionIs w (Some a) (Some b)

pub data CompletionIs (w : World) : Completion → Completion → Type 0 where
  normal_is : CompletionIs w Normal Normal
  break_is : CompletionIs w Break Break
  continue_is : CompletionIs w Continue Continue
  return_is : {a b : Value} → ValueIs w a b → CompletionIs w (Return a) (Return b)
  throw_is : {a b : Value} → ValueIs w a b → CompletionIs w (Throw a) (Throw b)

pub data PropsAre (w : World) : List Prop → List Prop → Type 0 where
  no_props : PropsAre w [] []
  more_props : (key : List ℕ) {a b : Value} {ps qs : List Prop} → ValueIs w a b → PropsAre w ps qs → PropsAre w (record { key = key; value = a } ∷ ps) (record { key = key; value = b } ∷ qs)

-- arguments: the target may have more of them, which are undefined
pub data ArgumentsAre (w : World) : List Value → List Value → Type 0 where
  no_arguments : ArgumentsAre w [] []
  padded_arguments : {ys : List Value} → ArgumentsAre w [] ys → ArgumentsAre w [] (v.Undefined ∷ ys)
  more_arguments : {a b : Value} {xs ys : List Value} → ValueIs w a b → ArgumentsAre w xs ys → ArgumentsAre w (a ∷ xs) (b ∷ ys)

-- SCOPES: the last one is the program's own, which stands at the target's first place
pub data ChainIs (w : World) : List ℕ → List ℕ → Type 0 where
  last_scope : (k : ℕ) → slice_get w.scopes k ≡ Some 0 → ChainIs w (k ∷ []) (0 ∷ [])
  more_scopes : (k j : ℕ) {ks js : List ℕ} → slice_get w.scopes k ≡ Some j → ChainIs w ks js → ChainIs w (k ∷ ks) (j ∷ js)

-- a cell of the prelude's: its name begins with __, and the one function that the program calls is found under its name
pub record IsOwn (before : ℕ) (d : Cell) : Type 0 where
  pub more : List ℕ
  pub begins : d.name ≡ 95 ∷ 95 ∷ more
  pub calls : (same_text name_variable d.name ≡ false) ⊎ (Some d ≡ constant_at name_variable (9 + before))

-- the prelude's constants stand in the program's own scope, before its names
pub data CellsAre (w : World) : List Cell → List Cell → Type 0 where
  no_cells : CellsAre w [] []
  more_cells : (x : List ℕ) (constant : Bool) {a b : Option Value} {cs ds : List Cell} → OptionIs w a b → CellsAre w cs ds → CellsAre w (record { name = x; value = a; constant = constant } ∷ cs) (record { name = p_ x; value = b; constant = constant } ∷ ds)
  own_cell : (d : Cell) {cs ds : List Cell} → IsOwn w.before d → CellsAre w cs ds → CellsAre w cs (d ∷ ds)

-- THINGS
pub data ThingIs (w : World) : Thing Code → Thing Code → Type 0 where
  failure_is : (name : ErrorName) (message : List ℕ) → ThingIs w (Failure name message) (Failure name message)
  closure_is : {kind : FunctionKind} {xs ys : List (List ℕ)} {ss ts : Stmts} {sc tc : List ℕ} {a b : Value} → RunsAtOnce kind → NamesAre xs ys → StmtsAre ss ts → ChainIs w sc tc → ValueIs w a b → ThingIs w (Function (Closure kind xs ss sc a)) (Function (Closure kind ys ts tc b))
  -- no such thing has options of a variable
  listed_is : {ps qs : List Prop} → PropsAre w ps qs → prop_of (codes "defaultValue") qs ≡ None → ThingIs w (Listed ps) (Listed qs)
  plain_is : {ps qs : List Prop} → PropsAre w ps qs → ThingIs w (Plain ps) (Plain qs)
  get_is : ThingIs w (Function (Native VariableGet)) (Function get_code)
  run_is : ThingIs w (Function (Native VariableRun)) (Function run_code)

-- mappings: the same numbers with values that correspond
pub data MapsAre (w : World) : List (ℕ × Value) → List (ℕ × Value) → Type 0 where
  no_maps : MapsAre w [] []
  more_maps : (n : ℕ) {a b : Value} {ms ns : List (ℕ × Value)} → ValueIs w a b → MapsAre w ms ns → MapsAre w ((n, a) ∷ ms) ((n, b) ∷ ns)

-- the variables with the entries of the states
pub data VariablesAre (w : World) (heap : List (Thing Code)) : List Variable → List Entry → Type 0 where
  no_variables : VariablesAre w heap [] []
  more_variables : (k j n r : ℕ) {a b : Value} {xs : List Variable} {es : List Entry} → slice_get w.things k ≡ Some j → ValueIs w a b → slice_get heap r ≡ Some (state_record n b) → VariablesAre w heap xs es → VariablesAre w heap (record { place = k; number = n; default = a } ∷ xs) (record { place = j; value = v.Thing r } ∷ es)

-- the things that were shown, in their order
pub data ShownAre (w : World) : List ℕ → List ℕ → Type 0 where
  no_shown : ShownAre w [] []
  more_shown_are : (k j : ℕ) {ks js : List ℕ} → slice_get w.things k ≡ Some j → ShownAre w ks js → ShownAre w (k ∷ ks) (j ∷ js)

-- FRAMES
-- a scope of the prelude's below the program's calls, which keeps the mapping that was there before
pub record KeptAt (w : World) (scopes : List (List Cell)) (k : ℕ) (old : Value) : Type 0 where
  pub cells : List Cell
  pub has : slice_get scopes k ≡ Some cells
  pub kept : cell_of the_old cells ≡ Some (fixed_cell the_old old)
  pub free : cell_of name_now cells ≡ None
  pub own : IsOwned w.scopes k

pub data OpIs (w : World) : Op → Op → Type 0 where
  prefix_op : (op : UnaryOp) → OpIs w (Prefix op) (Prefix op)
  infix_op : (op : BinaryOp) → OpIs w (Infix op) (Infix op)
  log_op : OpIs w (BuiltIn Log) (BuiltIn Log)
  error_op : (name : ErrorName) → OpIs w (BuiltIn (NewError name)) (BuiltIn (NewError name))
  set_op : (x : List ℕ) → OpIs w (SetVar x) (SetVar (p_ x))
  read_op : (key : Option (List ℕ)) → OpIs w (Read key) (Read key)
  write_op : (key : Option (List ℕ)) → OpIs w (Write key) (Write key)
  object_op : (keys : List (Option (List ℕ))) → OpIs w (MakeObject keys) (MakeObject keys)
  call_op : {a b : Value} → ValueIs w a b → OpIs w (CallOf a) (CallOf b)

-- how many values an operation may have at most: a call has what is called and 8 arguments
abbrev pub Holds : Op → ℕ → Type 0
Holds (CallOf r) n = n ≤ 9
Holds _ n = Unit {0}

pub data LoopIs (w : World) : Loop → Loop → Type 0 where
  loop_is : (copies : Bool) {test text update change : MaybeExpr} {st dt : Stmt} {b c : List ℕ} → MaybeIs test text → MaybeIs update change → StmtIs st dt → ChainIs w b c → LoopIs w (record { copies = copies; test = test; update = update; body = st; back = b }) (record { copies = copies; test = text; update = change; body = dt; back = c })

-- what the topmost frame waits for; a call's base without its property is met by a throw alone
pub data Wait : Type 0 where
  ForValue : Wait
  ForCompletion : Wait
  ForThrow : Wait

pub data FramesAre (w : World) (heap : List (Thing Code)) (scopes : List (List Cell)) : Wait → List Frame → List Frame → Type 0 where
  no_frames : FramesAre w heap scopes ForCompletion [] []
  -- the program's own list
  bottom_is : {ss ts : Stmts} → StmtsAre ss ts → FramesAre w heap scopes ForCompletion (ListFrame ss [] ∷ []) (ListFrame ts [] ∷ [])
  -- EXPRESSIONS
  pending_is : {o p : Op} {xs ys : List Value} {es ds : Exprs} {fs gs : List Frame} → OpIs w o p → Holds o (suc (length xs + count es)) → ValuesAre w xs ys → ExprsAre es ds → FramesAre w heap scopes ForValue fs gs → FramesAre w heap scopes ForValue (Pending o xs es ∷ fs) (Pending p ys ds ∷ gs)
  -- the part of a variable's constructor, which is an argument of the prelude's function
  options_is : {xs ys : List Value} {es ds : Exprs} {fs gs : List Frame} → suc (length xs + count es) ≤ 1 → ValuesAre w xs ys → ExprsAre es ds → FramesAre w heap scopes ForValue fs gs → FramesAre w heap scopes ForValue (Pending (BuiltIn NewVariable) xs es ∷ fs) (Pending (CallOf v.Undefined) (v.Thing (9 + w.before) ∷ ys) ds ∷ gs)
  -- a name after a dot that is a value in brackets
  bracket_read : (x : List ℕ) {fs gs : List Frame} → FramesAre w heap scopes ForValue fs gs → FramesAre w heap scopes ForValue (Pending (Read (Some x)) [] t.none ∷ fs) (Pending (Read None) [] (t.also (t.Text x) t.none) ∷ gs)
  bracket_write : (x : List ℕ) {e d : Expr} {fs gs : List Frame} → ExprIs e d → FramesAre w heap scopes ForValue fs gs → FramesAre w heap scopes ForValue (Pending (Write (Some x)) [] (t.also e t.none) ∷ fs) (Pending (Write None) [] (t.also (t.Text x) (t.also d t.none)) ∷ gs)
  bracket_value : (x : List ℕ) {a b : Value} {fs gs : List Frame} → ValueIs w a b → FramesAre w heap scopes ForValue fs gs → FramesAre w heap scopes ForValue (Pending (Write (Some x)) (a ∷ []) t.none ∷ fs) (Pending (Write None) (b ∷ v.Text x ∷ []) t.none ∷ gs)
  logic_is : (op : LogicOp) {e d : Expr} {fs gs : List Frame} → ExprIs e d → FramesAre w heap scopes ForValue fs gs → FramesAre w heap scopes ForValue (LogicFrame op e ∷ fs) (LogicFrame op d ∷ gs)
  choice_is : {a b c d : Expr} {fs gs : List Frame} → ExprIs a c → ExprIs b d → FramesAre w heap scopes ForValue fs gs → FramesAre w heap scopes ForValue (ChoiceFrame a b ∷ fs) (ChoiceFrame c d ∷ gs)
  change_is : (x : List ℕ) (op : BinaryOp) {a b : Value} {fs gs : List Frame} → ValueIs w a b → FramesAre w heap scopes ForValue fs gs → FramesAre w heap scopes ForValue (ChangeFrame x op a ∷ fs) (ChangeFrame (p_ x) op b ∷ gs)
  base_is : {key lock : Key} {es ds : Exprs} {fs gs : List Frame} → count es ≤ 8 → KeyIs key lock → ExprsAre es ds → FramesAre w heap scopes ForValue fs gs → FramesAre w heap scopes ForValue (BaseFrame key es ∷ fs) (BaseFrame lock ds ∷ gs)
  base_lost : (x : List ℕ) (b : Value) {es ds : Exprs} {fs gs : List Frame} → FramesAre w heap scopes ForValue fs gs → FramesAre w heap scopes ForThrow (BaseFrame (t.Dot x) es ∷ fs) (KeyFrame b ds ∷ gs)
  key_is : {a b : Value} {es ds : Exprs} {fs gs : List Frame} → count es ≤ 8 → ValueIs w a b → ExprsAre es ds → FramesAre w heap scopes ForValue fs gs → FramesAre w heap scopes ForValue (KeyFrame a es ∷ fs) (KeyFrame b ds ∷ gs)
  callee_is : {a b : Value} {es ds : Exprs} {fs gs : List Frame} → count es ≤ 8 → ValueIs w a b → ExprsAre es ds → FramesAre w heap scopes ForValue fs gs → FramesAre w heap scopes ForValue (CalleeFrame a es ∷ fs) (CalleeFrame b ds ∷ gs)
  -- STATEMENTS that wait for a value
  let_is : (x : List ℕ) {is js : LetItems} {fs gs : List Frame} → LetsAre is js → FramesAre w heap scopes ForCompletion fs gs → FramesAre w heap scopes ForValue (LetFrame x is ∷ fs) (LetFrame (p_ x) js ∷ gs)
  const_is : (x : List ℕ) {is js : ConstItems} {fs gs : List Frame} → ConstsAre is js → FramesAre w heap scopes ForCompletion fs gs → FramesAre w heap scopes ForValue (ConstFrame x is ∷ fs) (ConstFrame (p_ x) js ∷ gs)
  value_frame_is : {fs gs : List Frame} → FramesAre w heap scopes ForCompletion fs gs → FramesAre w heap scopes ForValue (ValueFrame ∷ fs) (ValueFrame ∷ gs)
  return_frame_is : {fs gs : List Frame} → FramesAre w heap scopes ForCompletion fs gs → FramesAre w heap scopes ForValue (ReturnFrame ∷ fs) (ReturnFrame ∷ gs)
  throw_frame_is : {fs gs : List Frame} → FramesAre w heap scopes ForCompletion fs gs → FramesAre w heap scopes ForValue (ThrowFrame ∷ fs) (ThrowFrame ∷ gs)
  if_is : {st dt : Stmt} {other another : MaybeStmt} {fs gs : List Frame} → StmtIs st dt → BranchIs other another → FramesAre w heap scopes ForCompletion fs gs → FramesAre w heap scopes ForValue (IfFrame st other ∷ fs) (IfFrame dt another ∷ gs)
  test_is : {e d : Expr} {st dt : Stmt} {fs gs : List Frame} → ExprIs e d → StmtIs st dt → FramesAre w heap scopes ForCompletion fs gs → FramesAre w heap scopes ForValue (TestFrame e st ∷ fs) (TestFrame d dt ∷ gs)
  for_let_is : (x : List ℕ) {is js : LetItems} {l m : Loop} {fs gs : List Frame} → LetsAre is js → LoopIs w l m → FramesAre w heap scopes ForCompletion fs gs → FramesAre w heap scopes ForValue (ForLet x is l ∷ fs) (ForLet (p_ x) js m ∷ gs)
  for_const_is : (x : List ℕ) {is js : ConstItems} {l m : Loop} {fs gs : List Frame} → ConstsAre is js → LoopIs w l m → FramesAre w heap scopes ForCompletion fs gs → FramesAre w heap scopes ForValue (ForConst x is l ∷ fs) (ForConst (p_ x) js m ∷ gs)
  for_init_is : {l m : Loop} {fs gs : List Frame} → LoopIs w l m → FramesAre w heap scopes ForCompletion fs gs → FramesAre w heap scopes ForValue (ForInit l ∷ fs) (ForInit m ∷ gs)
  for_test_is : {l m : Loop} {fs gs : List Frame} → LoopIs w l m → FramesAre w heap scopes ForCompletion fs gs → FramesAre w heap scopes ForValue (ForTest l ∷ fs) (ForTest m ∷ gs)
  for_update_is : {l m : Loop} {fs gs : List Frame} → LoopIs w l m → FramesAre w heap scopes ForCompletion fs gs → FramesAre w heap scopes ForValue (ForUpdate l ∷ fs) (ForUpdate m ∷ gs)
  -- STATEMENTS that wait for a completion
  turn_is : {e d : Expr} {st dt : Stmt} {fs gs : List Frame} → ExprIs e d → StmtIs st dt → FramesAre w heap scopes ForCompletion fs gs → FramesAre w heap scopes ForCompletion (TurnFrame e st ∷ fs) (TurnFrame d dt ∷ gs)
  for_copy_is : {l m : Loop} {fs gs : List Frame} → LoopIs w l m → FramesAre w heap scopes ForCompletion fs gs → FramesAre w heap scopes ForCompletion (ForCopy l ∷ fs) (ForCopy m ∷ gs)
  for_turn_is : {l m : Loop} {fs gs : List Frame} → LoopIs w l m → FramesAre w heap scopes ForCompletion fs gs → FramesAre w heap scopes ForCompletion (ForTurn l ∷ fs) (ForTurn m ∷ gs)
  try_is : {c d : Catch} {l m : Last} {a b : List ℕ} {fs gs : List Frame} → CatchIs c d → LastIs l m → ChainIs w a b → FramesAre w heap scopes ForCompletion fs gs → FramesAre w heap scopes ForCompletion (TryFrame c l a ∷ fs) (TryFrame d m b ∷ gs)
  catch_frame_is : {l m : Last} {a b : List ℕ} {fs gs : List Frame} → LastIs l m → ChainIs w a b → FramesAre w heap scopes ForCompletion fs gs → FramesAre w heap scopes ForCompletion (CatchFrame l a ∷ fs) (CatchFrame m b ∷ gs)
  last_frame_is : {c d : Completion} {fs gs : List Frame} → CompletionIs w c d → FramesAre w heap scopes ForCompletion fs gs → FramesAre w heap scopes ForCompletion (LastFrame c ∷ fs) (LastFrame d ∷ gs)
  list_is : {ss ts : Stmts} {b c : List ℕ} {fs gs : List Frame} → StmtsAre ss ts → ChainIs w b c → FramesAre w heap scopes ForCompletion fs gs → FramesAre w heap scopes ForCompletion (ListFrame ss b ∷ fs) (ListFrame ts c ∷ gs)
  call_frame_is : {b c : List ℕ} {x y : Value} {fs gs : List Frame} → ChainIs w b c → ValueIs w x y → FramesAre w heap scopes ForValue fs gs → FramesAre w heap scopes ForCompletion (CallFrame b x ∷ fs) (CallFrame c y ∷ gs)
  -- a function that run called: the callers' scopes are none of each other's
  call_away : (b : List ℕ) (x : Value) (c : List ℕ) (y : Value) {old : List (ℕ × Value)} {b' : List ℕ} {x' : Value} {fs gs : List Frame} → FramesAre w heap scopes ForValue (MappingFrame old b' x' ∷ fs) gs → FramesAre w heap scopes ForCompletion (CallFrame b x ∷ MappingFrame old b' x' ∷ fs) (CallFrame c y ∷ gs)
  mapping_frame_is : (k : ℕ) {old new : List (ℕ × Value)} {m x y : Value} {b c : List ℕ} {fs gs : List Frame} → MapsAre w old new → MappingIs Equal heap new m → KeptAt w scopes k m → ChainIs w b c → ValueIs w x y → FramesAre w heap scopes ForValue fs gs → FramesAre w heap scopes ForValue (MappingFrame old b x ∷ fs) (running k c y gs)

-- which completions a frame may meet
pub data Fits : Wait → Completion → Type 0 where
  fits_any : (c : Completion) → Fits ForCompletion c
  fits_throw : (a : Value) → Fits ForValue (Throw a)
  fits_lost : (a : Value) → Fits ForThrow (Throw a)

-- TASKS
pub data TaskIs (w : World) (heap : List (Thing Code)) (scopes : List (List Cell)) : Task → List Frame → Task → List Frame → Type 0 where
  eval_is : {e d : Expr} {fs gs : List Frame} → ExprIs e d → FramesAre w heap scopes ForValue fs gs → TaskIs w heap scopes (Eval e) fs (Eval d) gs
  exec_is : {st dt : Stmt} {fs gs : List Frame} → StmtIs st dt → FramesAre w heap scopes ForCompletion fs gs → TaskIs w heap scopes (Exec st) fs (Exec dt) gs
  exec_part_is : {st dt : Stmt} {fs gs : List Frame} → StmtIs st dt → FramesAre w heap scopes ForCompletion fs gs → TaskIs w heap scopes (ExecPart st) fs (ExecPart dt) gs
  exec_list_is : {ss ts : Stmts} {fs gs : List Frame} → StmtsAre ss ts → FramesAre w heap scopes ForCompletion fs gs → TaskIs w heap scopes (ExecList ss) fs (ExecList ts) gs
  exec_body_is : {ss ts : Stmts} {fs gs : List Frame} → StmtsAre ss ts → FramesAre w heap scopes ForCompletion fs gs → TaskIs w heap scopes (ExecBody ss) fs (ExecBody ts) gs
  given_is : {a b : Value} {fs gs : List Frame} → ValueIs w a b → FramesAre w heap scopes ForValue fs gs → TaskIs w heap scopes (Given a) fs (Given b) gs
  done_is : (wait : Wait) {c d : Completion} {fs gs : List Frame} → Fits wait c → CompletionIs w c d → FramesAre w heap scopes wait fs gs → TaskIs w heap scopes (Done c) fs (Done d) gs
  call_is : {f g x y : Value} {xs ys : List Value} {fs gs : List Frame} → length xs ≤ 8 → ValueIs w f g → ValueIs w x y → ArgumentsAre w xs ys → FramesAre w heap scopes ForValue fs gs → TaskIs w heap scopes (Call f x xs) fs (Call g y ys) gs

-- the scopes and receivers correspond, but between run and the function that it calls, and where no frame is left
pub data ScopeIs (w : World) : Task → List Frame → List ℕ → Value → List ℕ → Value → Type 0 where
  here : {task : Task} {fs : List Frame} {b c : List ℕ} {x y : Value} → ChainIs w b c → ValueIs w x y → ScopeIs w task fs b x c y
  away_call : {f : Value} {xs : List Value} {old : List (ℕ × Value)} {b' : List ℕ} {x' : Value} {fs : List Frame} (b : List ℕ) (x : Value) (c : List ℕ) (y : Value) → ScopeIs w (Call f v.Undefined xs) (MappingFrame old b' x' ∷ fs) b x c y
  away_given : {a : Value} {old : List (ℕ × Value)} {b' : List ℕ} {x' : Value} {fs : List Frame} (b : List ℕ) (x : Value) (c : List ℕ) (y : Value) → ScopeIs w (Given a) (MappingFrame old b' x' ∷ fs) b x c y
  away_done : {d : Completion} {old : List (ℕ × Value)} {b' : List ℕ} {x' : Value} {fs : List Frame} (b : List ℕ) (x : Value) (c : List ℕ) (y : Value) → ScopeIs w (Done d) (MappingFrame old b' x' ∷ fs) b x c y
  away_end : {d : Completion} (b : List ℕ) (x : Value) (c : List ℕ) (y : Value) → ScopeIs w (Done d) [] b x c y

-- STORES
-- the prelude's constants, in the program's own scope
pub record TopIs (before : ℕ) (scopes : List (List Cell)) : Type 0 where
  pub cells : List Cell
  pub has : slice_get scopes 0 ≡ Some cells
  pub base : IsBase before cells

-- its functions, and the methods of its states
pub record PreludeIs (before : ℕ) (heap : List (Thing Code)) : Type 0 where
  pub weak_get_at : slice_get heap 0 ≡ Some (Function (Native WeakMapGet))
  pub weak_set_at : slice_get heap 1 ≡ Some (Function (Native WeakMapSet))
  pub states_at : slice_get heap (2 + before) ≡ Some (Listed weak_props)
  pub find_at : slice_get heap (4 + before) ≡ Some (Function find_code)
  pub with_at : slice_get heap (5 + before) ≡ Some (Function with_code)
  pub make_at : slice_get heap (8 + before) ≡ Some (Function make_code)
  pub variable_at : slice_get heap (9 + before) ≡ Some (Function variable_code)

-- the variables with the states, and the mapping with the record of the current one
pub record AgentIs (w : World) (heap : List (Thing Code)) (weak : List Weak) (mapping : List (ℕ × Value)) (variables : List Variable) : Type 0 where
  pub entries : List Entry
  pub entries_at : weak_at (2 + w.before) weak ≡ Some entries
  pub variables_are : VariablesAre w heap variables entries
  pub current : Value
  pub now_at : slice_get heap (3 + w.before) ≡ Some (now_record current (length variables))
  pub now_own : IsOwned w.things (3 + w.before)
  pub places : List (ℕ × Value)
  pub maps_are : MapsAre w mapping places
  pub mapping_is : MappingIs Equal heap places current

-- no function waits for an event or as a job
pub record IsQuiet (s r : Store) : Type 0 where
  pub source_callbacks : s.callbacks ≡ []
  pub target_callbacks : r.callbacks ≡ []
  pub source_jobs : s.jobs ≡ []
  pub target_jobs : r.jobs ≡ []

-- all but the scope and the receiver, which the tasks speak of
pub record StoreIs (w : World) (s r : Store) : Type 0 where
  pub scopes : Paired (CellsAre w) w.scopes s.scopes r.scopes
  pub heap : Paired (ThingIs w) w.things s.heap r.heap
  pub shown : ShownAre w s.shown r.shown
  pub events : r.events ≡ s.events
  pub quiet : IsQuiet s r
  pub top : TopIs w.before r.scopes
  pub prelude : PreludeIs w.before r.heap
  pub agent : AgentIs w r.heap r.weak s.mapping s.variables
  -- the methods of variables are the source's first things
  pub get_method : ValueIs w (v.Thing 0) (v.Thing (6 + w.before))
  pub run_method : ValueIs w (v.Thing 1) (v.Thing (7 + w.before))

-- STATES
-- a call of run with what can't be called: the source has its mapping in place and calls it, the target is in the call of run
pub record IsRefused (w : World) (f y : Value) (ws : List Value) (fs gs : List Frame) (s r : Store) : Type 0 where
  pub none : code_of s.heap f ≡ None
  pub refuses : Refuses run_code r y ws gs
  pub frames : FramesAre w r.heap r.scopes ForValue fs gs
  pub chain : ChainIs w s.scope r.scope
  pub receiver : ValueIs w s.receiver r.receiver
  pub store : StoreIs w s r

abbrev pub run_entered : Store → Value → List Value → Store
run_entered r y ws = with_call r (0 ∷ []) y (the_value ∷ the_f ∷ the_arguments) ws run_body

abbrev pub mapped_to : Store → List (ℕ × Value) → Store
mapped_to s ms = record s { mapping = ms }

pub data NowIs : Now → List Frame → Store → Now → List Frame → Store → Type 0 where
  doing_is : (w : World) {a b : Task} {fs gs : List Frame} {s r : Store} → TaskIs w r.heap r.scopes a fs b gs → ScopeIs w a fs s.scope s.receiver r.scope r.receiver → StoreIs w s r → NowIs (Doing a) fs s (Doing b) gs r
  refusing_is : (w : World) (f y : Value) (xs ws : List Value) (ms : List (ℕ × Value)) {fs gs : List Frame} {s r : Store} → IsRefused w f y ws fs gs s r → NowIs (Doing (Call f v.Undefined xs)) (MappingFrame s.mapping s.scope s.receiver ∷ fs) (mapped_to s ms) (Doing (ExecBody run_body)) (CallFrame r.scope r.receiver ∷ gs) (run_entered r y ws)
  refused_is : (w : World) (f y : Value) (ws : List Value) (ms : List (ℕ × Value)) {fs gs : List Frame} {s r : Store} → IsRefused w f y ws fs gs s r → NowIs (Doing (Done (Throw (v.Thing (length s.heap))))) (MappingFrame s.mapping s.scope s.receiver ∷ fs) (with_thing (mapped_to s ms) (Failure TypeError [])) (Doing (ExecBody run_body)) (CallFrame r.scope r.receiver ∷ gs) (run_entered r y ws)
  over_is : (e : End) {fs gs : List Frame} {s r : Store} → NowIs (Over e) fs s (Over e) gs r

pub record Related (s r : State) : Type 0 where
  pub now : NowIs s.now s.frames s.store r.now r.frames r.store
  pub trace : r.trace ≡ s.trace

-- moves that lead to related states
pub data MoveIs : Move → Move → Type 0 where
  goes_is : (w : World) {a b : Task} {fs gs : List Frame} {s r : Store} → TaskIs w r.heap r.scopes a fs b gs → ScopeIs w a fs s.scope s.receiver r.scope r.receiver → StoreIs w s r → MoveIs (Goes a fs s) (Goes b gs r)
  writes_is : (e : TraceEvent) (w : World) {a b : Task} {fs gs : List Frame} {s r : Store} → TaskIs w r.heap r.scopes a fs b gs → ScopeIs w a fs s.scope s.receiver r.scope r.receiver → StoreIs w s r → MoveIs (Writes e a fs s) (Writes e b gs r)
  stops_is : (e : End) → MoveIs (Stops e) (Stops e)
