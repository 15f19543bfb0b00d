-- Which states of a program's run and of its emitted program's run correspond.
use Rattle.std.specs.Prelude.{◌≡◌, ℕ, ℤ, pos, suc, ◌+◌, ◌≤◌, Bool, true, false, List, [], ◌∷◌, length, Option, Some, None, ◌⊎◌, slice_get, codes}
use Rattle.actx_match.specs.Pairing.{Paired, IsOwned}
use Rattle.actx_data.specs.declared.end.End.{End}
use Rattle.actx_data.specs.declared.shown.ErrorName.{ErrorName}
use Rattle.actx_data.specs.declared.trace.TraceEvent.{TraceEvent}
use Rattle.actx_data.specs.declared.value.Value.{Value}
use Rattle.actx_data.specs.declared.value.Value.TheVariants as v
use Rattle.actx_grammar.specs.declared.operators.BinaryOp.{BinaryOp}
use Rattle.actx_grammar.specs.declared.operators.Form.TheVariants.{Log, NewVariable}
use Rattle.actx_grammar.specs.declared.operators.FunctionKind.TheVariants.{Normal as normal_kind, Arrow as arrow_kind}
use Rattle.actx_grammar.specs.Grammar.{count}
use Rattle.actx_rules.specs.Texts.{same_text}
use Rattle.actx_rules.specs.Taken.{longest_text}
use Rattle.actx_grammar.specs.Names.{IsKey}
use Rattle.actx_grammar.specs.declared.side.Side.TheVariants.{Plain as plain}
use Rattle.actx_grammar.specs.Tree as t
use Rattle.actx_grammar.specs.Tree.{Expr, Exprs, Properties, ConstItems, Stmt, Stmts}
use Rattle.actx_rules.specs.Low.{p_}
use Rattle.actx_rules.specs.Prelude.{name_states, name_now, name_find, name_with, name_get, name_run, name_make, name_variable, the_list, the_number, the_other, the_value, the_old, the_f, the_name, the_options, the_arguments, key_number, key_value, key_rest, key_mapping, key_count, find_body, with_body, get_body, run_body, run_last, make_body, variable_body}
use Rattle.actx_rules.specs.Properties.{prop_of}
use Rattle.actx_rules.specs.State.{Completion, Normal, Return, Throw, Cell, Prop, Entry, VariableGet, VariableRun, WeakMapGet, WeakMapSet, Thing, Plain, Listed, Failure, Closure, Native, Weak, Task, Eval, Exec, ExecList, ExecBody, Given, Done, Call, Op, Operator, BuiltIn, GetKey, MakeObject, CallOf, Mapped, Frame, Pending, BaseFrame, CalleeFrame, ConstFrame, ValueFrame, ReturnFrame, TryFrame, ListFrame, CallFrame, MappingFrame, Variable, Store, Now, Doing, Over, State, Move, Goes, Writes, Stops, cell_of}

-- where the source's things and scopes stand in the target; and which of the source's things are values: all but the
-- options of a variable
pub record World : Type 0 where
  pub things : List ℕ
  pub scopes : List ℕ
  pub values : List Bool

-- TREES: what a program and its emitted program have at the same place
pub data NamesAre : List (List ℕ) → List (List ℕ) → Type 0 where
  no_names : NamesAre [] []
  more_names : (x : List ℕ) {xs ys : List (List ℕ)} → NamesAre xs ys → NamesAre (x ∷ xs) (p_ x ∷ ys)

mutual
  pub data ExprIs : Expr → Expr → Type 0 where
    num_expr : (n : ℕ) → ExprIs (t.Num n) (t.Num n)
    text_expr : (u : List ℕ) → length u ≤ longest_text → ExprIs (t.Text u) (t.Text u)
    undefined_expr : ExprIs t.Undefined t.Undefined
    named_expr : (x : List ℕ) → ExprIs (t.Named x) (t.Named (p_ x))
    binary_expr : (op : BinaryOp) {a b c d : Expr} → ExprIs a c → ExprIs b d → ExprIs (t.Binary op a b) (t.Binary op c d)
    -- a key that the plain side spells too
    member_expr : (key : List ℕ) {e d : Expr} → IsKey plain key → ExprIs e d → ExprIs (t.Member e (t.Dot key)) (t.Member d (t.Dot key))
    call_expr : {f g : Expr} {es ds : Exprs} → count es ≤ 8 → ExprIs f g → ExprsAre es ds → ExprIs (t.Call f es) (t.Call g ds)
    arrow_expr : {xs ys : List (List ℕ)} {ss ts : Stmts} → NamesAre xs ys → StmtsAre ss ts → ExprIs (t.Function (t.code None arrow_kind xs ss)) (t.Function (t.code None arrow_kind ys ts))
    log_expr : {es ds : Exprs} → ExprsAre es ds → ExprIs (t.Built Log es) (t.Built Log ds)
    -- a variable's constructor is a call of the prelude's function
    variable_expr : ExprIs (t.Built NewVariable t.none) (t.Call (t.Named name_variable) t.none)
    options_expr : {ps qs : Properties} → PropertiesAre ps qs → ExprIs (t.Built NewVariable (t.also (t.Object ps) t.none)) (t.Call (t.Named name_variable) (t.also (t.Object qs) t.none))

  pub data ExprsAre : Exprs → Exprs → Type 0 where
    no_exprs : ExprsAre t.none t.none
    more_exprs : {e d : Expr} {es ds : Exprs} → ExprIs e d → ExprsAre es ds → ExprsAre (t.also e es) (t.also d ds)

  pub data PropertiesAre : Properties → Properties → Type 0 where
    no_properties_are : PropertiesAre t.no_properties t.no_properties
    more_properties : (key : List ℕ) {e d : Expr} {ps qs : Properties} → ExprIs e d → PropertiesAre ps qs → PropertiesAre (t.property (t.Fixed key) e ps) (t.property (t.Fixed key) d qs)

  pub data ItemsAre : ConstItems → ConstItems → Type 0 where
    no_items_are : ItemsAre t.no_consts t.no_consts
    more_items : (x : List ℕ) {e d : Expr} {is js : ConstItems} → ExprIs e d → ItemsAre is js → ItemsAre (t.const_item x e is) (t.const_item (p_ x) d js)

  pub data StmtIs : Stmt → Stmt → Type 0 where
    const_stmt : {is js : ConstItems} → ItemsAre is js → StmtIs (t.Const is) (t.Const js)
    value_stmt : {e d : Expr} → ExprIs e d → StmtIs (t.Value e) (t.Value d)
    return_stmt : {e d : Expr} → ExprIs e d → StmtIs (t.Return (t.some_expr e)) (t.Return (t.some_expr d))
    return_nothing_stmt : StmtIs (t.Return t.no_expr) (t.Return t.no_expr)

  pub data StmtsAre : Stmts → Stmts → Type 0 where
    no_stmts : StmtsAre t.end t.end
    more_stmts : {st dt : Stmt} {ss ts : Stmts} → StmtIs st dt → StmtsAre ss ts → StmtsAre (t.next st ss) (t.next dt ts)

-- VALUES: a thing of the program's is no object of options
pub data ValueIs (w : World) : Value → Value → Type 0 where
  undefined_is : ValueIs w v.Undefined v.Undefined
  truth_is : (b : Bool) → ValueIs w (v.Truth b) (v.Truth b)
  num_is : (z : ℤ) → ValueIs w (v.Num z) (v.Num z)
  text_is : (u : List ℕ) → length u ≤ longest_text → ValueIs w (v.Text u) (v.Text u)
  thing_is : (k j : ℕ) → slice_get w.things k ≡ Some j → slice_get w.values k ≡ Some true → ValueIs w (v.Thing k) (v.Thing j)

pub data ValuesAre (w : World) : List Value → List Value → Type 0 where
  no_values : ValuesAre w [] []
  more_values : {a b : Value} {xs ys : List Value} → ValueIs w a b → ValuesAre w xs ys → ValuesAre w (a ∷ xs) (b ∷ ys)

pub data OptionIs (w : World) : Option Value → Option Value → Type 0 where
  none_is : OptionIs w None None
  some_is : {a b : Value} → ValueIs w a b → OptionIs w (Some a) (Some b)

pub data CompletionIs (w : World) : Completion → Completion → Type 0 where
  normal_is : CompletionIs w Normal Normal
  return_is : {a b : Value} → ValueIs w a b → CompletionIs w (Return a) (Return b)
  throw_is : {a b : Value} → ValueIs w a b → CompletionIs w (Throw a) (Throw b)

pub data PropsAre (w : World) : List Prop → List Prop → Type 0 where
  no_props : PropsAre w [] []
  more_props : (key : List ℕ) {a b : Value} {ps qs : List Prop} → ValueIs w a b → PropsAre w ps qs → PropsAre w (record { key = key; value = a } ∷ ps) (record { key = key; value = b } ∷ qs)

-- arguments: the target may have more of them, which are undefined
pub data ArgumentsAre (w : World) : List Value → List Value → Type 0 where
  no_arguments : ArgumentsAre w [] []
  padded_arguments : {ys : List Value} → ArgumentsAre w [] ys → ArgumentsAre w [] (v.Undefined ∷ ys)
  more_arguments : {a b : Value} {xs ys : List Value} → ValueIs w a b → ArgumentsAre w xs ys → ArgumentsAre w (a ∷ xs) (b ∷ ys)

-- SCOPES: the last one is the program's own, which stands at the target's first place
pub data ChainIs (w : World) : List ℕ → List ℕ → Type 0 where
  last_scope : (k : ℕ) → slice_get w.scopes k ≡ Some 0 → ChainIs w (k ∷ []) (0 ∷ [])
  more_scopes : (k j : ℕ) {ks js : List ℕ} → slice_get w.scopes k ≡ Some j → ChainIs w ks js → ChainIs w (k ∷ ks) (j ∷ js)

abbrev pub constant_at : List ℕ → ℕ → Option Cell
constant_at x k = Some (record { name = x; value = Some (v.Thing k); constant = true })

-- a cell of the prelude's: its name begins with __, and the one function that the program calls is found under its name
pub record IsOwn (d : Cell) : Type 0 where
  pub more : List ℕ
  pub begins : d.name ≡ 95 ∷ 95 ∷ more
  pub calls : (same_text name_variable d.name ≡ false) ⊎ (Some d ≡ constant_at name_variable 9)

-- the prelude's constants stand in the program's own scope, before its names
pub data CellsAre (w : World) : List Cell → List Cell → Type 0 where
  no_cells : CellsAre w [] []
  more_cells : (x : List ℕ) (constant : Bool) {a b : Option Value} {cs ds : List Cell} → OptionIs w a b → CellsAre w cs ds → CellsAre w (record { name = x; value = a; constant = constant } ∷ cs) (record { name = p_ x; value = b; constant = constant } ∷ ds)
  own_cell : (d : Cell) {cs ds : List Cell} → IsOwn d → CellsAre w cs ds → CellsAre w cs (d ∷ ds)

-- THE PRELUDE'S THINGS, at these places: 2 the states, 3 the current mapping and the count, and its functions from 4 on
-- what the prelude's constants are in the outermost scope
pub record IsBase (cells : List Cell) : Type 0 where
  pub states : cell_of name_states cells ≡ constant_at name_states 2
  pub now : cell_of name_now cells ≡ constant_at name_now 3
  pub find : cell_of name_find cells ≡ constant_at name_find 4
  pub with : cell_of name_with cells ≡ constant_at name_with 5
  pub get : cell_of name_get cells ≡ constant_at name_get 6
  pub run : cell_of name_run cells ≡ constant_at name_run 7
  pub make : cell_of name_make cells ≡ constant_at name_make 8
  pub variable : cell_of name_variable cells ≡ constant_at name_variable 9

-- the record of the current mapping and of how many variables there are
abbrev pub now_record : Value → ℕ → Thing
now_record mapping made = Plain (record { key = key_mapping; value = mapping } ∷ record { key = key_count; value = v.Num (pos made) } ∷ [])

-- an entry of a mapping
abbrev pub entry_record : ℕ → Value → Value → Thing
entry_record n value rest = Listed (record { key = key_number; value = v.Num (pos n) } ∷ record { key = key_value; value = value } ∷ record { key = key_rest; value = rest } ∷ [])

-- a variable's number and default
abbrev pub state_record : ℕ → Value → Thing
state_record n default = Listed (record { key = key_number; value = v.Num (pos n) } ∷ record { key = key_value; value = default } ∷ [])

abbrev pub find_thing : Thing
find_thing = Closure arrow_kind (the_list ∷ the_number ∷ the_other ∷ []) find_body (0 ∷ []) v.Undefined

abbrev pub with_thing_of : Thing
with_thing_of = Closure arrow_kind (the_list ∷ the_number ∷ the_value ∷ []) with_body (0 ∷ []) v.Undefined

abbrev pub get_thing_of : Thing
get_thing_of = Closure normal_kind [] get_body (0 ∷ []) v.Undefined

abbrev pub run_thing_of : Thing
run_thing_of = Closure normal_kind (the_value ∷ the_f ∷ the_arguments) run_body (0 ∷ []) v.Undefined

abbrev pub make_thing_of : Thing
make_thing_of = Closure arrow_kind (the_name ∷ the_value ∷ []) make_body (0 ∷ []) v.Undefined

abbrev pub variable_thing_of : Thing
variable_thing_of = Closure arrow_kind (the_options ∷ []) variable_body (0 ∷ []) v.Undefined

-- THINGS
pub data ThingIs (w : World) : Thing → Thing → Type 0 where
  failure_is : (name : ErrorName) → ThingIs w (Failure name []) (Failure name [])
  closure_is : {xs ys : List (List ℕ)} {ss ts : Stmts} {sc tc : List ℕ} {a b : Value} → NamesAre xs ys → StmtsAre ss ts → ChainIs w sc tc → ValueIs w a b → ThingIs w (Closure arrow_kind xs ss sc a) (Closure arrow_kind ys ts tc b)
  -- nothing but a text has a length
  listed_is : {ps qs : List Prop} → PropsAre w ps qs → prop_of (codes "length") qs ≡ None → ThingIs w (Listed ps) (Listed qs)
  plain_is : {ps qs : List Prop} → PropsAre w ps qs → ThingIs w (Plain ps) (Plain qs)
  get_is : ThingIs w (Native VariableGet) get_thing_of
  run_is : ThingIs w (Native VariableRun) run_thing_of

-- a mapping as linked frozen records
pub data MappingIs (w : World) (heap : List Thing) : List Mapped → Value → Type 0 where
  no_mapping : MappingIs w heap [] v.Undefined
  more_mapping : (n k : ℕ) {a b rest : Value} {ms : List Mapped} → ValueIs w a b → slice_get heap k ≡ Some (entry_record n b rest) → MappingIs w heap ms rest → MappingIs w heap (record { number = n; value = a } ∷ ms) (v.Thing k)

-- the variables with the entries of the states
pub data VariablesAre (w : World) (heap : List Thing) : List Variable → List Entry → Type 0 where
  no_variables : VariablesAre w heap [] []
  more_variables : (k j n r : ℕ) {a b : Value} {xs : List Variable} {es : List Entry} → slice_get w.things k ≡ Some j → ValueIs w a b → slice_get heap r ≡ Some (state_record n b) → VariablesAre w heap xs es → VariablesAre w heap (record { place = k; number = n; default = a } ∷ xs) (record { place = j; value = v.Thing r } ∷ es)

-- the things that were shown, in their order
pub data ShownAre (w : World) : List ℕ → List ℕ → Type 0 where
  no_shown : ShownAre w [] []
  more_shown_are : (k j : ℕ) {ks js : List ℕ} → slice_get w.things k ≡ Some j → ShownAre w ks js → ShownAre w (k ∷ ks) (j ∷ js)

-- FRAMES
-- a scope of the prelude's below the program's calls, which keeps the mapping that was there before
pub record KeptAt (w : World) (scopes : List (List Cell)) (k : ℕ) (old : Value) : Type 0 where
  pub cells : List Cell
  pub has : slice_get scopes k ≡ Some cells
  pub kept : cell_of the_old cells ≡ Some (record { name = the_old; value = Some old; constant = true })
  pub free : cell_of name_now cells ≡ None
  pub own : IsOwned w.scopes k

-- the frames of run, whose call has the scope k, while the function runs
abbrev pub running : ℕ → List ℕ → Value → List Frame → List Frame
running k back r gs = ReturnFrame ∷ ListFrame t.end (k ∷ 0 ∷ []) ∷ TryFrame run_last (k ∷ 0 ∷ []) ∷ ListFrame t.end (k ∷ 0 ∷ []) ∷ CallFrame back r ∷ gs

-- operations that stay as they are
pub data OpIs (w : World) : Op → Op → Type 0 where
  operator_op : (op : BinaryOp) → OpIs w (Operator op) (Operator op)
  log_op : OpIs w (BuiltIn Log) (BuiltIn Log)
  get_op : (key : List ℕ) → OpIs w (GetKey key) (GetKey key)
  call_op : {a b : Value} → ValueIs w a b → OpIs w (CallOf a) (CallOf b)

-- how many values an operation may have at most: a call has what is called and 8 arguments
abbrev pub Holds : Op → ℕ → Type 0
Holds (CallOf r) n = n ≤ 9
Holds _ n = Unit {0}

-- what the topmost frame waits for; a variable's frame is met by a throw alone once its options are lost
pub data Wait : Type 0 where
  ForValue : Wait
  ForCompletion : Wait
  ForThrow : Wait

pub data FramesAre (w : World) (heap : List Thing) (scopes : List (List Cell)) : Wait → List Frame → List Frame → Type 0 where
  no_frames : FramesAre w heap scopes ForCompletion [] []
  -- the program's own list
  bottom_is : {ss ts : Stmts} → StmtsAre ss ts → FramesAre w heap scopes ForCompletion (ListFrame ss [] ∷ []) (ListFrame ts [] ∷ [])
  pending_is : {o p : Op} {xs ys : List Value} {es ds : Exprs} {fs gs : List Frame} → OpIs w o p → Holds o (suc (length xs + count es)) → ValuesAre w xs ys → ExprsAre es ds → FramesAre w heap scopes ForValue fs gs → FramesAre w heap scopes ForValue (Pending o xs es ∷ fs) (Pending p ys ds ∷ gs)
  base_is : (key : List ℕ) {es ds : Exprs} {fs gs : List Frame} → count es ≤ 8 → ExprsAre es ds → FramesAre w heap scopes ForValue fs gs → FramesAre w heap scopes ForValue (BaseFrame key es ∷ fs) (BaseFrame key ds ∷ gs)
  callee_is : {a b : Value} {es ds : Exprs} {fs gs : List Frame} → count es ≤ 8 → ValueIs w a b → ExprsAre es ds → FramesAre w heap scopes ForValue fs gs → FramesAre w heap scopes ForValue (CalleeFrame a es ∷ fs) (CalleeFrame b ds ∷ gs)
  -- the options of a variable: one of their values is missing
  options_are : (keys : List (List ℕ)) {xs ys : List Value} {es ds : Exprs} {fs gs : List Frame} → ValuesAre w xs ys → ExprsAre es ds → FramesAre w heap scopes ForValue fs gs → FramesAre w heap scopes ForValue (Pending (MakeObject keys) xs es ∷ Pending (BuiltIn NewVariable) [] t.none ∷ fs) (Pending (MakeObject keys) ys ds ∷ Pending (CallOf v.Undefined) (v.Thing 9 ∷ []) t.none ∷ gs)
  options_lost : {fs gs : List Frame} → FramesAre w heap scopes ForValue fs gs → FramesAre w heap scopes ForThrow (Pending (BuiltIn NewVariable) [] t.none ∷ fs) (Pending (CallOf v.Undefined) (v.Thing 9 ∷ []) t.none ∷ gs)
  const_is : (x : List ℕ) {is js : ConstItems} {fs gs : List Frame} → ItemsAre is js → FramesAre w heap scopes ForCompletion fs gs → FramesAre w heap scopes ForValue (ConstFrame x is ∷ fs) (ConstFrame (p_ x) js ∷ gs)
  value_frame_is : {fs gs : List Frame} → FramesAre w heap scopes ForCompletion fs gs → FramesAre w heap scopes ForValue (ValueFrame ∷ fs) (ValueFrame ∷ gs)
  return_frame_is : {fs gs : List Frame} → FramesAre w heap scopes ForCompletion fs gs → FramesAre w heap scopes ForValue (ReturnFrame ∷ fs) (ReturnFrame ∷ gs)
  list_is : {ss ts : Stmts} {b c : List ℕ} {fs gs : List Frame} → StmtsAre ss ts → ChainIs w b c → FramesAre w heap scopes ForCompletion fs gs → FramesAre w heap scopes ForCompletion (ListFrame ss b ∷ fs) (ListFrame ts c ∷ gs)
  call_frame_is : {b c : List ℕ} {x y : Value} {fs gs : List Frame} → ChainIs w b c → ValueIs w x y → FramesAre w heap scopes ForValue fs gs → FramesAre w heap scopes ForCompletion (CallFrame b x ∷ fs) (CallFrame c y ∷ gs)
  -- a function that run called: the callers' scopes are none of each other's
  call_away : (b : List ℕ) (x : Value) (c : List ℕ) (y : Value) {old : List Mapped} {b' : List ℕ} {x' : Value} {fs gs : List Frame} → FramesAre w heap scopes ForValue (MappingFrame old b' x' ∷ fs) gs → FramesAre w heap scopes ForCompletion (CallFrame b x ∷ MappingFrame old b' x' ∷ fs) (CallFrame c y ∷ gs)
  mapping_frame_is : (k : ℕ) {old : List Mapped} {m x y : Value} {b c : List ℕ} {fs gs : List Frame} → MappingIs w heap old m → KeptAt w scopes k m → ChainIs w b c → ValueIs w x y → FramesAre w heap scopes ForValue fs gs → FramesAre w heap scopes ForValue (MappingFrame old b x ∷ fs) (running k c y gs)

-- which completions a frame may meet
pub data Fits : Wait → Completion → Type 0 where
  fits_any : (c : Completion) → Fits ForCompletion c
  fits_throw : (a : Value) → Fits ForValue (Throw a)
  fits_lost : (a : Value) → Fits ForThrow (Throw a)

-- TASKS
pub data TaskIs (w : World) (heap : List Thing) (scopes : List (List Cell)) : Task → List Frame → Task → List Frame → Type 0 where
  eval_is : {e d : Expr} {fs gs : List Frame} → ExprIs e d → FramesAre w heap scopes ForValue fs gs → TaskIs w heap scopes (Eval e) fs (Eval d) gs
  eval_options : {ps qs : Properties} {fs gs : List Frame} → PropertiesAre ps qs → FramesAre w heap scopes ForValue fs gs → TaskIs w heap scopes (Eval (t.Object ps)) (Pending (BuiltIn NewVariable) [] t.none ∷ fs) (Eval (t.Object qs)) (Pending (CallOf v.Undefined) (v.Thing 9 ∷ []) t.none ∷ gs)
  exec_is : {st dt : Stmt} {fs gs : List Frame} → StmtIs st dt → FramesAre w heap scopes ForCompletion fs gs → TaskIs w heap scopes (Exec st) fs (Exec dt) gs
  exec_list_is : {ss ts : Stmts} {fs gs : List Frame} → StmtsAre ss ts → FramesAre w heap scopes ForCompletion fs gs → TaskIs w heap scopes (ExecList ss) fs (ExecList ts) gs
  exec_body_is : {ss ts : Stmts} {fs gs : List Frame} → StmtsAre ss ts → FramesAre w heap scopes ForCompletion fs gs → TaskIs w heap scopes (ExecBody ss) fs (ExecBody ts) gs
  given_is : {a b : Value} {fs gs : List Frame} → ValueIs w a b → FramesAre w heap scopes ForValue fs gs → TaskIs w heap scopes (Given a) fs (Given b) gs
  given_options : (k j : ℕ) {qs : List Prop} {fs gs : List Frame} → slice_get w.things k ≡ Some j → slice_get heap j ≡ Some (Plain qs) → FramesAre w heap scopes ForValue fs gs → TaskIs w heap scopes (Given (v.Thing k)) (Pending (BuiltIn NewVariable) [] t.none ∷ fs) (Given (v.Thing j)) (Pending (CallOf v.Undefined) (v.Thing 9 ∷ []) t.none ∷ gs)
  done_is : (wait : Wait) {c d : Completion} {fs gs : List Frame} → Fits wait c → CompletionIs w c d → FramesAre w heap scopes wait fs gs → TaskIs w heap scopes (Done c) fs (Done d) gs
  call_is : {f g x y : Value} {xs ys : List Value} {fs gs : List Frame} → length xs ≤ 8 → ValueIs w f g → ValueIs w x y → ArgumentsAre w xs ys → FramesAre w heap scopes ForValue fs gs → TaskIs w heap scopes (Call f x xs) fs (Call g y ys) gs

-- the scopes and receivers correspond, but between run and the function that it calls, and where no frame is left
pub data ScopeIs (w : World) : Task → List Frame → List ℕ → Value → List ℕ → Value → Type 0 where
  here : {task : Task} {fs : List Frame} {b c : List ℕ} {x y : Value} → ChainIs w b c → ValueIs w x y → ScopeIs w task fs b x c y
  away_call : {f : Value} {xs : List Value} {old : List Mapped} {b' : List ℕ} {x' : Value} {fs : List Frame} (b : List ℕ) (x : Value) (c : List ℕ) (y : Value) → ScopeIs w (Call f v.Undefined xs) (MappingFrame old b' x' ∷ fs) b x c y
  away_given : {a : Value} {old : List Mapped} {b' : List ℕ} {x' : Value} {fs : List Frame} (b : List ℕ) (x : Value) (c : List ℕ) (y : Value) → ScopeIs w (Given a) (MappingFrame old b' x' ∷ fs) b x c y
  away_done : {d : Completion} {old : List Mapped} {b' : List ℕ} {x' : Value} {fs : List Frame} (b : List ℕ) (x : Value) (c : List ℕ) (y : Value) → ScopeIs w (Done d) (MappingFrame old b' x' ∷ fs) b x c y
  away_end : {d : Completion} (b : List ℕ) (x : Value) (c : List ℕ) (y : Value) → ScopeIs w (Done d) [] b x c y

-- STORES
-- the prelude's constants, in the program's own scope
pub record TopIs (scopes : List (List Cell)) : Type 0 where
  pub cells : List Cell
  pub has : slice_get scopes 0 ≡ Some cells
  pub base : IsBase cells

-- its functions, and the methods of its states
pub record PreludeIs (heap : List Thing) : Type 0 where
  pub weak_get_at : slice_get heap 0 ≡ Some (Native WeakMapGet)
  pub weak_set_at : slice_get heap 1 ≡ Some (Native WeakMapSet)
  pub find_at : slice_get heap 4 ≡ Some find_thing
  pub with_at : slice_get heap 5 ≡ Some with_thing_of
  pub make_at : slice_get heap 8 ≡ Some make_thing_of
  pub variable_at : slice_get heap 9 ≡ Some variable_thing_of

-- the variables with the states, and the mapping with the record of the current one
pub record AgentIs (w : World) (heap : List Thing) (mapping : List Mapped) (variables : List Variable) : Type 0 where
  pub entries : List Entry
  pub states_at : slice_get heap 2 ≡ Some (Weak entries)
  pub states_own : IsOwned w.things 2
  pub variables_are : VariablesAre w heap variables entries
  pub current : Value
  pub now_at : slice_get heap 3 ≡ Some (now_record current (length variables))
  pub now_own : IsOwned w.things 3
  pub mapping_is : MappingIs w heap mapping current

-- all but the scope and the receiver, which the tasks speak of
pub record StoreIs (w : World) (s r : Store) : Type 0 where
  pub scopes : Paired (CellsAre w) w.scopes s.scopes r.scopes
  pub heap : Paired (ThingIs w) w.things s.heap r.heap
  pub shown : ShownAre w s.shown r.shown
  pub events : r.events ≡ s.events
  -- options are no values
  pub long : length w.values ≡ length s.heap
  pub options : (k : ℕ) (ps : List Prop) → slice_get s.heap k ≡ Some (Plain ps) → slice_get w.values k ≡ Some true → ⊥
  pub top : TopIs r.scopes
  pub prelude : PreludeIs r.heap
  pub agent : AgentIs w r.heap s.mapping s.variables
  -- the methods of variables are the source's first things
  pub get_method : ValueIs w (v.Thing 0) (v.Thing 6)
  pub run_method : ValueIs w (v.Thing 1) (v.Thing 7)

-- STATES
pub data NowIs : Now → List Frame → Store → Now → List Frame → Store → Type 0 where
  doing_is : (w : World) {a b : Task} {fs gs : List Frame} {s r : Store} → TaskIs w r.heap r.scopes a fs b gs → ScopeIs w a fs s.scope s.receiver r.scope r.receiver → StoreIs w s r → NowIs (Doing a) fs s (Doing b) gs r
  over_is : (e : End) {fs gs : List Frame} {s r : Store} → NowIs (Over e) fs s (Over e) gs r

pub record Related (s r : State) : Type 0 where
  pub now : NowIs s.now s.frames s.store r.now r.frames r.store
  pub trace : r.trace ≡ s.trace

-- moves that lead to related states
pub data MoveIs : Move → Move → Type 0 where
  goes_is : (w : World) {a b : Task} {fs gs : List Frame} {s r : Store} → TaskIs w r.heap r.scopes a fs b gs → ScopeIs w a fs s.scope s.receiver r.scope r.receiver → StoreIs w s r → MoveIs (Goes a fs s) (Goes b gs r)
  writes_is : (e : TraceEvent) (w : World) {a b : Task} {fs gs : List Frame} {s r : Store} → TaskIs w r.heap r.scopes a fs b gs → ScopeIs w a fs s.scope s.receiver r.scope r.receiver → StoreIs w s r → MoveIs (Writes e a fs s) (Writes e b gs r)
  stops_is : (e : End) → MoveIs (Stops e) (Stops e)
