-- The states of both machines: tasks, frames, scopes, things and what the agent keeps (ECMA-262, 6 and 9).
use Rattle.std.specs.Prelude.{ℕ, Bool, true, false, List, [], ◌∷◌, ◌++◌, length, Option, Some, None, slice_get, slice_set, if◌then◌else◌}
use Rattle.actx_data.specs.declared.end.End.{End}
use Rattle.actx_data.specs.declared.event.Event.{Event}
use Rattle.actx_data.specs.declared.shown.ErrorName.{ErrorName}
use Rattle.actx_data.specs.declared.trace.TraceEvent.{TraceEvent}
use Rattle.actx_data.specs.declared.value.Value.{Value}
use Rattle.actx_data.specs.declared.value.Value.TheVariants as v
use Rattle.actx_grammar.specs.declared.operators.BinaryOp.{BinaryOp}
use Rattle.actx_grammar.specs.declared.operators.Form.{Form}
use Rattle.actx_grammar.specs.declared.operators.FunctionKind.{FunctionKind}
use Rattle.actx_rules.specs.Texts.{same_text}
use Rattle.actx_grammar.specs.Tree as t
use Rattle.actx_grammar.specs.Tree.{Expr, Exprs, ConstItems, Stmt, MaybeStmt, Stmts}

-- COMPLETIONS (6.2.4): how the work on a part ended
pub data Completion : Type 0 where
  Normal : Completion
  Return : (v : Value) → Completion
  Throw : (v : Value) → Completion

-- SCOPES (9.1.1.1)
-- a name of a scope: without a value until its declaration has run
pub record Cell : Type 0 where
  pub name : List ℕ
  pub value : Option Value
  pub constant : Bool

-- THINGS: the objects of the heap (6.1.7), each named by its place
pub record Prop : Type 0 where
  pub key : List ℕ
  pub value : Value

-- what a WeakMap has for a thing
pub record Entry : Type 0 where
  pub place : ℕ
  pub value : Value

-- the functions that a machine brings along
pub data Method : Type 0 where
  VariableGet : Method
  VariableRun : Method
  WeakMapGet : Method
  WeakMapSet : Method

pub data Thing : Type 0 where
  Plain : (ps : List Prop) → Thing
  -- what has the same properties for ever
  Listed : (ps : List Prop) → Thing
  Failure : (name : ErrorName) (message : List ℕ) → Thing
  -- a function of the program, with the scopes round it and, for an arrow, the receiver round it
  Closure : (kind : FunctionKind) (params : List (List ℕ)) (body : Stmts) (scope : List ℕ) (receiver : Value) → Thing
  Native : (method : Method) → Thing
  Weak : (entries : List Entry) → Thing

-- WORK
-- what is to be done in one step
pub data Task : Type 0 where
  Eval : (e : Expr) → Task
  Exec : (st : Stmt) → Task
  -- a list with a scope of its own, and a function's body, whose scope the call has made
  ExecList : (ss : Stmts) → Task
  ExecBody : (ss : Stmts) → Task
  Given : (v : Value) → Task
  Done : (c : Completion) → Task
  Call : (callee receiver : Value) (args : List Value) → Task

-- what an expression does with the values of its children
pub data Op : Type 0 where
  Operator : (op : BinaryOp) → Op
  BuiltIn : (form : Form) → Op
  -- a property is read, and set
  GetKey : (key : List ℕ) → Op
  SetKey : (key : List ℕ) → Op
  -- an object of these keys
  MakeObject : (keys : List (List ℕ)) → Op
  -- a call with this receiver
  CallOf : (receiver : Value) → Op

-- a variable's number with the value that is in place for it
pub record Mapped : Type 0 where
  pub number : ℕ
  pub value : Value

-- what waits for a value or a completion
pub data Frame : Type 0 where
  -- an expression, with its children's values so far and the children that are missing
  Pending : (op : Op) (values : List Value) (rest : Exprs) → Frame
  -- a call of a property: its base is missing, or the property itself
  BaseFrame : (key : List ℕ) (args : Exprs) → Frame
  CalleeFrame : (base : Value) (args : Exprs) → Frame
  -- a const: the name that waits for its value, and the items behind it
  ConstFrame : (x : List ℕ) (rest : ConstItems) → Frame
  -- a statement that drops its expression's value, and one that returns it
  ValueFrame : Frame
  ReturnFrame : Frame
  -- what is done where a test holds, and where it doesn't
  IfFrame : (branch : Stmt) (other : MaybeStmt) → Frame
  -- the block of a try, with its last part and the scope round it; and the last part, with the completion that is kept
  TryFrame : (last : Stmts) (back : List ℕ) → Frame
  LastFrame : (kept : Completion) → Frame
  -- a list: the statements behind the one under way, and the scope that comes back
  ListFrame : (rest : Stmts) (back : List ℕ) → Frame
  -- a function's body: the caller's scope and receiver
  CallFrame : (back : List ℕ) (receiver : Value) → Frame
  -- a call in a mapping of its own, with the mapping that comes back
  MappingFrame : (old : List Mapped) (back : List ℕ) (receiver : Value) → Frame

-- a variable: its thing, its number and its default
pub record Variable : Type 0 where
  pub place : ℕ
  pub number : ℕ
  pub default : Value

-- a scope is named by the numbers of itself and of those round it, innermost first
pub record Store : Type 0 where
  pub scope : List ℕ
  pub receiver : Value
  pub scopes : List (List Cell)
  pub heap : List Thing
  pub shown : List ℕ
  pub events : List Event
  -- the agent's, of the source machine alone
  pub mapping : List Mapped
  pub variables : List Variable

pub data Now : Type 0 where
  Doing : (task : Task) → Now
  Over : (e : End) → Now

pub record State : Type 0 where
  pub now : Now
  pub frames : List Frame
  pub store : Store
  pub trace : List TraceEvent

-- what a row answers: the next task, an event and the next task, or an end with no event
pub data Move : Type 0 where
  Goes : (task : Task) (fs : List Frame) (s : Store) → Move
  Writes : (e : TraceEvent) (task : Task) (fs : List Frame) (s : Store) → Move
  Stops : (e : End) → Move

-- NAMES IN SCOPES
abbrev pub cell_of : List ℕ → List Cell → Option Cell
cell_of x [] = None
cell_of x (c ∷ cs) = if same_text x c.name then Some c else cell_of x cs

abbrev pub or_else : {A : Type 0} → Option A → Option A → Option A
or_else (Some a) b = Some a
or_else None b = b

abbrev pub option_or : {A : Type 0} → Option A → A → A
option_or (Some a) b = a
option_or None b = b

abbrev pub cells_at : List (List Cell) → ℕ → List Cell
cells_at scopes k = option_or (slice_get scopes k) []

-- the innermost cell with the name
abbrev pub find : List (List Cell) → List ℕ → List ℕ → Option Cell
find scopes [] x = None
find scopes (k ∷ ks) x = or_else (cell_of x (cells_at scopes k)) (find scopes ks x)

-- a constant keeps the value that it has
abbrev pub given_cell : Value → Cell → Option Value → Cell
given_cell v c None = record { name = c.name; value = Some v; constant = c.constant }
given_cell v c (Some w) = if c.constant then c else record { name = c.name; value = Some v; constant = c.constant }

abbrev pub set_cell : List ℕ → Value → List Cell → List Cell
set_cell x v [] = []
set_cell x v (c ∷ cs) = if same_text x c.name then given_cell v c c.value ∷ cs else c ∷ set_cell x v cs

-- the value of a name that the current scope declares
abbrev pub set_in : List (List Cell) → List ℕ → List ℕ → Value → List (List Cell)
set_in scopes [] x v = scopes
set_in scopes (k ∷ ks) x v = slice_set scopes k (set_cell x v (cells_at scopes k))

abbrev pub with_set : Store → List ℕ → Value → Store
with_set s x v = record s { scopes = set_in s.scopes s.scope x v }

-- DECLARING: a later binding of one name replaces an earlier one
abbrev pub with_cell : Cell → List Cell → List Cell
with_cell c [] = c ∷ []
with_cell c (d ∷ ds) = if same_text c.name d.name then record { name = d.name; value = c.value; constant = c.constant } ∷ ds else d ∷ with_cell c ds

abbrev pub unset : List ℕ → Cell
unset x = record { name = x; value = None; constant = true }

abbrev pub with_items : ConstItems → List Cell → List Cell
with_items t.no_consts cs = cs
with_items (t.const_item x e is) cs = with_items is (with_cell (unset x) cs)

-- the names that a list declares (14.2.3)
abbrev pub with_names : Stmts → List Cell → List Cell
with_names t.end cs = cs
with_names (t.next (t.Const is) ss) cs = with_names ss (with_items is cs)
with_names (t.next _ ss) cs = with_names ss cs

abbrev pub param : List ℕ → Value → Cell
param x v = record { name = x; value = Some v; constant = false }

-- parameters with the values of arguments, or undefined where there are none left (10.2.11)
abbrev pub with_params : List (List ℕ) → List Value → List Cell → List Cell
with_params [] vs cs = cs
with_params (x ∷ xs) [] cs = with_params xs [] (with_cell (param x v.Undefined) cs)
with_params (x ∷ xs) (v ∷ vs) cs = with_params xs vs (with_cell (param x v) cs)

-- a new scope in the current one, and one of a call in that of its function
abbrev pub with_scope : Store → List Cell → Store
with_scope s cells = record s { scope = length s.scopes ∷ s.scope; scopes = s.scopes ++ cells ∷ [] }

abbrev pub with_call : Store → List ℕ → Value → List Cell → Store
with_call s scope receiver cells = record s { scope = length s.scopes ∷ scope; receiver = receiver; scopes = s.scopes ++ cells ∷ [] }

abbrev pub back_to : Store → List ℕ → Store
back_to s back = record s { scope = back }

abbrev pub back_from : Store → List ℕ → Value → Store
back_from s back receiver = record s { scope = back; receiver = receiver }

abbrev pub with_thing : Store → Thing → Store
with_thing s thing = record s { heap = s.heap ++ thing ∷ [] }

abbrev pub with_heap : Store → List Thing → Store
with_heap s heap = record s { heap = heap }
