-- The states of both machines: tasks, frames, scopes, and what the agent keeps (ECMA-262, 6.2.4, 9.1 and 9.4).
use Rattle.std.specs.Prelude.{ℕ, Bool, List, Option}
use Rattle.actx_data.specs.declared.end.End.{End}
use Rattle.actx_data.specs.declared.event.Event.{Event}
use Rattle.actx_data.specs.declared.trace.TraceEvent.{TraceEvent}
use Rattle.actx_data.specs.declared.value.Value.{Value}
use Rattle.actx_grammar.specs.declared.operators.BinaryOp.{BinaryOp}
use Rattle.actx_grammar.specs.declared.operators.Form.{Form}
use Rattle.actx_grammar.specs.declared.operators.FunctionKind.{FunctionKind}
use Rattle.actx_grammar.specs.declared.operators.LogicOp.{LogicOp}
use Rattle.actx_grammar.specs.declared.operators.UnaryOp.{UnaryOp}
use Rattle.actx_grammar.specs.Tree.{Expr, Exprs, MaybeExpr, Key, LetItems, ConstItems, Clauses, Catch, Last, Stmt, MaybeStmt, Stmts}
use Rattle.actx_heap.specs.Things.{Thing}

-- COMPLETIONS (6.2.4): how the work on a part ended
pub data Completion : Type 0 where
  Normal : Completion
  Break : Completion
  Continue : Completion
  Return : (v : Value) → Completion
  Throw : (v : Value) → Completion

-- SCOPES (9.1.1.1)
-- a name of a scope: without a value until its declaration has run
pub record Cell : Type 0 where
  pub name : List ℕ
  pub value : Option Value
  pub constant : Bool

-- FUNCTIONS
-- those that a machine brings along
pub data Method : Type 0 where
  VariableGet : Method
  VariableRun : Method
  WeakMapGet : Method
  WeakMapSet : Method

-- what a function is made of: the program's, with the scopes round it and, for an arrow, the receiver round it; or a machine's
pub data Code : Type 0 where
  Closure : (kind : FunctionKind) (params : List (List ℕ)) (body : Stmts) (scope : List ℕ) (receiver : Value) → Code
  Native : (method : Method) → Code

-- WORK
-- what is to be done in one step
pub data Task : Type 0 where
  Eval : (e : Expr) → Task
  Exec : (st : Stmt) → Task
  -- a statement that is a branch or the body of a loop, where no declaration may stand
  ExecPart : (st : Stmt) → Task
  -- a list with a scope of its own, and one whose scope is there: a function's body and a clause of a switch
  ExecList : (ss : Stmts) → Task
  ExecBody : (ss : Stmts) → Task
  Given : (v : Value) → Task
  Done : (c : Completion) → Task
  Call : (callee receiver : Value) (args : List Value) → Task

-- what an expression does with the values of its children
pub data Op : Type 0 where
  Prefix : (op : UnaryOp) → Op
  Infix : (op : BinaryOp) → Op
  BuiltIn : (form : Form) → Op
  -- a name is set
  SetVar : (x : List ℕ) → Op
  -- a property is read and set; the key stands after a dot or is the second value
  Read : (key : Option (List ℕ)) → Op
  Write : (key : Option (List ℕ)) → Op
  -- an object of these keys; a computed one is the value before its property's
  MakeObject : (keys : List (Option (List ℕ))) → Op
  -- a call with this receiver
  CallOf : (receiver : Value) → Op

-- a for: whether its scope is copied for each turn, its parts, and the scope round it
pub record Loop : Type 0 where
  pub copies : Bool
  pub test : MaybeExpr
  pub update : MaybeExpr
  pub body : Stmt
  pub back : List ℕ

-- what waits for a value or a completion
pub data Frame : Type 0 where
  -- an expression, with its children's values so far and the children that are missing
  Pending : (op : Op) (values : List Value) (rest : Exprs) → Frame
  -- the left side of a logic operator, and the test of a choice
  LogicFrame : (op : LogicOp) (right : Expr) → Frame
  ChoiceFrame : (yes no : Expr) → Frame
  -- a changed name, with the value that it had
  ChangeFrame : (x : List ℕ) (op : BinaryOp) (old : Value) → Frame
  -- a call of a property: its base is missing, then its key, or the property is there and the arguments follow
  BaseFrame : (key : Key) (args : Exprs) → Frame
  KeyFrame : (base : Value) (args : Exprs) → Frame
  CalleeFrame : (base : Value) (args : Exprs) → Frame
  -- an item that waits for its value, and the items behind it
  LetFrame : (x : List ℕ) (rest : LetItems) → Frame
  ConstFrame : (x : List ℕ) (rest : ConstItems) → Frame
  -- a statement that drops its expression's value, returns it or throws it
  ValueFrame : Frame
  ReturnFrame : Frame
  ThrowFrame : Frame
  -- what is done where a test holds, and where it doesn't
  IfFrame : (yes : Stmt) (no : MaybeStmt) → Frame
  -- a switch that waits for its value; and a clause under way, with those behind it
  SwitchFrame : (cs : Clauses) → Frame
  ClauseFrame : (rest : Clauses) (back : List ℕ) → Frame
  -- a while or do-while at its test, and in its body
  TestFrame : (test : Expr) (body : Stmt) → Frame
  TurnFrame : (test : Expr) (body : Stmt) → Frame
  -- a for: at an item of its let or const, at its first expression, before its first copy, at its test, in its body, at its update
  ForLet : (x : List ℕ) (rest : LetItems) (loop : Loop) → Frame
  ForConst : (x : List ℕ) (rest : ConstItems) (loop : Loop) → Frame
  ForInit : (loop : Loop) → Frame
  ForCopy : (loop : Loop) → Frame
  ForTest : (loop : Loop) → Frame
  ForTurn : (loop : Loop) → Frame
  ForUpdate : (loop : Loop) → Frame
  -- a try: in its block, in its catch part, and in its last part with the completion that is kept
  TryFrame : (catcher : Catch) (last : Last) (back : List ℕ) → Frame
  CatchFrame : (last : Last) (back : List ℕ) → Frame
  LastFrame : (kept : Completion) → Frame
  -- a list: the statements behind the one under way, and the scope that comes back
  ListFrame : (rest : Stmts) (back : List ℕ) → Frame
  -- a function's body: the caller's scope and receiver
  CallFrame : (back : List ℕ) (receiver : Value) → Frame
  -- a call in a mapping of its own, with the mapping that comes back
  MappingFrame : (old : List (ℕ × Value)) (back : List ℕ) (receiver : Value) → Frame

-- a variable: its thing, its number and its default
pub record Variable : Type 0 where
  pub place : ℕ
  pub number : ℕ
  pub default : Value

-- what a WeakMap has for a thing
pub record Entry : Type 0 where
  pub place : ℕ
  pub value : Value

-- a WeakMap: its thing and its entries
pub record Weak : Type 0 where
  pub place : ℕ
  pub entries : List Entry

-- the function that a host event calls
pub record Callback : Type 0 where
  pub name : List ℕ
  pub callee : Value

-- a scope is named by the numbers of itself and of those round it, innermost first
pub record Store : Type 0 where
  pub scope : List ℕ
  pub receiver : Value
  pub scopes : List (List Cell)
  pub heap : List (Thing Code)
  pub shown : List ℕ
  pub events : List Event
  pub callbacks : List Callback
  -- the source machine's alone
  pub mapping : List (ℕ × Value)
  pub variables : List Variable
  -- the target machine's alone: WeakMaps, and the functions that wait as jobs
  pub weak : List Weak
  pub jobs : List Value

pub data Now : Type 0 where
  Doing : (task : Task) → Now
  Over : (e : End) → Now

pub record State : Type 0 where
  pub now : Now
  pub frames : List Frame
  pub store : Store
  pub trace : List TraceEvent

-- what a row answers: the next task, an event and the next task, or an end with no event
pub data Move : Type 0 where
  Goes : (task : Task) (fs : List Frame) (s : Store) → Move
  Writes : (e : TraceEvent) (task : Task) (fs : List Frame) (s : Store) → Move
  Stops : (e : End) → Move
