-- One step table for both machines: a row answers a move, and each row is one step (ECMA-262, 13 to 15, restricted).
use Rattle.std.specs.Prelude.{ℕ, pos, suc, Bool, true, false, ◌&&◌, nat_le, List, [], ◌∷◌, ◌++◌, length, Option, Some, None, slice_get, slice_set, codes, if◌then◌else◌}
use Rattle.actx_data.specs.Number.{greatest}
use Rattle.actx_data.specs.declared.end.End.{End}
use Rattle.actx_data.specs.declared.end.End.TheVariants.{Going, Ended, Threw, Left}
use Rattle.actx_data.specs.declared.event.Event.{Event}
use Rattle.actx_data.specs.declared.shown.ErrorName.{ErrorName}
use Rattle.actx_data.specs.declared.shown.ErrorName.TheVariants.{ReferenceError, TypeError}
use Rattle.actx_data.specs.declared.trace.TraceEvent.{TraceEvent}
use Rattle.actx_data.specs.declared.trace.TraceEvent.TheVariants.{Out, Get}
use Rattle.actx_data.specs.declared.value.Value.{Value}
use Rattle.actx_data.specs.declared.value.Value.TheVariants as v
use Rattle.actx_grammar.specs.declared.side.Side.{Side}
use Rattle.actx_grammar.specs.declared.side.Side.TheVariants as side
use Rattle.actx_grammar.specs.declared.operators.BinaryOp.{BinaryOp}
use Rattle.actx_grammar.specs.declared.operators.Form.{Form}
use Rattle.actx_grammar.specs.declared.operators.Form.TheVariants.{Log, NewVariable, NewWeakMap, Freeze, CallWith, Note}
use Rattle.actx_grammar.specs.declared.operators.FunctionKind.{FunctionKind}
use Rattle.actx_grammar.specs.declared.operators.FunctionKind.TheVariants.{Normal as normal_kind, Arrow as arrow_kind}
use Rattle.actx_grammar.specs.Grammar.{count}
use Rattle.actx_grammar.specs.ParserOperands.{suits}
use Rattle.actx_grammar.specs.Tree as t
use Rattle.actx_grammar.specs.Tree.{Expr, Exprs, PropKey, Properties, Code, ConstItems, Stmt, MaybeStmt, Stmts}
use Rattle.actx_rules.specs.Operators.{Answer, Gives, Throws, Leaves, binary, is_true}
use Rattle.actx_rules.specs.Printing.{line_of, is_line}
use Rattle.actx_rules.specs.Agent.{mapped_or, with_mapped, this_variable, variable_props}
use Rattle.actx_rules.specs.Notes.{Noted, note}
use Rattle.actx_rules.specs.State.{Completion, Normal, Return, Throw, Cell, Method, VariableGet, VariableRun, WeakMapGet, WeakMapSet, Thing, Plain, Listed, Failure, Closure, Native, Weak, Task, Eval, Exec, ExecList, ExecBody, Given, Done, Call, Op, Operator, BuiltIn, GetKey, SetKey, MakeObject, CallOf, Frame, Pending, BaseFrame, CalleeFrame, ConstFrame, ValueFrame, ReturnFrame, IfFrame, TryFrame, LastFrame, ListFrame, CallFrame, MappingFrame, Variable, Store, Now, Doing, Over, State, Move, Goes, Writes, Stops, find, with_set, with_names, with_params, with_scope, with_call, back_to, back_from, with_thing, with_heap}
use Rattle.actx_rules.specs.Properties.{prop_of, with_props, any_proto, get, Put, PutDone, PutThrows, PutLeaves, put, frozen, with_entry, entry_at, show, more_shown}

-- ANSWERS
-- a new error is thrown, with the empty message
abbrev pub throws : ErrorName → List Frame → Store → Move
throws name fs s = Goes (Done (Throw (v.Thing (length s.heap)))) fs (with_thing s (Failure name []))

abbrev pub answered : Answer → List Frame → Store → Move
answered (Gives v) fs s = Goes (Given v) fs s
answered (Throws name) fs s = throws name fs s
answered Leaves fs s = Stops Left

-- a new thing is the value
abbrev pub makes : Thing → List Frame → Store → Move
makes thing fs s = Goes (Given (v.Thing (length s.heap))) fs (with_thing s thing)

-- ROWS: names and literals
-- a number literal past the greatest number is outside the profile
abbrev pub eval_number : ℕ → List Frame → Store → Move
eval_number n fs s = if nat_le n greatest then Goes (Given (v.Num (pos n))) fs s else Stops Left

abbrev pub read_value : Option Value → List Frame → Store → Move
read_value None fs s = throws ReferenceError fs s
read_value (Some v) fs s = Goes (Given v) fs s

-- a name bound nowhere is outside the profile
abbrev pub read_cell : Option Cell → List Frame → Store → Move
read_cell None fs s = Stops Left
read_cell (Some c) fs s = read_value c.value fs s

-- the receiver that a function keeps
abbrev pub kept_receiver : FunctionKind → Value → Value
kept_receiver arrow_kind receiver = receiver
kept_receiver _ receiver = v.Undefined

-- the receiver in a function's body
abbrev pub body_receiver : FunctionKind → Value → Value → Value
body_receiver arrow_kind kept given = kept
body_receiver _ kept given = given

-- ROWS: methods
-- a variable's get
abbrev pub gets : Option Variable → List Frame → Store → Move
gets None fs s = throws TypeError fs s
gets (Some x) fs s =
    Writes (Get x.number (show s.heap (more_shown s.shown (mapped_or x.number x.default s.mapping)) (mapped_or x.number x.default s.mapping)))
    (Given (mapped_or x.number x.default s.mapping)) fs (record s { shown = more_shown s.shown (mapped_or x.number x.default s.mapping) })

abbrev pub first : List Value → Value
first [] = v.Undefined
first (v ∷ vs) = v

abbrev pub rest : List Value → List Value
rest [] = []
rest (v ∷ vs) = vs

-- a variable's run: its value, a function, and the arguments of the function
abbrev pub runs : Option Variable → List Value → List Frame → Store → Move
runs None vs fs s = throws TypeError fs s
runs (Some x) vs fs s =
    Goes (Call (first (rest vs)) v.Undefined (rest (rest vs))) (MappingFrame s.mapping s.scope s.receiver ∷ fs)
    (record s { mapping = with_mapped x.number (first vs) s.mapping })

abbrev pub weak_gets : Option Thing → List Value → List Frame → Store → Move
weak_gets (Some (Weak es)) vs fs s = Goes (Given (entry_at (first vs) es)) fs s
weak_gets _ vs fs s = throws TypeError fs s

-- a key that is no thing is refused; else the map is the value
abbrev pub weak_sets : Option Thing → ℕ → List Value → List Frame → Store → Move
weak_sets (Some (Weak es)) w (v.Thing k ∷ vs) fs s = Goes (Given (v.Thing w)) fs (with_heap s (slice_set s.heap w (Weak (with_entry k (first vs) es))))
weak_sets _ w vs fs s = throws TypeError fs s

abbrev pub on_thing : Value → (ℕ → Move) → List Frame → Store → Move
on_thing (v.Thing k) then_on fs s = then_on k
on_thing _ then_on fs s = throws TypeError fs s

-- a method of the other side is outside the profile
abbrev pub method : Side → Method → Value → List Value → List Frame → Store → Move
method side.Source VariableGet r vs fs s = gets (this_variable r s.variables) fs s
method side.Source VariableRun r vs fs s = runs (this_variable r s.variables) vs fs s
method side.Plain WeakMapGet r vs fs s = on_thing r (λ w. weak_gets (slice_get s.heap w) vs fs s) fs s
method side.Plain WeakMapSet r vs fs s = on_thing r (λ w. weak_sets (slice_get s.heap w) w vs fs s) fs s
method _ _ r vs fs s = Stops Left

-- ROWS: calls (10.2.1, 13.3.6.2)
abbrev pub call_thing : Side → Option Thing → Value → List Value → List Frame → Store → Move
call_thing side (Some (Closure kind xs ss scope kept)) r vs fs s =
    Goes (ExecBody ss) (CallFrame s.scope s.receiver ∷ fs) (with_call s scope (body_receiver kind kept r) (with_names ss (with_params xs vs [])))
call_thing side (Some (Native m)) r vs fs s = method side m r vs fs s
call_thing side _ r vs fs s = throws TypeError fs s

abbrev pub call : Side → Value → Value → List Value → List Frame → Store → Move
call side (v.Thing k) r vs fs s = call_thing side (slice_get s.heap k) r vs fs s
call side _ r vs fs s = throws TypeError fs s

-- ROWS: built-in forms
-- console.log
abbrev pub log : List Value → List Frame → Store → Move
log vs fs s = if is_line s.heap vs then Writes (Out (line_of s.heap vs)) (Given v.Undefined) fs s else Stops Left

-- a new variable with the next number
abbrev pub new_variable : List ℕ → Value → List Frame → Store → Move
new_variable name default fs s =
    if nat_le (suc (length s.variables)) greatest
    then makes (Listed (variable_props name)) fs (record s { variables = s.variables ++ record { place = length s.heap; number = suc (length s.variables); default = default } ∷ [] })
    else Stops Left

-- an option that is undefined counts as absent
abbrev pub option_of : Option Value → Value
option_of None = v.Undefined
option_of (Some v) = v

-- a name is a text, and by default the empty one
abbrev pub named_variable : Value → Value → List Frame → Store → Move
named_variable v.Undefined default fs s = new_variable [] default fs s
named_variable (v.Text u) default fs s = new_variable u default fs s
named_variable _ default fs s = Stops Left

abbrev pub variable_of : Option Thing → List Frame → Store → Move
variable_of (Some (Plain ps)) fs s = named_variable (option_of (prop_of (codes "name") ps)) (option_of (prop_of (codes "defaultValue") ps)) fs s
variable_of _ fs s = Stops Left

-- new AsyncContext.Variable, without options or with an object of options
abbrev pub variable_form : List Value → List Frame → Store → Move
variable_form [] fs s = new_variable [] v.Undefined fs s
variable_form (v.Undefined ∷ []) fs s = new_variable [] v.Undefined fs s
variable_form (v.Thing k ∷ []) fs s = variable_of (slice_get s.heap k) fs s
variable_form _ fs s = Stops Left

-- Object.freeze
abbrev pub froze : Option (List Thing) → ℕ → List Frame → Store → Move
froze (Some heap) k fs s = Goes (Given (v.Thing k)) fs (with_heap s heap)
froze None k fs s = Stops Left

abbrev pub freeze_form : List Value → List Frame → Store → Move
freeze_form (v.Thing k ∷ []) fs s = froze (frozen (slice_get s.heap k) s.heap k) k fs s
freeze_form _ fs s = Stops Left

-- f.call: the task is a call, whose row is a step of its own
abbrev pub call_with : List Value → List Frame → Store → Move
call_with [] fs s = Stops Left
call_with (f ∷ vs) fs s = Goes (Call f (first vs) (rest vs)) fs s

-- __actx.note
abbrev pub noted : Option Noted → List Frame → Store → Move
noted (Some n) fs s = Writes n.event (Given v.Undefined) fs (record s { shown = n.shown })
noted None fs s = Stops Left

-- the forms of a side
abbrev pub has_form : Side → Form → Bool
has_form side Log = true
has_form side CallWith = true
has_form side.Source NewVariable = true
has_form side.Plain NewWeakMap = true
has_form side.Plain Freeze = true
has_form side.Plain Note = true
has_form _ _ = false

-- what is done with the values of a form's parts
abbrev pub form_rule : Form → List Value → List Frame → Store → Move
form_rule Log vs fs s = log vs fs s
form_rule NewVariable vs fs s = variable_form vs fs s
form_rule NewWeakMap vs fs s = makes (Weak []) fs s
form_rule Freeze vs fs s = freeze_form vs fs s
form_rule CallWith vs fs s = call_with vs fs s
form_rule Note vs fs s = noted (note s.heap s.shown vs) fs s
form_rule _ vs fs s = Stops Left

-- ROWS: operations
abbrev pub operator_rule : BinaryOp → List Value → List Frame → Store → Move
operator_rule op (a ∷ b ∷ []) fs s = answered (binary op a b) fs s
operator_rule op _ fs s = Stops Left

abbrev pub get_rule : List ℕ → List Value → List Frame → Store → Move
get_rule key (b ∷ []) fs s = answered (get s.heap b key) fs s
get_rule key _ fs s = Stops Left

abbrev pub put_done : Put → Value → List Frame → Store → Move
put_done (PutDone heap) v fs s = Goes (Given v) fs (with_heap s heap)
put_done PutThrows v fs s = throws TypeError fs s
put_done PutLeaves v fs s = Stops Left

abbrev pub set_rule : List ℕ → List Value → List Frame → Store → Move
set_rule key (b ∷ v ∷ []) fs s = put_done (put s.heap b key v) v fs s
set_rule key _ fs s = Stops Left

abbrev pub object_rule : List (List ℕ) → List Value → List Frame → Store → Move
object_rule keys vs fs s = if any_proto keys then Stops Left else makes (Plain (with_props keys vs [])) fs s

abbrev pub call_rule : Side → Value → List Value → List Frame → Store → Move
call_rule side r [] fs s = Stops Left
call_rule side r (f ∷ vs) fs s = call side f r vs fs s

abbrev pub rule : Side → Op → List Value → List Frame → Store → Move
rule side (Operator op) vs fs s = operator_rule op vs fs s
rule side (BuiltIn form) vs fs s = form_rule form vs fs s
rule side (GetKey key) vs fs s = get_rule key vs fs s
rule side (SetKey key) vs fs s = set_rule key vs fs s
rule side (MakeObject keys) vs fs s = object_rule keys vs fs s
rule side (CallOf r) vs fs s = call_rule side r vs fs s

-- the children of an expression in text order; without one its rule applies
abbrev pub eval_parts : Side → Op → List Value → Exprs → List Frame → Store → Move
eval_parts side op vs t.none fs s = rule side op vs fs s
eval_parts side op vs (t.also e es) fs s = Goes (Eval e) (Pending op vs es ∷ fs) s

-- ROWS: expressions
-- a key that is computed has no units before the run
abbrev pub units_of : PropKey → List ℕ
units_of (t.Fixed u) = u
units_of (t.Computed e) = []

abbrev pub keys_of : Properties → List (List ℕ)
keys_of t.no_properties = []
keys_of (t.property key e ps) = units_of key ∷ keys_of ps

abbrev pub is_fixed : PropKey → Bool
is_fixed (t.Fixed u) = true
is_fixed (t.Computed e) = false

abbrev pub are_fixed : Properties → Bool
are_fixed t.no_properties = true
are_fixed (t.property key e ps) = is_fixed key && are_fixed ps

abbrev pub values_of : Properties → Exprs
values_of t.no_properties = t.none
values_of (t.property key e ps) = t.also e (values_of ps)

-- a call of a property has the base first, and then reads the property
abbrev pub eval_call : Side → Expr → Exprs → List Frame → Store → Move
eval_call side (t.Member b (t.Dot key)) es fs s = Goes (Eval b) (BaseFrame key es ∷ fs) s
eval_call side f es fs s = eval_parts side (CallOf v.Undefined) [] (t.also f es) fs s

-- a form of the other side, or with a number of parts that it doesn't take, is outside the profile where it is reached
abbrev pub eval_form : Side → Form → Exprs → List Frame → Store → Move
eval_form side form es fs s = if has_form side form && suits form (count es) then eval_parts side (BuiltIn form) [] es fs s else Stops Left

-- keys that are computed are outside the profile
abbrev pub eval_object : Side → Properties → List Frame → Store → Move
eval_object side ps fs s = if are_fixed ps then eval_parts side (MakeObject (keys_of ps)) [] (values_of ps) fs s else Stops Left

-- a generator and what is async are outside the profile
abbrev pub function_rule : FunctionKind → List (List ℕ) → Stmts → List Frame → Store → Move
function_rule arrow_kind xs ss fs s = makes (Closure arrow_kind xs ss s.scope (kept_receiver arrow_kind s.receiver)) fs s
function_rule normal_kind xs ss fs s = makes (Closure normal_kind xs ss s.scope (kept_receiver normal_kind s.receiver)) fs s
function_rule _ xs ss fs s = Stops Left

-- and so is a function with a name of its own
abbrev pub eval_function : Code → List Frame → Store → Move
eval_function (t.code None kind xs ss) fs s = function_rule kind xs ss fs s
eval_function (t.code (Some x) kind xs ss) fs s = Stops Left

abbrev pub eval : Side → Expr → List Frame → Store → Move
eval side (t.Num n) fs s = eval_number n fs s
eval side (t.Text u) fs s = Goes (Given (v.Text u)) fs s
eval side t.Undefined fs s = Goes (Given v.Undefined) fs s
eval side t.This fs s = Goes (Given s.receiver) fs s
eval side (t.Named x) fs s = read_cell (find s.scopes s.scope x) fs s
eval side (t.Binary op a b) fs s = eval_parts side (Operator op) [] (t.also a (t.also b t.none)) fs s
eval side (t.Member b (t.Dot key)) fs s = eval_parts side (GetKey key) [] (t.also b t.none) fs s
eval side (t.SetMember b (t.Dot key) e) fs s = eval_parts side (SetKey key) [] (t.also b (t.also e t.none)) fs s
eval side (t.Call f es) fs s = eval_call side f es fs s
eval side (t.Object ps) fs s = eval_object side ps fs s
eval side (t.Function f) fs s = eval_function f fs s
eval side (t.Built form es) fs s = eval_form side form es fs s
eval side _ fs s = Stops Left

-- ROWS: statements
abbrev pub begin_item : ConstItems → List Frame → Store → Move
begin_item t.no_consts fs s = Goes (Done Normal) fs s
begin_item (t.const_item x e is) fs s = Goes (Eval e) (ConstFrame x is ∷ fs) s

-- an empty list has no frame and no scope
abbrev pub exec_list : Stmts → List Frame → Store → Move
exec_list t.end fs s = Goes (Done Normal) fs s
exec_list (t.next st ss) fs s = Goes (Exec st) (ListFrame ss s.scope ∷ fs) (with_scope s (with_names (t.next st ss) []))

-- the scope of a function's body is its call's
abbrev pub exec_body : Stmts → List Frame → Store → Move
exec_body t.end fs s = Goes (Done Normal) fs s
exec_body (t.next st ss) fs s = Goes (Exec st) (ListFrame ss s.scope ∷ fs) s

abbrev pub exec : Stmt → List Frame → Store → Move
exec (t.Const is) fs s = begin_item is fs s
exec (t.Value e) fs s = Goes (Eval e) (ValueFrame ∷ fs) s
exec (t.Return (t.some_expr e)) fs s = Goes (Eval e) (ReturnFrame ∷ fs) s
exec (t.Return t.no_expr) fs s = Goes (Done (Return v.Undefined)) fs s
exec (t.Block ss) fs s = exec_list ss fs s
exec (t.If e branch other) fs s = Goes (Eval e) (IfFrame branch other ∷ fs) s
exec (t.Try ss t.no_catch (t.last ls)) fs s = Goes (ExecList ss) (TryFrame ls s.scope ∷ fs) s
exec _ fs s = Stops Left

abbrev pub next_statement : Stmts → List ℕ → List Frame → Store → Move
next_statement t.end back fs s = Goes (Done Normal) fs (back_to s back)
next_statement (t.next st ss) back fs s = Goes (Exec st) (ListFrame ss back ∷ fs) s

-- ROWS: a value and a completion with no frame: the next event is dropped, since no callback waits for it, or the run is over
abbrev pub idle : Task → List Event → Store → Move
idle task [] s = Stops Ended
idle task (e ∷ es) s = Goes task [] (record s { events = es })

abbrev pub chosen : Bool → Stmt → MaybeStmt → List Frame → Store → Move
chosen true branch other fs s = Goes (Exec branch) fs s
chosen false branch t.no_stmt fs s = Goes (Done Normal) fs s
chosen false branch (t.some_stmt other) fs s = Goes (Exec other) fs s

-- the property of a call's base: where reading it throws, the frame stays for a later step
abbrev pub base_given : Answer → Value → List ℕ → Exprs → List Frame → Store → Move
base_given (Gives f) b key es fs s = Goes (Given f) (CalleeFrame b es ∷ fs) s
base_given (Throws name) b key es fs s = throws name (BaseFrame key es ∷ fs) s
base_given Leaves b key es fs s = Stops Left

abbrev pub given : Side → Value → List Frame → Store → Move
given side v [] s = idle (Given v) s.events s
given side v (Pending op vs es ∷ fs) s = eval_parts side op (vs ++ v ∷ []) es fs s
given side v (BaseFrame key es ∷ fs) s = base_given (get s.heap v key) v key es fs s
given side v (CalleeFrame b es ∷ fs) s = eval_parts side (CallOf b) (v ∷ []) es fs s
given side v (ConstFrame x is ∷ fs) s = begin_item is fs (with_set s x v)
given side v (ValueFrame ∷ fs) s = Goes (Done Normal) fs s
given side v (ReturnFrame ∷ fs) s = Goes (Done (Return v)) fs s
given side v (IfFrame branch other ∷ fs) s = chosen (is_true v) branch other fs s
given side v (MappingFrame old back r ∷ fs) s = Goes (Given v) fs (record s { mapping = old; scope = back; receiver = r })
given side v (TryFrame ls back ∷ fs) s = Stops Left
given side v (LastFrame c ∷ fs) s = Stops Left
given side v (ListFrame ss back ∷ fs) s = Stops Left
given side v (CallFrame back r ∷ fs) s = Stops Left

-- a completion at no frame; a program with the static rules never returns there
abbrev pub finished : Completion → Store → Move
finished Normal s = idle (Done Normal) s.events s
finished (Return v) s = Stops Left
finished (Throw v) s = Stops (Threw (show s.heap (more_shown s.shown v) v))

abbrev pub list_done : Completion → Stmts → List ℕ → List Frame → Store → Move
list_done Normal ss back fs s = next_statement ss back fs s
list_done (Return v) ss back fs s = Goes (Done (Return v)) fs (back_to s back)
list_done (Throw v) ss back fs s = Goes (Done (Throw v)) fs (back_to s back)

abbrev pub call_done : Completion → List Frame → Store → Move
call_done Normal fs s = Goes (Given v.Undefined) fs s
call_done (Return v) fs s = Goes (Given v) fs s
call_done (Throw v) fs s = Goes (Done (Throw v)) fs s

-- the last part's own completion replaces the one that is kept, but for a normal one
abbrev pub last_done : Completion → Completion → List Frame → Store → Move
last_done Normal kept fs s = Goes (Done kept) fs s
last_done (Return v) kept fs s = Goes (Done (Return v)) fs s
last_done (Throw v) kept fs s = Goes (Done (Throw v)) fs s

abbrev pub done : Completion → List Frame → Store → Move
done c [] s = finished c s
done c (ListFrame ss back ∷ fs) s = list_done c ss back fs s
done c (CallFrame back r ∷ fs) s = call_done c fs (back_from s back r)
done c (TryFrame ls back ∷ fs) s = Goes (ExecList ls) (LastFrame c ∷ fs) (back_to s back)
done c (LastFrame kept ∷ fs) s = last_done c kept fs s
done c (MappingFrame old back r ∷ fs) s = Goes (Done c) fs (record s { mapping = old; scope = back; receiver = r })
done c (_ ∷ fs) s = Goes (Done c) fs s

-- THE TABLE
abbrev pub row : Side → Task → List Frame → Store → Move
row side (Eval e) fs s = eval side e fs s
row side (Exec st) fs s = exec st fs s
row side (ExecList ss) fs s = exec_list ss fs s
row side (ExecBody ss) fs s = exec_body ss fs s
row side (Given v) fs s = given side v fs s
row side (Done c) fs s = done c fs s
row side (Call f r vs) fs s = call side f r vs fs s

abbrev pub at : Task → List Frame → Store → List TraceEvent → State
at task fs s tr = record { now = Doing task; frames = fs; store = s; trace = tr }

abbrev pub no_store : Store
no_store = record { scope = []; receiver = v.Undefined; scopes = []; heap = []; shown = []; events = []; mapping = []; variables = [] }

-- a run that is over keeps its end and its trace alone
abbrev pub stopped : End → List TraceEvent → State
stopped e tr = record { now = Over e; frames = []; store = no_store; trace = tr }

abbrev pub takes : Move → List TraceEvent → State
takes (Goes task fs s) tr = at task fs s tr
takes (Writes e task fs s) tr = at task fs s (tr ++ e ∷ [])
takes (Stops e) tr = stopped e tr

abbrev pub step_at : Side → Now → List Frame → Store → List TraceEvent → State
step_at side (Doing task) fs s tr = takes (row side task fs s) tr
step_at side (Over e) fs s tr = record { now = Over e; frames = fs; store = s; trace = tr }

-- one step; a run that is over stays as it is
abbrev pub step : Side → State → State
step side s = step_at side s.now s.frames s.store s.trace

-- the methods of a side's things stand in the heap before the first step
abbrev pub first_heap : Side → List Thing
first_heap side.Source = Native VariableGet ∷ Native VariableRun ∷ []
first_heap side.Plain = Native WeakMapGet ∷ Native WeakMapSet ∷ []

-- the state before the first step: the program's list is to be executed
abbrev pub start : Side → Stmts → List Event → State
start side p events = at (ExecList p) [] (record no_store { heap = first_heap side; events = events }) []

abbrev pub end_of : Now → End
end_of (Doing task) = Going
end_of (Over e) = e

-- whether a run goes on
abbrev pub goes : End → Bool
goes Going = true
goes _ = false
