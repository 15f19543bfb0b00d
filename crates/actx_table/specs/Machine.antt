-- One step table for both machines: a row answers a move, and each row is one step (ECMA-262, 9.4 and 9.5).
use Rattle.std.specs.Prelude.{ℕ, List, [], ◌∷◌, ◌++◌, Option, Some, None}
use Rattle.actx_data.specs.declared.end.End.{End}
use Rattle.actx_data.specs.declared.end.End.TheVariants.{Going, Ended, Threw, Left}
use Rattle.actx_data.specs.declared.event.Event.{Event}
use Rattle.actx_data.specs.declared.trace.TraceEvent.{TraceEvent}
use Rattle.actx_data.specs.declared.trace.TraceEvent.TheVariants.{Start}
use Rattle.actx_data.specs.declared.value.Value.{Value}
use Rattle.actx_data.specs.declared.value.Value.TheVariants as v
use Rattle.actx_grammar.specs.declared.side.Side.{Side}
use Rattle.actx_grammar.specs.declared.side.Side.TheVariants as side
use Rattle.actx_grammar.specs.Tree.{Stmts}
use Rattle.actx_heap.specs.Things.{Thing, Function}
use Rattle.actx_heap.specs.Properties.{get}
use Rattle.actx_table.specs.Operators.{binary, is_true}
use Rattle.actx_table.specs.Scopes.{with_set, back_to, back_from}
use Rattle.actx_table.specs.State.{Code, Native, VariableGet, VariableRun, WeakMapGet, WeakMapSet, Completion, Normal, Return, Throw, Task, Eval, Exec, ExecPart, ExecList, ExecBody, Given, Done, Call, CallOf, Frame, Pending, LogicFrame, ChoiceFrame, ChangeFrame, BaseFrame, KeyFrame, CalleeFrame, LetFrame, ConstFrame, ValueFrame, ReturnFrame, ThrowFrame, IfFrame, SwitchFrame, ClauseFrame, TestFrame, TurnFrame, ForLet, ForConst, ForInit, ForCopy, ForTest, ForTurn, ForUpdate, TryFrame, CatchFrame, LastFrame, ListFrame, CallFrame, MappingFrame, Store, Now, Doing, Over, State, Move, Goes, Writes, Stops}
use Rattle.actx_table.specs.Agent.{callback_of}
use Rattle.actx_table.specs.Showing.{show, more_shown}
use Rattle.actx_table.specs.Expressions.{call, eval, eval_parts, change_name, logic_given, choice_given, base_given, callee_read}
use Rattle.actx_table.specs.Statements.{begin_let, begin_const, exec_list, exec_body, exec, exec_part, begin_for_let, begin_for_const, begin_test, branch, turn, for_turn, from_clause, begin_clauses, list_done, clause_done, turn_done, copy_done, for_done, try_done, begin_last, last_done, call_done}

-- NOTHING WAITS FOR A VALUE: the first job, else the first host event, which is dropped where it has no callback, else the end (9.5)
abbrev pub host_event : Option Value → Task → List ℕ → Store → Move
host_event None task text s = Goes task [] s
host_event (Some f) task text s = Writes Start (Call f v.Undefined (v.Text text ∷ [])) [] s

abbrev pub next_event : Task → List Event → Store → Move
next_event task [] s = Stops Ended
next_event task (e ∷ es) s = host_event (callback_of e.name s.callbacks) task e.text (record s { events = es })

abbrev pub idle : Task → List Value → Store → Move
idle task [] s = next_event task s.events s
idle task (f ∷ jobs) s = Writes Start (Call f v.Undefined []) [] (record s { jobs = jobs })

abbrev pub mapped_back : Store → List (ℕ × Value) → List ℕ → Value → Store
mapped_back s old back r = record s { mapping = old; scope = back; receiver = r }

-- A VALUE IS GIVEN
abbrev pub given : Side → Value → List Frame → Store → Move
given side a [] s = idle (Given a) s.jobs s
given side a (Pending op vs es ∷ fs) s = eval_parts side op (vs ++ a ∷ []) es fs s
given side a (LogicFrame op right ∷ fs) s = logic_given op a right fs s
given side a (ChoiceFrame b c ∷ fs) s = choice_given a b c fs s
given side a (ChangeFrame x op old ∷ fs) s = change_name (binary op old a) x fs s
given side a (BaseFrame key es ∷ fs) s = base_given a key es fs s
given side a (KeyFrame b es ∷ fs) s = callee_read (get s.heap b a) (KeyFrame b es) b es fs s
given side a (CalleeFrame b es ∷ fs) s = eval_parts side (CallOf b) (a ∷ []) es fs s
given side a (LetFrame x is ∷ fs) s = begin_let is fs (with_set s x a)
given side a (ConstFrame x is ∷ fs) s = begin_const is fs (with_set s x a)
given side a (ValueFrame ∷ fs) s = Goes (Done Normal) fs s
given side a (ReturnFrame ∷ fs) s = Goes (Done (Return a)) fs s
given side a (ThrowFrame ∷ fs) s = Goes (Done (Throw a)) fs s
given side a (IfFrame st other ∷ fs) s = branch (is_true a) st other fs s
given side a (SwitchFrame cs ∷ fs) s = begin_clauses (from_clause a cs cs) cs fs s
given side a (TestFrame e body ∷ fs) s = turn (is_true a) e body fs s
given side a (ForLet x is loop ∷ fs) s = begin_for_let is loop fs (with_set s x a)
given side a (ForConst x is loop ∷ fs) s = begin_for_const is loop fs (with_set s x a)
given side a (ForInit loop ∷ fs) s = begin_test loop.test loop fs s
given side a (ForTest loop ∷ fs) s = for_turn (is_true a) loop fs s
given side a (ForUpdate loop ∷ fs) s = begin_test loop.test loop fs s
given side a (MappingFrame old back r ∷ fs) s = Goes (Given a) fs (mapped_back s old back r)
-- no value comes to a list, a call, a clause, a body or a try
given side a (_ ∷ fs) s = Stops Left

-- A PART IS DONE
-- with no frame; a program never returns or breaks there
abbrev pub finished : Completion → Store → Move
finished Normal s = idle (Done Normal) s.jobs s
finished (Throw a) s = Stops (Threw (show s.heap (more_shown s.shown a) a))
finished _ s = Stops Left

abbrev pub done : Completion → List Frame → Store → Move
done c [] s = finished c s
done c (ListFrame ss back ∷ fs) s = list_done c ss back fs s
done c (ClauseFrame cs back ∷ fs) s = clause_done c cs back fs s
done c (TurnFrame e body ∷ fs) s = turn_done c e body fs s
done c (ForCopy loop ∷ fs) s = copy_done c loop fs s
done c (ForTurn loop ∷ fs) s = for_done c loop fs s
done c (TryFrame catcher ending back ∷ fs) s = try_done c catcher ending back fs s
done c (CatchFrame ending back ∷ fs) s = begin_last ending c fs (back_to s back)
done c (LastFrame kept ∷ fs) s = last_done c kept fs s
done c (CallFrame back r ∷ fs) s = call_done c fs (back_from s back r)
done c (MappingFrame old back r ∷ fs) s = Goes (Done c) fs (mapped_back s old back r)
done c (ForLet x is loop ∷ fs) s = Goes (Done c) fs (back_to s loop.back)
done c (ForConst x is loop ∷ fs) s = Goes (Done c) fs (back_to s loop.back)
done c (ForTest loop ∷ fs) s = Goes (Done c) fs (back_to s loop.back)
done c (ForUpdate loop ∷ fs) s = Goes (Done c) fs (back_to s loop.back)
done c (_ ∷ fs) s = Goes (Done c) fs s

-- THE TABLE
abbrev pub row : Side → Task → List Frame → Store → Move
row side (Eval e) fs s = eval side e fs s
row side (Exec st) fs s = exec side st fs s
row side (ExecPart st) fs s = exec_part side st fs s
row side (ExecList ss) fs s = exec_list ss fs s
row side (ExecBody ss) fs s = exec_body ss fs s
row side (Given a) fs s = given side a fs s
row side (Done c) fs s = done c fs s
row side (Call f r vs) fs s = call side f r vs fs s

abbrev pub at : Task → List Frame → Store → List TraceEvent → State
at task fs s tr = record { now = Doing task; frames = fs; store = s; trace = tr }

abbrev pub no_store : Store
no_store = record { scope = []; receiver = v.Undefined; scopes = []; heap = []; shown = []; events = []; callbacks = []; mapping = []; variables = []; weak = []; jobs = [] }

-- a run that is over keeps its end and its trace alone
abbrev pub stopped : End → List TraceEvent → State
stopped e tr = record { now = Over e; frames = []; store = no_store; trace = tr }

abbrev pub takes : Move → List TraceEvent → State
takes (Goes task fs s) tr = at task fs s tr
takes (Writes e task fs s) tr = at task fs s (tr ++ e ∷ [])
takes (Stops e) tr = stopped e tr

abbrev pub step_at : Side → Now → List Frame → Store → List TraceEvent → State
step_at side (Doing task) fs s tr = takes (row side task fs s) tr
step_at side (Over e) fs s tr = record { now = Over e; frames = fs; store = s; trace = tr }

-- one step; a run that is over stays as it is
abbrev pub step : Side → State → State
step side s = step_at side s.now s.frames s.store s.trace

-- the methods of a side's things stand in the heap before the first step
abbrev pub first_heap : Side → List (Thing Code)
first_heap side.Source = Function (Native VariableGet) ∷ Function (Native VariableRun) ∷ []
first_heap side.Plain = Function (Native WeakMapGet) ∷ Function (Native WeakMapSet) ∷ []

-- the state before the first step: the program's list is to be executed
abbrev pub start : Side → Stmts → List Event → State
start side p events = at (ExecList p) [] (record no_store { heap = first_heap side; events = events }) []

abbrev pub end_of : Now → End
end_of (Doing task) = Going
end_of (Over e) = e
