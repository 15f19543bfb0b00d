-- The rows of statements (ECMA-262, 14).
use Rattle.std.specs.Prelude.{ℕ, pos, Bool, true, false, List, [], ◌∷◌, Option, Some, None, if◌then◌else◌}
use Rattle.actx_data.specs.declared.end.End.TheVariants.{Left}
use Rattle.actx_data.specs.declared.value.Value.{Value}
use Rattle.actx_data.specs.declared.value.Value.TheVariants as v
use Rattle.actx_grammar.specs.declared.side.Side.{Side}
use Rattle.actx_grammar.specs.declared.side.Side.TheVariants as side
use Rattle.actx_grammar.specs.Tree as t
use Rattle.actx_grammar.specs.Tree.{Expr, MaybeExpr, LetItems, ConstItems, Init, Clauses, Catch, Last, Stmt, MaybeStmt, Stmts}
use Rattle.actx_heap.specs.Properties.{same}
use Rattle.actx_table.specs.Scopes.{with_lets, with_consts, open_cell, with_scope, with_list, with_clauses, with_copy, back_to}
use Rattle.actx_table.specs.State.{Cell, Completion, Normal, Break, Continue, Return, Throw, Eval, Exec, ExecPart, ExecList, ExecBody, Given, Done, Loop, Frame, LetFrame, ConstFrame, ValueFrame, ReturnFrame, ThrowFrame, IfFrame, SwitchFrame, ClauseFrame, TestFrame, TurnFrame, ForLet, ForConst, ForInit, ForCopy, ForTest, ForTurn, ForUpdate, TryFrame, CatchFrame, LastFrame, ListFrame, CallFrame, Store, Move, Goes, Stops}
use Rattle.actx_table.specs.Expressions.{has_kind}

-- MISPLACED STATEMENTS
-- whether a loop or a switch is under way in the function, a loop alone, a function at all
abbrev pub may_break : List Frame → Bool
may_break [] = false
may_break (CallFrame back r ∷ fs) = false
may_break (TurnFrame e st ∷ fs) = true
may_break (ForTurn loop ∷ fs) = true
may_break (ClauseFrame cs back ∷ fs) = true
may_break (_ ∷ fs) = may_break fs

abbrev pub may_continue : List Frame → Bool
may_continue [] = false
may_continue (CallFrame back r ∷ fs) = false
may_continue (TurnFrame e st ∷ fs) = true
may_continue (ForTurn loop ∷ fs) = true
may_continue (_ ∷ fs) = may_continue fs

abbrev pub may_return : List Frame → Bool
may_return [] = false
may_return (CallFrame back r ∷ fs) = true
may_return (_ ∷ fs) = may_return fs

abbrev pub completes : Bool → Completion → List Frame → Store → Move
completes true c fs s = Goes (Done c) fs s
completes false c fs s = Stops Left

-- DECLARATIONS (14.3.1.2)
abbrev pub begin_let : LetItems → List Frame → Store → Move
begin_let t.no_lets fs s = Goes (Done Normal) fs s
begin_let (t.let_item x t.no_expr is) fs s = Goes (Given v.Undefined) (LetFrame x is ∷ fs) s
begin_let (t.let_item x (t.some_expr e) is) fs s = Goes (Eval e) (LetFrame x is ∷ fs) s

abbrev pub begin_const : ConstItems → List Frame → Store → Move
begin_const t.no_consts fs s = Goes (Done Normal) fs s
begin_const (t.const_item x e is) fs s = Goes (Eval e) (ConstFrame x is ∷ fs) s

-- LISTS (14.2.2): an empty list has no frame and no scope
abbrev pub exec_list : Stmts → List Frame → Store → Move
exec_list t.end fs s = Goes (Done Normal) fs s
exec_list (t.next st ss) fs s = Goes (Exec st) (ListFrame ss s.scope ∷ fs) (with_list s (t.next st ss))

-- the scope of a function's body is its call's, and that of a clause its switch's
abbrev pub exec_body : Stmts → List Frame → Store → Move
exec_body t.end fs s = Goes (Done Normal) fs s
exec_body (t.next st ss) fs s = Goes (Exec st) (ListFrame ss s.scope ∷ fs) s

-- LOOPS
-- the test of a for; a missing test is true (14.7.4.3)
abbrev pub begin_test : MaybeExpr → Loop → List Frame → Store → Move
begin_test t.no_expr loop fs s = Goes (Given (v.Truth true)) (ForTest loop ∷ fs) s
begin_test (t.some_expr e) loop fs s = Goes (Eval e) (ForTest loop ∷ fs) s

abbrev pub begin_update : MaybeExpr → Loop → List Frame → Store → Move
begin_update t.no_expr loop fs s = begin_test loop.test loop fs s
begin_update (t.some_expr e) loop fs s = Goes (Eval e) (ForUpdate loop ∷ fs) s

-- after the last item of a let comes the first copy, in a step of its own
abbrev pub begin_for_let : LetItems → Loop → List Frame → Store → Move
begin_for_let t.no_lets loop fs s = Goes (Done Normal) (ForCopy loop ∷ fs) s
begin_for_let (t.let_item x t.no_expr is) loop fs s = Goes (Given v.Undefined) (ForLet x is loop ∷ fs) s
begin_for_let (t.let_item x (t.some_expr e) is) loop fs s = Goes (Eval e) (ForLet x is loop ∷ fs) s

abbrev pub begin_for_const : ConstItems → Loop → List Frame → Store → Move
begin_for_const t.no_consts loop fs s = begin_test loop.test loop fs s
begin_for_const (t.const_item x e is) loop fs s = Goes (Eval e) (ForConst x is loop ∷ fs) s

abbrev pub loop_of : Bool → MaybeExpr → MaybeExpr → Stmt → List ℕ → Loop
loop_of copies test update body back = record { copies = copies; test = test; update = update; body = body; back = back }

abbrev pub exec_for : Init → MaybeExpr → MaybeExpr → Stmt → List Frame → Store → Move
exec_for t.init_nothing test update body fs s = begin_test test (loop_of false test update body s.scope) fs s
exec_for (t.init_let is) test update body fs s = begin_for_let is (loop_of true test update body s.scope) fs (with_scope s (with_lets is []))
exec_for (t.init_const is) test update body fs s = begin_for_const is (loop_of false test update body s.scope) fs (with_scope s (with_consts is []))
exec_for (t.init_value e) test update body fs s = Goes (Eval e) (ForInit (loop_of false test update body s.scope) ∷ fs) s

-- EXECUTING
abbrev pub exec_fun : Side → t.Code → List Frame → Store → Move
exec_fun side (t.code name kind xs ss) fs s = completes (has_kind side kind) Normal fs s

abbrev pub exec_return : MaybeExpr → List Frame → Store → Move
exec_return t.no_expr fs s = completes (may_return fs) (Return v.Undefined) fs s
exec_return (t.some_expr e) fs s = if may_return fs then Goes (Eval e) (ReturnFrame ∷ fs) s else Stops Left

-- a switch stands in plain programs alone
abbrev pub exec_switch : Side → Expr → Clauses → List Frame → Store → Move
exec_switch side.Plain e cs fs s = Goes (Eval e) (SwitchFrame cs ∷ fs) s
exec_switch side.Source e cs fs s = Stops Left

abbrev pub exec : Side → Stmt → List Frame → Store → Move
exec side (t.Let is) fs s = begin_let is fs s
exec side (t.Const is) fs s = begin_const is fs s
exec side (t.Fun f) fs s = exec_fun side f fs s
exec side (t.Block ss) fs s = exec_list ss fs s
exec side (t.If e st other) fs s = Goes (Eval e) (IfFrame st other ∷ fs) s
exec side (t.While e body) fs s = Goes (Eval e) (TestFrame e body ∷ fs) s
exec side (t.DoWhile body e) fs s = Goes (ExecPart body) (TurnFrame e body ∷ fs) s
exec side (t.For init test update body) fs s = exec_for init test update body fs s
exec side (t.ForOf constant x e body) fs s = Stops Left
exec side (t.ForAwait constant x e body) fs s = Stops Left
exec side t.Break fs s = completes (may_break fs) Break fs s
exec side t.Continue fs s = completes (may_continue fs) Continue fs s
exec side (t.Return e) fs s = exec_return e fs s
exec side (t.Throw e) fs s = Goes (Eval e) (ThrowFrame ∷ fs) s
exec side (t.Try ss catcher ending) fs s = Goes (ExecList ss) (TryFrame catcher ending s.scope ∷ fs) s
exec side (t.Value e) fs s = Goes (Eval e) (ValueFrame ∷ fs) s
exec side t.Empty fs s = Goes (Done Normal) fs s
exec side (t.Switch e cs) fs s = exec_switch side e cs fs s

-- a declaration may not stand as a branch or as a loop's body
abbrev pub exec_part : Side → Stmt → List Frame → Store → Move
exec_part side (t.Let is) fs s = Stops Left
exec_part side (t.Const is) fs s = Stops Left
exec_part side (t.Fun f) fs s = Stops Left
exec_part side st fs s = exec side st fs s

-- A VALUE AT A STATEMENT'S FRAME
abbrev pub branch : Bool → Stmt → MaybeStmt → List Frame → Store → Move
branch true st other fs s = Goes (ExecPart st) fs s
branch false st t.no_stmt fs s = Goes (Done Normal) fs s
branch false st (t.some_stmt other) fs s = Goes (ExecPart other) fs s

abbrev pub turn : Bool → Expr → Stmt → List Frame → Store → Move
turn true e body fs s = Goes (ExecPart body) (TurnFrame e body ∷ fs) s
turn false e body fs s = Goes (Done Normal) fs s

abbrev pub for_turn : Bool → Loop → List Frame → Store → Move
for_turn true loop fs s = Goes (ExecPart loop.body) (ForTurn loop ∷ fs) s
for_turn false loop fs s = Goes (Done Normal) fs (back_to s loop.back)

-- the clauses from the first with this number, or from the default (14.12.2)
abbrev pub is_clause : Value → Option ℕ → Bool
is_clause a (Some n) = same a (v.Num (pos n))
is_clause a None = false

abbrev pub is_default : Option ℕ → Bool
is_default None = true
is_default (Some n) = false

abbrev pub from_default : Clauses → Clauses
from_default t.no_clauses = t.no_clauses
from_default (t.clause n ss cs) = if is_default n then t.clause n ss cs else from_default cs

abbrev pub from_clause : Value → Clauses → Clauses → Clauses
from_clause a all t.no_clauses = from_default all
from_clause a all (t.clause n ss cs) = if is_clause a n then t.clause n ss cs else from_clause a all cs

abbrev pub begin_clauses : Clauses → Clauses → List Frame → Store → Move
begin_clauses t.no_clauses all fs s = Goes (Done Normal) fs s
begin_clauses (t.clause n ss cs) all fs s = Goes (ExecBody ss) (ClauseFrame cs s.scope ∷ fs) (with_clauses s all)

abbrev pub next_clause : Clauses → List ℕ → List Frame → Store → Move
next_clause t.no_clauses back fs s = Goes (Done Normal) fs (back_to s back)
next_clause (t.clause n ss cs) back fs s = Goes (ExecBody ss) (ClauseFrame cs back ∷ fs) s

-- A COMPLETION AT A STATEMENT'S FRAME
abbrev pub next_statement : Stmts → List ℕ → List Frame → Store → Move
next_statement t.end back fs s = Goes (Done Normal) fs (back_to s back)
next_statement (t.next st ss) back fs s = Goes (Exec st) (ListFrame ss back ∷ fs) s

abbrev pub list_done : Completion → Stmts → List ℕ → List Frame → Store → Move
list_done Normal ss back fs s = next_statement ss back fs s
list_done c ss back fs s = Goes (Done c) fs (back_to s back)

abbrev pub clause_done : Completion → Clauses → List ℕ → List Frame → Store → Move
clause_done Normal cs back fs s = next_clause cs back fs s
clause_done Break cs back fs s = Goes (Done Normal) fs (back_to s back)
clause_done c cs back fs s = Goes (Done c) fs (back_to s back)

abbrev pub turn_done : Completion → Expr → Stmt → List Frame → Store → Move
turn_done Normal e body fs s = Goes (Eval e) (TestFrame e body ∷ fs) s
turn_done Continue e body fs s = Goes (Eval e) (TestFrame e body ∷ fs) s
turn_done Break e body fs s = Goes (Done Normal) fs s
turn_done c e body fs s = Goes (Done c) fs s

abbrev pub copy_done : Completion → Loop → List Frame → Store → Move
copy_done Normal loop fs s = begin_test loop.test loop fs (with_copy s loop.copies loop.back)
copy_done c loop fs s = Goes (Done c) fs (back_to s loop.back)

abbrev pub for_done : Completion → Loop → List Frame → Store → Move
for_done Normal loop fs s = begin_update loop.update loop fs (with_copy s loop.copies loop.back)
for_done Continue loop fs s = begin_update loop.update loop fs (with_copy s loop.copies loop.back)
for_done Break loop fs s = Goes (Done Normal) fs (back_to s loop.back)
for_done c loop fs s = Goes (Done c) fs (back_to s loop.back)

-- the last part of a try, with the completion that it keeps, or that completion itself (14.15.3)
abbrev pub begin_last : Last → Completion → List Frame → Store → Move
begin_last t.no_last c fs s = Goes (Done c) fs s
begin_last (t.last ss) c fs s = Goes (ExecList ss) (LastFrame c ∷ fs) s

-- what was thrown has the catch part's name, in a scope of its own
abbrev pub catch_scope : Option (List ℕ) → Value → List Cell
catch_scope None a = []
catch_scope (Some x) a = open_cell x a ∷ []

abbrev pub caught : Catch → Last → List ℕ → Value → List Frame → Store → Move
caught t.no_catch ending back a fs s = begin_last ending (Throw a) fs s
caught (t.catch x ss) ending back a fs s = Goes (ExecList ss) (CatchFrame ending back ∷ fs) (with_scope s (catch_scope x a))

abbrev pub try_done : Completion → Catch → Last → List ℕ → List Frame → Store → Move
try_done (Throw a) catcher ending back fs s = caught catcher ending back a fs (back_to s back)
try_done c catcher ending back fs s = begin_last ending c fs (back_to s back)

-- the last part's own completion replaces the one that is kept, but for a normal one
abbrev pub last_done : Completion → Completion → List Frame → Store → Move
last_done Normal kept fs s = Goes (Done kept) fs s
last_done c kept fs s = Goes (Done c) fs s

abbrev pub call_done : Completion → List Frame → Store → Move
call_done (Return a) fs s = Goes (Given a) fs s
call_done (Throw a) fs s = Goes (Done (Throw a)) fs s
call_done c fs s = Goes (Given v.Undefined) fs s
