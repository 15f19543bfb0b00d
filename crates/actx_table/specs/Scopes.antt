-- Names in scopes: looking them up, giving them values, declaring them (ECMA-262, 9.1.1.1, 10.2.11, 14.2.3 and 14.7.4.4).
use Rattle.std.specs.Prelude.{ℕ, Bool, true, false, List, [], ◌∷◌, ◌++◌, length, Option, Some, None, slice_get, slice_set, if◌then◌else◌}
use Rattle.actx_data.specs.declared.value.Value.{Value}
use Rattle.actx_data.specs.declared.value.Value.TheVariants as v
use Rattle.actx_grammar.specs.Tree as t
use Rattle.actx_grammar.specs.Tree.{LetItems, ConstItems, Clauses, Stmts}
use Rattle.actx_heap.specs.Texts.{same_text}
use Rattle.actx_heap.specs.Things.{Thing, Function}
use Rattle.actx_table.specs.State.{Cell, Code, Closure, Store}

abbrev pub or_else : {A : Type 0} → Option A → Option A → Option A
or_else (Some a) b = Some a
or_else None b = b

abbrev pub option_or : {A : Type 0} → Option A → A → A
option_or (Some a) b = a
option_or None b = b

-- LOOKING UP
abbrev pub cell_of : List ℕ → List Cell → Option Cell
cell_of x [] = None
cell_of x (c ∷ cs) = if same_text x c.name then Some c else cell_of x cs

abbrev pub cells_at : List (List Cell) → ℕ → List Cell
cells_at scopes k = option_or (slice_get scopes k) []

-- a cell with the number of its scope
pub record Found : Type 0 where
  pub place : ℕ
  pub cell : Cell

abbrev pub found_at : ℕ → Option Cell → Option Found
found_at k (Some c) = Some (record { place = k; cell = c })
found_at k None = None

-- the innermost cell with the name
abbrev pub find : List (List Cell) → List ℕ → List ℕ → Option Found
find scopes [] x = None
find scopes (k ∷ ks) x = or_else (found_at k (cell_of x (cells_at scopes k))) (find scopes ks x)

-- GIVING A VALUE: a constant keeps the value that it has
abbrev pub given_cell : Value → Cell → Option Value → Cell
given_cell v c None = record { name = c.name; value = Some v; constant = c.constant }
given_cell v c (Some w) = if c.constant then c else record { name = c.name; value = Some v; constant = c.constant }

abbrev pub set_cell : List ℕ → Value → List Cell → List Cell
set_cell x v [] = []
set_cell x v (c ∷ cs) = if same_text x c.name then given_cell v c c.value ∷ cs else c ∷ set_cell x v cs

abbrev pub with_value_at : Store → ℕ → List ℕ → Value → Store
with_value_at s k x v = record s { scopes = slice_set s.scopes k (set_cell x v (cells_at s.scopes k)) }

-- the value of a name that the current scope declares
abbrev pub set_in : Store → List ℕ → List ℕ → Value → Store
set_in s [] x v = s
set_in s (k ∷ ks) x v = with_value_at s k x v

abbrev pub with_set : Store → List ℕ → Value → Store
with_set s x v = set_in s s.scope x v

-- DECLARING: a later binding of one name replaces an earlier one
abbrev pub with_cell : Cell → List Cell → List Cell
with_cell c [] = c ∷ []
with_cell c (d ∷ ds) = if same_text c.name d.name then record { name = d.name; value = c.value; constant = c.constant } ∷ ds else d ∷ with_cell c ds

abbrev pub unset : List ℕ → Bool → Cell
unset x constant = record { name = x; value = None; constant = constant }

abbrev pub open_cell : List ℕ → Value → Cell
open_cell x v = record { name = x; value = Some v; constant = false }

abbrev pub fixed_cell : List ℕ → Value → Cell
fixed_cell x v = record { name = x; value = Some v; constant = true }

abbrev pub with_lets : LetItems → List Cell → List Cell
with_lets t.no_lets cs = cs
with_lets (t.let_item x e is) cs = with_lets is (with_cell (unset x false) cs)

abbrev pub with_consts : ConstItems → List Cell → List Cell
with_consts t.no_consts cs = cs
with_consts (t.const_item x e is) cs = with_consts is (with_cell (unset x true) cs)

-- the names of a list's let and const (14.2.3, step 3.a)
abbrev pub with_names : Stmts → List Cell → List Cell
with_names t.end cs = cs
with_names (t.next (t.Let is) ss) cs = with_names ss (with_lets is cs)
with_names (t.next (t.Const is) ss) cs = with_names ss (with_consts is cs)
with_names (t.next _ ss) cs = with_names ss cs

abbrev pub with_clause_names : Clauses → List Cell → List Cell
with_clause_names t.no_clauses cs = cs
with_clause_names (t.clause n ss more) cs = with_clause_names more (with_names ss cs)

-- parameters with the values of arguments, or undefined where there are none left (10.2.11)
abbrev pub with_params : List (List ℕ) → List Value → List Cell → List Cell
with_params [] vs cs = cs
with_params (x ∷ xs) [] cs = with_params xs [] (with_cell (open_cell x v.Undefined) cs)
with_params (x ∷ xs) (v ∷ vs) cs = with_params xs vs (with_cell (open_cell x v) cs)

-- a heap and the cells of a scope in it
pub record Made : Type 0 where
  pub heap : List (Thing Code)
  pub cells : List Cell

-- the function of a declaration, in the scope that it is declared in (15.2.4)
abbrev pub made_function : t.Code → List ℕ → Made → Made
made_function (t.code (Some x) kind xs ss) scope m =
    record { heap = m.heap ++ Function (Closure kind xs ss scope v.Undefined) ∷ []; cells = with_cell (open_cell x (v.Thing (length m.heap))) m.cells }
made_function (t.code None kind xs ss) scope m = m

-- the functions of a list, in order
abbrev pub with_functions : Stmts → List ℕ → Made → Made
with_functions t.end scope m = m
with_functions (t.next (t.Fun f) ss) scope m = with_functions ss scope (made_function f scope m)
with_functions (t.next _ ss) scope m = with_functions ss scope m

abbrev pub with_clause_functions : Clauses → List ℕ → Made → Made
with_clause_functions t.no_clauses scope m = m
with_clause_functions (t.clause n ss more) scope m = with_clause_functions more scope (with_functions ss scope m)

-- ENTERING
abbrev pub with_made : Store → List ℕ → Made → Store
with_made s scope m = record s { scope = scope; scopes = s.scopes ++ m.cells ∷ []; heap = m.heap }

-- a new scope in the current one, with these cells
abbrev pub with_scope : Store → List Cell → Store
with_scope s cells = record s { scope = length s.scopes ∷ s.scope; scopes = s.scopes ++ cells ∷ [] }

-- the scope of a list: its names, and its functions
abbrev pub with_list : Store → Stmts → Store
with_list s ss = with_made s (length s.scopes ∷ s.scope) (with_functions ss (length s.scopes ∷ s.scope) (record { heap = s.heap; cells = with_names ss [] }))

abbrev pub with_clauses : Store → Clauses → Store
with_clauses s cs = with_made s (length s.scopes ∷ s.scope) (with_clause_functions cs (length s.scopes ∷ s.scope) (record { heap = s.heap; cells = with_clause_names cs [] }))

-- the scope of a call: parameters, the body's names, and its functions, in the scope of the function
abbrev pub with_call : Store → List ℕ → Value → List (List ℕ) → List Value → Stmts → Store
with_call s scope receiver xs vs ss =
    record (with_made s (length s.scopes ∷ scope) (with_functions ss (length s.scopes ∷ scope) (record { heap = s.heap; cells = with_names ss (with_params xs vs []) }))) { receiver = receiver }

-- a new scope in the one round a loop, with the cells of the current one (14.7.4.4 CreatePerIterationEnvironment)
abbrev pub copy_in : Store → List ℕ → List ℕ → Store
copy_in s [] back = s
copy_in s (k ∷ ks) back = record s { scope = length s.scopes ∷ back; scopes = s.scopes ++ cells_at s.scopes k ∷ [] }

abbrev pub with_copy : Store → Bool → List ℕ → Store
with_copy s true back = copy_in s s.scope back
with_copy s false back = s

-- LEAVING
abbrev pub back_to : Store → List ℕ → Store
back_to s back = record s { scope = back }

abbrev pub back_from : Store → List ℕ → Value → Store
back_from s back receiver = record s { scope = back; receiver = receiver }
