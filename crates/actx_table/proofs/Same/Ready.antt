-- The emitted program's run begins with the prelude's list, which leaves its things behind the functions of the program's list.
use Rattle.std.proofs.Common.{◌≡◌, ℕ, ◌+◌, Bool, true, false, List, [], ◌∷◌, ◌++◌, length, length-append, append_assoc, Option, Some, None, refl, sym, ap, ◌∙◌, arith}
use Rattle.std.specs.Prelude.{slice_get}
use Rattle.actx_match.specs.Runs.{run}
use Rattle.actx_match.proofs.Pairing.{append_nil}
use Rattle.actx_data.specs.declared.event.Event.{Event}
use Rattle.actx_data.specs.declared.value.Value.{Value}
use Rattle.actx_data.specs.declared.value.Value.TheVariants as v
use Rattle.actx_grammar.specs.declared.side.Side.TheVariants as side
use Rattle.actx_grammar.specs.Tree as t
use Rattle.actx_grammar.specs.Tree.{LetItems, ConstItems, Stmt, Stmts}
use Rattle.actx_heap.specs.Texts.{same_text}
use Rattle.actx_heap.specs.Things.{Thing, Listed, Function}
use Rattle.actx_table.specs.Agent.{weak_props}
use Rattle.actx_table.specs.Low.{p_, followed_by}
use Rattle.actx_table.specs.Machine.{at, step, start, no_store, first_heap}
use Rattle.actx_table.specs.Prelude.{name_states, name_now, name_find, name_with, name_get, name_run, name_make, name_variable, prelude}
use Rattle.actx_table.specs.PreludeState.{now_record, find_code, with_code, get_code, run_code, make_code, variable_code}
use Rattle.actx_table.specs.Renamed.{code_is, CodeIs, no_name, some_name, LetsAre, no_lets_are, more_lets, ConstsAre, no_consts_are, more_consts, let_stmt, const_stmt, fun_stmt, StmtsAre, no_stmts, more_stmts}
use Rattle.actx_table.specs.Scopes.{option_or, unset, fixed_cell, with_cell, with_lets, with_consts, with_names, Made, made_function, with_functions}
use Rattle.actx_table.specs.State.{Normal, Cell, Code, Closure, Exec, Done, ListFrame, Store, State}
use Rattle.actx_table.proofs.PreludeLaws.Drive.{drive, drive_is}
use Rattle.actx_table.proofs.Same.Names.{if_false}

-- A LIST'S FUNCTIONS, which stand behind what was in the heap
abbrev function_of : t.Code → List ℕ → List (Thing Code)
function_of (t.code (Some x) kind xs ss) scope = Function (Closure kind xs ss scope v.Undefined) ∷ []
function_of (t.code None kind xs ss) scope = []

abbrev pub functions_of : Stmts → List ℕ → List (Thing Code)
functions_of t.end scope = []
functions_of (t.next (t.Fun f) ss) scope = function_of f scope ++ functions_of ss scope
functions_of (t.next _ ss) scope = functions_of ss scope

made_has : (f : t.Code) (scope : List ℕ) (m : Made) → (made_function f scope m).heap ≡ m.heap ++ function_of f scope
made_has (t.code (Some x) kind xs ss) scope m = refl
made_has (t.code None kind xs ss) scope m = sym (append_nil m.heap)

pub functions_has : (ss : Stmts) (scope : List ℕ) (m : Made) → (with_functions ss scope m).heap ≡ m.heap ++ functions_of ss scope
functions_has t.end scope m = sym (append_nil m.heap)
functions_has (t.next (t.Fun f) ss) scope m =
    functions_has ss scope (made_function f scope m) ∙ (ap (λ heap. heap ++ functions_of ss scope) (made_has f scope m) ∙ append_assoc m.heap (function_of f scope) (functions_of ss scope))
functions_has (t.next _ ss) scope m = functions_has ss scope m

-- THE PROGRAM'S OWN SCOPE: the program's names stand behind the prelude's
data AreOwn : List Cell → Type 0 where
  none_own : AreOwn []
  more_own : (d : Cell) {ds : List Cell} → ((x : List ℕ) → same_text (p_ x) d.name ≡ false) → AreOwn ds → AreOwn (d ∷ ds)

abbrev behind : List Cell → Made → Made
behind ds m = record { heap = m.heap; cells = ds ++ m.cells }

cell_behind : (x : List ℕ) (value : Option Value) (constant : Bool) (ds cs : List Cell) → AreOwn ds → (let c : Cell = record { name = p_ x; value = value; constant = constant } in with_cell c (ds ++ cs) ≡ ds ++ with_cell c cs)
cell_behind x value constant ds cs none_own = refl
cell_behind x value constant ds cs (more_own d {ds = ds'} other own) =
    let c : Cell = record { name = p_ x; value = value; constant = constant } in
    if_false (same_text (p_ x) d.name) (record { name = d.name; value = value; constant = constant } ∷ (ds' ++ cs)) (d ∷ with_cell c (ds' ++ cs)) (other x) ∙ ap (λ es. d ∷ es) (cell_behind x value constant ds' cs own)

module _ (ds : List Cell) (own : AreOwn ds) where
  lets_behind : (is js : LetItems) (cs : List Cell) → LetsAre is js → with_lets js (ds ++ cs) ≡ ds ++ with_lets js cs
  lets_behind is js cs no_lets_are = refl
  lets_behind is js cs (more_lets x {js = js'} e m) = ap (with_lets js') (cell_behind x None false ds cs own) ∙ lets_behind _ js' (with_cell (unset (p_ x) false) cs) m

  consts_behind : (is js : ConstItems) (cs : List Cell) → ConstsAre is js → with_consts js (ds ++ cs) ≡ ds ++ with_consts js cs
  consts_behind is js cs no_consts_are = refl
  consts_behind is js cs (more_consts x {js = js'} e m) = ap (with_consts js') (cell_behind x None true ds cs own) ∙ consts_behind _ js' (with_cell (unset (p_ x) true) cs) m

  names_behind : (ss ts : Stmts) (cs : List Cell) → StmtsAre ss ts → with_names ts (ds ++ cs) ≡ ds ++ with_names ts cs
  names_behind ss ts cs no_stmts = refl
  names_behind ss ts cs (more_stmts {ts = ts'} (let_stmt {js = js} is) m) = ap (with_names ts') (lets_behind _ js cs is) ∙ names_behind _ ts' (with_lets js cs) m
  names_behind ss ts cs (more_stmts {ts = ts'} (const_stmt {js = js} is) m) = ap (with_names ts') (consts_behind _ js cs is) ∙ names_behind _ ts' (with_consts js cs) m
  names_behind ss ts cs (more_stmts _ m) = names_behind _ _ cs m

  made_behind : (f g : t.Code) (scope : List ℕ) (m : Made) → CodeIs f g → made_function g scope (behind ds m) ≡ behind ds (made_function g scope m)
  made_behind f g scope m (code_is runs no_name names body) = refl
  made_behind f g scope m (code_is {kind = kind} {ys = ys} {ts = ts} runs (some_name x) names body) =
      ap (λ (cells : List Cell). record { heap = m.heap ++ Function (Closure kind ys ts scope v.Undefined) ∷ []; cells = cells }) (cell_behind x (Some (v.Thing (length m.heap))) false ds m.cells own)

  functions_behind : (ss ts : Stmts) (scope : List ℕ) (m : Made) → StmtsAre ss ts → with_functions ts scope (behind ds m) ≡ behind ds (with_functions ts scope m)
  functions_behind ss ts scope m no_stmts = refl
  functions_behind ss ts scope m (more_stmts {ts = ts'} (fun_stmt {g = g} c) r) = ap (with_functions ts' scope) (made_behind _ g scope m c) ∙ functions_behind _ ts' scope (made_function g scope m) r
  functions_behind ss ts scope m (more_stmts _ r) = functions_behind _ _ scope m r

-- the prelude's constants before they have their values, and then
abbrev unset_cells : List Cell
unset_cells = unset name_states true ∷ unset name_now true ∷ unset name_find true ∷ unset name_with true ∷ unset name_get true ∷ unset name_run true ∷ unset name_make true ∷ unset name_variable true ∷ []

-- a place of a list, or 0
abbrev nth : List ℕ → ℕ → ℕ
nth ks i = option_or (slice_get ks i) 0

abbrev cell_at : List ℕ → List ℕ → ℕ → Cell
cell_at x ks i = fixed_cell x (v.Thing (nth ks i))

abbrev pub set_cells : List ℕ → List Cell
set_cells ks = cell_at name_states ks 0 ∷ cell_at name_now ks 1 ∷ cell_at name_find ks 2 ∷ cell_at name_with ks 3 ∷ cell_at name_get ks 4 ∷ cell_at name_run ks 5 ∷ cell_at name_make ks 6 ∷ cell_at name_variable ks 7 ∷ []

abbrev target_store : List (Thing Code) → List Cell → List Event → Store
target_store heap cells events = record no_store { scope = 0 ∷ []; scopes = cells ∷ []; heap = heap; events = events }

-- the prelude's things stand at these places
abbrev pub ready_store : List ℕ → List (Thing Code) → List Cell → List Event → Store
ready_store ks heap cells events = record no_store { scope = 0 ∷ []; scopes = (set_cells ks ++ cells) ∷ []; heap = heap; events = events; weak = record { place = nth ks 0; entries = [] } ∷ [] }

-- the heap with so many of them
abbrev heap_1 : List (Thing Code) → List (Thing Code)
heap_1 heap = heap ++ Listed weak_props ∷ []

abbrev heap_2 : List (Thing Code) → List (Thing Code)
heap_2 heap = heap_1 heap ++ now_record v.Undefined 0 ∷ []

abbrev heap_3 : List (Thing Code) → List (Thing Code)
heap_3 heap = heap_2 heap ++ Function find_code ∷ []

abbrev heap_4 : List (Thing Code) → List (Thing Code)
heap_4 heap = heap_3 heap ++ Function with_code ∷ []

abbrev heap_5 : List (Thing Code) → List (Thing Code)
heap_5 heap = heap_4 heap ++ Function get_code ∷ []

abbrev heap_6 : List (Thing Code) → List (Thing Code)
heap_6 heap = heap_5 heap ++ Function run_code ∷ []

abbrev heap_7 : List (Thing Code) → List (Thing Code)
heap_7 heap = heap_6 heap ++ Function make_code ∷ []

abbrev heap_8 : List (Thing Code) → List (Thing Code)
heap_8 heap = heap_7 heap ++ Function variable_code ∷ []

abbrev places_in : List (Thing Code) → List ℕ
places_in heap = length heap ∷ length (heap_1 heap) ∷ length (heap_2 heap) ∷ length (heap_3 heap) ∷ length (heap_4 heap) ∷ length (heap_5 heap) ∷ length (heap_6 heap) ∷ length (heap_7 heap) ∷ []

abbrev first_of : Stmts → Stmt
first_of (t.next st ss) = st
first_of t.end = t.Empty

abbrev rest_of : Stmts → Stmts
rest_of (t.next st ss) = ss
rest_of t.end = t.end

prelude_drives : (q : Stmts) (heap : List (Thing Code)) (cells : List Cell) (events : List Event) → drive 39 (Exec (first_of prelude)) (ListFrame (followed_by (rest_of prelude) q) [] ∷ []) (target_store heap (unset_cells ++ cells) events) [] ≡ at (Done Normal) (ListFrame q [] ∷ []) (ready_store (places_in heap) (heap_8 heap) cells events) []
prelude_drives q heap cells events = refl

-- THE TARGET'S RUN: how many functions the program's list declares, and the places of the prelude's things behind them
abbrev pub declared : Stmts → ℕ
declared q = length (functions_of q (0 ∷ []))

abbrev pub places_from : ℕ → List ℕ
places_from n = (2 + n) ∷ (3 + n) ∷ (4 + n) ∷ (5 + n) ∷ (6 + n) ∷ (7 + n) ∷ (8 + n) ∷ (9 + n) ∷ []

abbrev pub prelude_things : List (Thing Code)
prelude_things = Listed weak_props ∷ now_record v.Undefined 0 ∷ Function find_code ∷ Function with_code ∷ Function get_code ∷ Function run_code ∷ Function make_code ∷ Function variable_code ∷ []

all_things : (heap : List (Thing Code)) → heap_8 heap ≡ heap ++ prelude_things
all_things [] = refl
all_things (x ∷ heap) = ap (λ things. x ∷ things) (all_things heap)

cons_same : {k j : ℕ} {ks js : List ℕ} → k ≡ j → ks ≡ js → k ∷ ks ≡ j ∷ js
cons_same {j = j} {ks = ks} e h = ap (λ i. i ∷ ks) e ∙ ap (λ is. j ∷ is) h

places_are : (n : ℕ) (heap : List (Thing Code)) → length heap ≡ 2 + n → places_in heap ≡ places_from n
places_are n heap e0 =
    let e1 : length (heap_1 heap) ≡ 3 + n = omega (arith, e0, length-append heap (Listed weak_props ∷ [])) in
    let e2 : length (heap_2 heap) ≡ 4 + n = omega (arith, e1, length-append (heap_1 heap) (now_record v.Undefined 0 ∷ [])) in
    let e3 : length (heap_3 heap) ≡ 5 + n = omega (arith, e2, length-append (heap_2 heap) (Function find_code ∷ [])) in
    let e4 : length (heap_4 heap) ≡ 6 + n = omega (arith, e3, length-append (heap_3 heap) (Function with_code ∷ [])) in
    let e5 : length (heap_5 heap) ≡ 7 + n = omega (arith, e4, length-append (heap_4 heap) (Function get_code ∷ [])) in
    let e6 : length (heap_6 heap) ≡ 8 + n = omega (arith, e5, length-append (heap_5 heap) (Function run_code ∷ [])) in
    let e7 : length (heap_7 heap) ≡ 9 + n = omega (arith, e6, length-append (heap_6 heap) (Function make_code ∷ [])) in
    cons_same e0 (cons_same e1 (cons_same e2 (cons_same e3 (cons_same e4 (cons_same e5 (cons_same e6 (cons_same e7 refl)))))))

-- the heap and the cells of the program's list, and the heap with the prelude's things
abbrev pub program_made : Stmts → Made
program_made q = with_functions q (0 ∷ []) (record { heap = first_heap side.Plain; cells = with_names q [] })

abbrev front_heap : Stmts → List (Thing Code)
front_heap q = first_heap side.Plain ++ functions_of q (0 ∷ [])

abbrev ready_heap : Stmts → List (Thing Code)
ready_heap q = front_heap q ++ prelude_things

-- the state where the prelude has run
abbrev pub ready_state : Stmts → List Event → State
ready_state q events = at (Done Normal) (ListFrame q [] ∷ []) (ready_store (places_from (declared q)) (ready_heap q) (program_made q).cells events) []

abbrev begun_state : Stmts → Made → List Event → State
begun_state q m events = at (Exec (first_of prelude)) (ListFrame (followed_by (rest_of prelude) q) [] ∷ []) (target_store m.heap m.cells events) []

unset_own : AreOwn unset_cells
unset_own =
    more_own (unset name_states true) (λ x. refl) (more_own (unset name_now true) (λ x. refl) (more_own (unset name_find true) (λ x. refl) (more_own (unset name_with true) (λ x. refl)
    (more_own (unset name_get true) (λ x. refl) (more_own (unset name_run true) (λ x. refl) (more_own (unset name_make true) (λ x. refl) (more_own (unset name_variable true) (λ x. refl) none_own)))))))

all_behind : (p q : Stmts) → StmtsAre p q → with_functions q (0 ∷ []) (record { heap = first_heap side.Plain; cells = with_names q unset_cells }) ≡ behind unset_cells (program_made q)
all_behind p q m =
    ap (λ (cells : List Cell). with_functions q (0 ∷ []) (record { heap = first_heap side.Plain; cells = cells })) (names_behind unset_cells unset_own p q [] m)
    ∙ functions_behind unset_cells unset_own p q (0 ∷ []) (record { heap = first_heap side.Plain; cells = with_names q [] }) m

front_long : (q : Stmts) → length (front_heap q) ≡ 2 + declared q
front_long q = omega (arith, length-append (first_heap side.Plain) (functions_of q (0 ∷ [])))

pub prelude_runs : (p q : Stmts) (events : List Event) → StmtsAre p q → run (step side.Plain) 40 (start side.Plain (followed_by prelude q) events) ≡ ready_state q events
prelude_runs p q events m =
    let made = program_made q in
    let has : made.heap ≡ front_heap q = functions_has q (0 ∷ []) (record { heap = first_heap side.Plain; cells = with_names q [] }) in
    ap (λ made. run (step side.Plain) 39 (begun_state q made events)) (all_behind p q m)
    ∙ (sym (drive_is 39 (Exec (first_of prelude)) (ListFrame (followed_by (rest_of prelude) q) [] ∷ []) (target_store made.heap (unset_cells ++ made.cells) events) [])
    ∙ (prelude_drives q made.heap made.cells events
    ∙ (ap (λ heap. at (Done Normal) (ListFrame q [] ∷ []) (ready_store (places_in heap) (heap_8 heap) made.cells events) []) has
    ∙ (ap (λ heap. at (Done Normal) (ListFrame q [] ∷ []) (ready_store (places_in (front_heap q)) heap made.cells events) []) (all_things (front_heap q))
    ∙ ap (λ ks. at (Done Normal) (ListFrame q [] ∷ []) (ready_store ks (ready_heap q) made.cells events) []) (places_are (declared q) (front_heap q) (front_long q))))))
