-- The prelude's list runs first, and then both sides have begun the program's.
use Rattle.std.proofs.Common.{◌≡◌, ℕ, zero, suc, Bool, true, false, List, [], ◌∷◌, ◌++◌, Some, refl, sym, ap, ◌∙◌, inl, inr}
use Rattle.std.specs.Prelude.{codes, slice_get, if◌then◌else◌}
use Rattle.actx_match.specs.Runs.{run}
use Rattle.actx_match.specs.Pairing.{Paired}
use Rattle.actx_match.proofs.Runs.{run_on}
use Rattle.actx_match.proofs.Pairing.{paired_none, paired_more, paired_extra}
use Rattle.actx_data.specs.declared.event.Event.{Event}
use Rattle.actx_data.specs.declared.trace.TraceEvent.{TraceEvent}
use Rattle.actx_data.specs.declared.value.Value.TheVariants as v
use Rattle.actx_grammar.specs.declared.side.Side.TheVariants.{Source}
use Rattle.actx_grammar.specs.declared.side.Side.TheVariants as side
use Rattle.actx_rules.specs.Texts.{same_text}
use Rattle.actx_grammar.specs.Tree as t
use Rattle.actx_grammar.specs.Tree.{ConstItems, Stmt, Stmts}
use Rattle.actx_rules.specs.Low.{p_, followed_by}
use Rattle.actx_rules.specs.Prelude.{name_states, name_now, name_find, name_with, name_get, name_run, name_make, name_variable, prelude}
use Rattle.actx_rules.specs.State.{Normal, Cell, Prop, VariableGet, VariableRun, WeakMapGet, WeakMapSet, Thing, Plain, Native, Weak, Task, Exec, Done, Frame, ListFrame, Store, State, Move, Goes, Writes, Stops, with_cell, unset, with_items, with_names}
use Rattle.actx_rules.specs.Machine.{row, at, takes, step, start, stopped, no_store, first_heap}
use Rattle.actx_rules.specs.Related.{World, ItemsAre, no_items_are, more_items, const_stmt, value_stmt, return_stmt, return_nothing_stmt, StmtsAre, no_stmts, more_stmts, undefined_is, thing_is, normal_is, last_scope, CellsAre, no_cells, own_cell, ThingIs, get_is, run_is, no_mapping, no_variables, no_shown, now_record, find_thing, with_thing_of, get_thing_of, run_thing_of, make_thing_of, variable_thing_of, ForCompletion, no_frames, bottom_is, fits_any, exec_is, done_is, here, away_end, StoreIs, doing_is, Related}
use Rattle.actx_rules.proofs.Same.Names.{with_names_is}
use Rattle.actx_rules.proofs.Same.Stores.{store_moved}

-- A ROW AT A TIME
abbrev after_move : Move → (Task → List Frame → Store → List TraceEvent → State) → List TraceEvent → State
after_move (Goes a fs s) k tr = k a fs s tr
after_move (Writes e a fs s) k tr = k a fs s (tr ++ e ∷ [])
after_move (Stops e) k tr = stopped e tr

abbrev drive : ℕ → Task → List Frame → Store → List TraceEvent → State
drive zero a fs s tr = at a fs s tr
drive (suc n) a fs s tr = after_move (row side.Plain a fs s) (drive n) tr

over_same : (n : ℕ) (e : _) (tr : List TraceEvent) → stopped e tr ≡ run (step side.Plain) n (stopped e tr)
over_same zero e tr = refl
over_same (suc n) e tr = over_same n e tr

move_is : (n : ℕ) (m : Move) (tr : List TraceEvent) → ((a : Task) (fs : List Frame) (s : Store) (ur : List TraceEvent) → drive n a fs s ur ≡ run (step side.Plain) n (at a fs s ur)) → after_move m (drive n) tr ≡ run (step side.Plain) n (takes m tr)
move_is n (Goes a fs s) tr h = h a fs s tr
move_is n (Writes e a fs s) tr h = h a fs s (tr ++ e ∷ [])
move_is n (Stops e) tr h = over_same n e tr

drive_is : (n : ℕ) (a : Task) (fs : List Frame) (s : Store) (tr : List TraceEvent) → drive n a fs s tr ≡ run (step side.Plain) n (at a fs s tr)
drive_is zero a fs s tr = refl
drive_is (suc n) a fs s tr = move_is n (row side.Plain a fs s) tr (drive_is n)

-- THE PROGRAM'S OWN SCOPE: the program's names stand behind the prelude's
module _ (d : Cell) (other : (x : List ℕ) → same_text (p_ x) d.name ≡ false) where
  cell_behind : (x : List ℕ) (cs : List Cell) → with_cell (unset (p_ x)) (d ∷ cs) ≡ d ∷ with_cell (unset (p_ x)) cs
  cell_behind x cs = ap (λ b. if b then record { name = d.name; value = (unset (p_ x)).value; constant = true } ∷ cs else d ∷ with_cell (unset (p_ x)) cs) (other x)

  items_behind : (is js : ConstItems) (cs : List Cell) → ItemsAre is js → with_items js (d ∷ cs) ≡ d ∷ with_items js cs
  items_behind is js cs no_items_are = refl
  items_behind is js cs (more_items x {js = js'} e m) = ap (with_items js') (cell_behind x cs) ∙ items_behind _ js' (with_cell (unset (p_ x)) cs) m

  names_behind : (ss ts : Stmts) (cs : List Cell) → StmtsAre ss ts → with_names ts (d ∷ cs) ≡ d ∷ with_names ts cs
  names_behind ss ts cs no_stmts = refl
  names_behind ss ts cs (more_stmts {ts = ts'} (const_stmt {js = js} is) m) = ap (with_names ts') (items_behind _ js cs is) ∙ names_behind _ ts' (with_items js cs) m
  names_behind ss ts cs (more_stmts (value_stmt e) m) = names_behind _ _ cs m
  names_behind ss ts cs (more_stmts (return_stmt e) m) = names_behind _ _ cs m
  names_behind ss ts cs (more_stmts return_nothing_stmt m) = names_behind _ _ cs m

-- the prelude's constants before they have their values, and then
abbrev unset_before : List Cell → List Cell
unset_before cs = unset name_states ∷ unset name_now ∷ unset name_find ∷ unset name_with ∷ unset name_get ∷ unset name_run ∷ unset name_make ∷ unset name_variable ∷ cs

abbrev constant : List ℕ → ℕ → Cell
constant x k = record { name = x; value = Some (v.Thing k); constant = true }

abbrev set_before : List Cell → List Cell
set_before cs = constant name_states 2 ∷ constant name_now 3 ∷ constant name_find 4 ∷ constant name_with 5 ∷ constant name_get 6 ∷ constant name_run 7 ∷ constant name_make 8 ∷ constant name_variable 9 ∷ cs

all_behind : (p q : Stmts) → StmtsAre p q → with_names q (unset_before []) ≡ unset_before (with_names q [])
all_behind p q m =
    names_behind (unset name_states) (λ x. refl) p q _ m
    ∙ (ap (λ cs. unset name_states ∷ cs) (names_behind (unset name_now) (λ x. refl) p q _ m
    ∙ (ap (λ cs. unset name_now ∷ cs) (names_behind (unset name_find) (λ x. refl) p q _ m
    ∙ (ap (λ cs. unset name_find ∷ cs) (names_behind (unset name_with) (λ x. refl) p q _ m
    ∙ (ap (λ cs. unset name_with ∷ cs) (names_behind (unset name_get) (λ x. refl) p q _ m
    ∙ (ap (λ cs. unset name_get ∷ cs) (names_behind (unset name_run) (λ x. refl) p q _ m
    ∙ (ap (λ cs. unset name_run ∷ cs) (names_behind (unset name_make) (λ x. refl) p q _ m
    ∙ ap (λ cs. unset name_make ∷ cs) (names_behind (unset name_variable) (λ x. refl) p q [] m)))))))))))))

-- THE TARGET: about to run the prelude, and where the prelude has run
abbrev target_store : List Cell → List Event → Store
target_store cells events = record no_store { scope = 0 ∷ []; scopes = cells ∷ []; heap = first_heap side.Plain; events = events }

abbrev ready_heap : List Thing
ready_heap = Native WeakMapGet ∷ Native WeakMapSet ∷ Weak [] ∷ now_record v.Undefined 0 ∷ find_thing ∷ with_thing_of ∷ get_thing_of ∷ run_thing_of ∷ make_thing_of ∷ variable_thing_of ∷ []

abbrev ready_store : List Cell → List Event → Store
ready_store cells events = record no_store { scope = 0 ∷ []; scopes = set_before cells ∷ []; heap = ready_heap; events = events }

abbrev first_of : Stmts → Stmt
first_of (t.next st ss) = st
first_of t.end = t.Empty

abbrev rest_of : Stmts → Stmts
rest_of (t.next st ss) = ss
rest_of t.end = t.end

prelude_drives : (q : Stmts) (cells : List Cell) (events : List Event) → drive 39 (Exec (first_of prelude)) (ListFrame (followed_by (rest_of prelude) q) [] ∷ []) (target_store (unset_before cells) events) [] ≡ at (Done Normal) (ListFrame q [] ∷ []) (ready_store cells events) []
prelude_drives q cells events = refl

-- the state where the prelude has run
abbrev pub ready_state : Stmts → List Event → State
ready_state q events = at (Done Normal) (ListFrame q [] ∷ []) (ready_store (with_names q []) events) []

abbrev begun_state : List Cell → Stmts → List Event → State
begun_state cells q events = at (Exec (first_of prelude)) (ListFrame (followed_by (rest_of prelude) q) [] ∷ []) (target_store cells events) []

pub prelude_runs : (p q : Stmts) (events : List Event) → StmtsAre p q → run (step side.Plain) 40 (start side.Plain (followed_by prelude q) events) ≡ ready_state q events
prelude_runs p q events m =
    ap (λ cells. run (step side.Plain) 39 (begun_state cells q events)) (all_behind p q m)
    ∙ (sym (drive_is 39 (Exec (first_of prelude)) (ListFrame (followed_by (rest_of prelude) q) [] ∷ []) (target_store (unset_before (with_names q [])) events) []) ∙ prelude_drives q (with_names q []) events)

-- THE STORES
abbrev source_store : List ℕ → List (List Cell) → List Event → Store
source_store scope scopes events = record no_store { scope = scope; scopes = scopes; heap = first_heap Source; events = events }

own_cells : (w : World) (cs ds : List Cell) → CellsAre w cs ds → CellsAre w cs (set_before ds)
own_cells w cs ds h =
    own_cell _ (record { more = codes "states"; begins = refl; calls = inl refl })
    (own_cell _ (record { more = codes "now"; begins = refl; calls = inl refl })
    (own_cell _ (record { more = codes "find"; begins = refl; calls = inl refl })
    (own_cell _ (record { more = codes "with"; begins = refl; calls = inl refl })
    (own_cell _ (record { more = codes "get"; begins = refl; calls = inl refl })
    (own_cell _ (record { more = codes "run"; begins = refl; calls = inl refl })
    (own_cell _ (record { more = codes "make"; begins = refl; calls = inl refl })
    (own_cell _ (record { more = codes "variable"; begins = refl; calls = inr refl }) h)))))))

-- the methods of variables stand at 6 and 7
abbrev first_world : List ℕ → World
first_world scopes = record { things = 6 ∷ 7 ∷ []; scopes = scopes; values = true ∷ true ∷ [] }

heaps_are : (w : World) → Paired (ThingIs w) (6 ∷ 7 ∷ []) (first_heap Source) ready_heap
heaps_are w =
    let before : List Thing = Native WeakMapGet ∷ Native WeakMapSet ∷ Weak [] ∷ now_record v.Undefined 0 ∷ find_thing ∷ with_thing_of ∷ [] in
    paired_extra (ThingIs w) (6 ∷ 7 ∷ []) (first_heap Source) (before ++ get_thing_of ∷ run_thing_of ∷ []) (make_thing_of ∷ variable_thing_of ∷ [])
    (paired_more (ThingIs w) (6 ∷ []) (Native VariableGet ∷ []) (before ++ get_thing_of ∷ []) (Native VariableRun) run_thing_of run_is
    (paired_more (ThingIs w) [] [] before (Native VariableGet) get_thing_of get_is (paired_none (ThingIs w) before)))

apart_from : (n : ℕ) → (Some 6 ≡ Some n → ⊥) → (Some 7 ≡ Some n → ⊥) → (i : ℕ) → slice_get {X = ℕ} (6 ∷ 7 ∷ []) i ≡ Some n → ⊥
apart_from n six seven zero e = six e
apart_from n six seven (suc zero) e = seven e
apart_from n six seven (suc (suc i)) e = absurd (cc)

no_options : (k : ℕ) (ps : List Prop) → slice_get (first_heap Source) k ≡ Some (Plain ps) → slice_get {X = Bool} (true ∷ true ∷ []) k ≡ Some true → ⊥
no_options zero ps e f = absurd (cc)
no_options (suc zero) ps e f = absurd (cc)
no_options (suc (suc k)) ps e f = absurd (cc)

stores_are : (places : List ℕ) (scope : List ℕ) (scopes : List (List Cell)) (cells : List Cell) (events : List Event) → Paired (CellsAre (first_world places)) places scopes (set_before cells ∷ []) → StoreIs (first_world places) (source_store scope scopes events) (ready_store cells events)
stores_are places scope scopes cells events h =
    let w = first_world places in
    record {
      scopes = h;
      heap = heaps_are w;
      shown = no_shown;
      events = refl;
      long = refl;
      options = no_options;
      top = record { cells = set_before cells; has = refl; base = record { states = refl; now = refl; find = refl; with = refl; get = refl; run = refl; make = refl; variable = refl } };
      prelude = record { weak_get_at = refl; weak_set_at = refl; find_at = refl; with_at = refl; make_at = refl; variable_at = refl };
      agent = record { entries = []; states_at = refl; states_own = apart_from 2 (λ e. absurd (cc)) (λ e. absurd (cc)); variables_are = no_variables; current = v.Undefined; now_at = refl; now_own = apart_from 3 (λ e. absurd (cc)) (λ e. absurd (cc)); mapping_is = no_mapping };
      get_method = thing_is 0 6 refl refl;
      run_method = thing_is 1 7 refl refl;
    }

-- BOTH HAVE BEGUN the program's list
pub begun : (p q : Stmts) (events : List Event) → StmtsAre p q → Related (step Source (start Source p events)) (step side.Plain (ready_state q events))
begun p q events no_stmts =
    let w = first_world [] in
    let st = stores_are [] [] [] [] events (paired_none (CellsAre w) (set_before [] ∷ [])) in
    record { now = doing_is w (done_is ForCompletion (fits_any Normal) normal_is no_frames) (away_end [] v.Undefined [] v.Undefined) (store_moved w (source_store [] [] events) (ready_store [] events) st [] [] v.Undefined v.Undefined); trace = refl }
begun p q events (more_stmts x m) =
    let w = first_world (0 ∷ []) in
    let cells : CellsAre w (with_names p []) (set_before (with_names q [])) = own_cells w _ _ (with_names_is w p q [] [] (more_stmts x m) no_cells) in
    let st = stores_are (0 ∷ []) (0 ∷ []) (with_names p [] ∷ []) (with_names q []) events (paired_more (CellsAre w) [] [] [] (with_names p []) (set_before (with_names q [])) cells (paired_none (CellsAre w) [])) in
    record { now = doing_is w (exec_is x (bottom_is m)) (here (last_scope 0 refl) undefined_is) st; trace = refl }

-- so many steps of the target come before
abbrev pub prelude_steps : ℕ
prelude_steps = 41

pub prelude_leads : (p q : Stmts) (events : List Event) → StmtsAre p q → run (step side.Plain) prelude_steps (start side.Plain (followed_by prelude q) events) ≡ step side.Plain (ready_state q events)
prelude_leads p q events m = run_on (step side.Plain) 40 1 (start side.Plain (followed_by prelude q) events) (ready_state q events) (step side.Plain (ready_state q events)) (prelude_runs p q events m) refl
