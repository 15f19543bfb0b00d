-- The prelude's list runs first, and then both sides have begun the program's.
use Rattle.std.proofs.Common.{◌≡◌, ℕ, zero, suc, ◌+◌, ◌<◌, ◌≤◌, false, List, [], ◌∷◌, ◌++◌, length, length-append, Some, None, refl, sym, ap, ◌∙◌, subst, inl, inr, arith}
use Rattle.std.specs.Prelude.{codes, slice_get, if◌then◌else◌}
use Rattle.std.proofs.lemmas.Bool.{eq-eqb}
use Rattle.actx_match.specs.Runs.{run}
use Rattle.actx_match.specs.Pairing.{Paired}
use Rattle.actx_match.proofs.Runs.{run_on}
use Rattle.actx_match.proofs.Pairing.{get_front, paired_none, paired_more}
use Rattle.actx_data.specs.declared.event.Event.{Event}
use Rattle.actx_data.specs.declared.value.Value.TheVariants as v
use Rattle.actx_grammar.specs.declared.side.Side.TheVariants.{Source}
use Rattle.actx_grammar.specs.declared.side.Side.TheVariants as side
use Rattle.actx_grammar.specs.Tree.{Stmts}
use Rattle.actx_heap.specs.Things.{Thing, Function}
use Rattle.actx_table.specs.Low.{followed_by}
use Rattle.actx_table.specs.Machine.{step, start, no_store, first_heap}
use Rattle.actx_table.specs.Prelude.{prelude}
use Rattle.actx_table.specs.PreludeState.{get_code, run_code, no_mapping}
use Rattle.actx_table.specs.Renamed.{code_is, no_name, some_name, fun_stmt, StmtsAre, no_stmts, more_stmts}
use Rattle.actx_table.specs.Scopes.{with_names, Made, made_function, with_functions}
use Rattle.actx_table.specs.State.{Normal, Cell, Code, Closure, Native, VariableGet, VariableRun, Store}
use Rattle.actx_table.specs.Related.{World, undefined_is, thing_is, normal_is, some_is, last_scope, ChainIs, CellsAre, no_cells, own_cell, ThingIs, closure_is, get_is, run_is, no_maps, no_variables, no_shown, ForCompletion, no_frames, bottom_is, fits_any, exec_is, done_is, here, away_end, StoreIs, doing_is, Related}
use Rattle.actx_table.proofs.Same.Names.{with_cell_is}
use Rattle.actx_table.proofs.Same.Declared.{with_names_is}
use Rattle.actx_table.proofs.Same.Stores.{store_moved}
use Rattle.actx_table.proofs.Same.Ready.{functions_of, functions_has, set_cells, ready_store, declared, places_from, prelude_things, program_made, ready_state, prelude_runs}

-- WHERE THE SOURCE'S THINGS STAND: the methods of variables at those of the prelude, and the list's functions at the same places
abbrev counted : ℕ → ℕ → List ℕ
counted start zero = []
counted start (suc n) = start ∷ counted (suc start) n

counted_length : (start n : ℕ) → length (counted start n) ≡ n
counted_length start zero = refl
counted_length start (suc n) = ap suc (counted_length (suc start) n)

counted_at : (start n i : ℕ) → i < n → slice_get (counted start n) i ≡ Some (start + i)
counted_at start zero i l = absurd (omega (arith, l))
counted_at start (suc n) zero l = ap Some (omega arith)
counted_at start (suc n) (suc i) l = counted_at (suc start) n i (omega (arith, l)) ∙ ap Some (omega arith)

counted_says : (start n i k : ℕ) → slice_get (counted start n) i ≡ Some k → (k ≡ start + i) × (i < n)
counted_says start zero i k e = absurd (cc)
counted_says start (suc n) zero k e = let same : start ≡ k = cc in (omega (arith, same), omega arith)
counted_says start (suc n) (suc i) k e = let h = counted_says (suc start) n i k e in (omega (arith, h.0), omega (arith, h.1))

abbrev pub begun_world : ℕ → List ℕ → World
begun_world n scopes = record { before = n; things = (6 + n) ∷ (7 + n) ∷ counted 2 n; scopes = scopes }

data PlaceIs (n i k : ℕ) : Type 0 where
  get_place : i ≡ 0 → k ≡ 6 + n → PlaceIs n i k
  run_place : i ≡ 1 → k ≡ 7 + n → PlaceIs n i k
  function_place : (j : ℕ) → i ≡ suc (suc j) → k ≡ suc (suc j) → j < n → PlaceIs n i k

place_of : (n i k : ℕ) (scopes : List ℕ) → slice_get (begun_world n scopes).things i ≡ Some k → PlaceIs n i k
place_of n zero k scopes e = get_place refl (cc)
place_of n (suc zero) k scopes e = run_place refl (cc)
place_of n (suc (suc i)) k scopes e = let h = counted_says 2 n i k e in function_place i refl (omega (arith, h.0)) h.1

place_has : (n i : ℕ) (scopes : List ℕ) → 2 ≤ i → i < 2 + n → slice_get (begun_world n scopes).things i ≡ Some i
place_has n zero scopes l m = absurd (omega (arith, l))
place_has n (suc zero) scopes l m = absurd (omega (arith, l))
place_has n (suc (suc i)) scopes l m = counted_at 2 n i (omega (arith, m)) ∙ ap Some (omega arith)

same_index : (n i j k : ℕ) → PlaceIs n i k → PlaceIs n j k → i ≡ j
same_index n i j k (get_place a b) (get_place c d) = omega (arith, a, c)
same_index n i j k (get_place a b) (run_place c d) = absurd (omega (arith, b, d))
same_index n i j k (get_place a b) (function_place x c d l) = absurd (omega (arith, b, d, l))
same_index n i j k (run_place a b) (get_place c d) = absurd (omega (arith, b, d))
same_index n i j k (run_place a b) (run_place c d) = omega (arith, a, c)
same_index n i j k (run_place a b) (function_place x c d l) = absurd (omega (arith, b, d, l))
same_index n i j k (function_place y a b m) (get_place c d) = absurd (omega (arith, b, d, m))
same_index n i j k (function_place y a b m) (run_place c d) = absurd (omega (arith, b, d, m))
same_index n i j k (function_place y a b m) (function_place x c d l) = omega (arith, a, b, c, d)

-- THE HEAPS
data ThingsAre (w : World) : List (Thing Code) → List (Thing Code) → Type 0 where
  no_things : ThingsAre w [] []
  more_things : {a b : Thing Code} {xs ys : List (Thing Code)} → ThingIs w a b → ThingsAre w xs ys → ThingsAre w (a ∷ xs) (b ∷ ys)

module _ (w : World) where
  things_length : (xs ys : List (Thing Code)) → ThingsAre w xs ys → length xs ≡ length ys
  things_length xs ys no_things = refl
  things_length xs ys (more_things h t) = ap suc (things_length _ _ t)

  things_at : (xs ys : List (Thing Code)) (i : ℕ) → i < length ys → ThingsAre w xs ys → (a : Thing Code) × (b : Thing Code) × (slice_get xs i ≡ Some a) × (slice_get ys i ≡ Some b) × ThingIs w a b
  things_at xs ys i l no_things = absurd (omega (arith, l))
  things_at xs ys zero l (more_things {a = a} {b = b} h t) = (a, b, refl, refl, h)
  things_at xs ys (suc i) l (more_things {xs = xs'} {ys = ys'} h t) = things_at xs' ys' i (omega (arith, l)) t

  functions_are : (ss ts : Stmts) (sc tc : List ℕ) → StmtsAre ss ts → ChainIs w sc tc → ThingsAre w (functions_of ss sc) (functions_of ts tc)
  functions_are ss ts sc tc no_stmts c = no_things
  functions_are ss ts sc tc (more_stmts (fun_stmt (code_is runs no_name names body)) r) c = functions_are _ _ sc tc r c
  functions_are ss ts sc tc (more_stmts (fun_stmt (code_is runs (some_name x) names body)) r) c = more_things (closure_is runs names body c undefined_is) (functions_are _ _ sc tc r c)
  functions_are ss ts sc tc (more_stmts _ r) c = functions_are _ _ sc tc r c

  -- functions of both lists at the same places
  function_cells : (ss ts : Stmts) (sc tc : List ℕ) (m n : Made) → length m.heap ≡ length n.heap → ((i : ℕ) → length n.heap ≤ i → i < length n.heap + length (functions_of ts tc) → slice_get w.things i ≡ Some i) → StmtsAre ss ts → CellsAre w m.cells n.cells → CellsAre w (with_functions ss sc m).cells (with_functions ts tc n).cells
  function_cells ss ts sc tc m n same has no_stmts h = h
  function_cells ss ts sc tc m n same has (more_stmts (fun_stmt (code_is runs no_name names body)) r) h = function_cells _ _ sc tc m n same has r h
  function_cells ss ts sc tc m n same has (more_stmts {ss = ss'} {ts = ts'} (fun_stmt {f = f} {g = g} (code_is {kind = kind} {xs = xs} {ys = ys} {ss = body} {ts = text} runs (some_name x) names is)) r) h =
      let here : slice_get w.things (length m.heap) ≡ Some (length n.heap) = has (length m.heap) (omega (arith, same)) (omega (arith, same)) ∙ ap Some same in
      function_cells ss' ts' sc tc (made_function f sc m) (made_function g tc n)
      (omega (arith, same, length-append m.heap (Function (Closure kind xs body sc v.Undefined) ∷ []), length-append n.heap (Function (Closure kind ys text tc v.Undefined) ∷ [])))
      (λ i k l. has i (omega (arith, k, length-append n.heap (Function (Closure kind ys text tc v.Undefined) ∷ []))) (omega (arith, l, length-append n.heap (Function (Closure kind ys text tc v.Undefined) ∷ []))))
      r (with_cell_is w x false _ _ m.cells n.cells (some_is (thing_is (length m.heap) (length n.heap) here)) h)
  function_cells ss ts sc tc m n same has (more_stmts _ r) h = function_cells _ _ sc tc m n same has r h

get_behind : {A : Type 0} (xs ys : List A) (k m : ℕ) → m ≡ k + length xs → slice_get (xs ++ ys) m ≡ slice_get ys k
get_behind [] ys k m e = ap (slice_get ys) (omega (arith, e))
get_behind (x ∷ xs) ys k zero e = absurd (omega (arith, e))
get_behind (x ∷ xs) ys k (suc m) e = get_behind xs ys k m (omega (arith, e))

abbrev source_store : List ℕ → List (List Cell) → List (Thing Code) → List Event → Store
source_store scope scopes heap events = record no_store { scope = scope; scopes = scopes; heap = heap; events = events }

-- THE HEAPS OF BOTH, where the list's functions correspond
module _ (n : ℕ) (scopes : List ℕ) (xs ys : List (Thing Code)) (h : ThingsAre (begun_world n scopes) xs ys) (long : length ys ≡ n) where
  abbrev front : List (Thing Code)
  front = first_heap side.Plain ++ ys

  front_is : length front ≡ 2 + n
  front_is = omega (arith, long, length-append (first_heap side.Plain) ys)

  -- one of the prelude's things
  thing_behind : (k m : ℕ) → m ≡ k + (2 + n) → slice_get (front ++ prelude_things) m ≡ slice_get prelude_things k
  thing_behind k m e = get_behind front prelude_things k m (omega (arith, e, front_is))

  heaps_are : Paired (ThingIs (begun_world n scopes)) (begun_world n scopes).things (first_heap Source ++ xs) (front ++ prelude_things)
  heaps_are =
      let w = begun_world n scopes in
      record {
        long = omega (arith, long, counted_length 2 n, things_length w xs ys h, length-append (first_heap Source) xs);
        apart = λ i j k e f. same_index n i j k (place_of n i k scopes e) (place_of n j k scopes f);
        pair = λ i k e. pair_of i k (place_of n i k scopes e);
      }
    where
      pair_of : (i k : ℕ) → PlaceIs n i k → (a : Thing Code) × (b : Thing Code) × (slice_get (first_heap Source ++ xs) i ≡ Some a) × (slice_get (front ++ prelude_things) k ≡ Some b) × ThingIs (begun_world n scopes) a b
      pair_of i k (get_place a b) = (Function (Native VariableGet), Function get_code, ap (slice_get (first_heap Source ++ xs)) a, thing_behind 4 k (omega (arith, b)), get_is)
      pair_of i k (run_place a b) = (Function (Native VariableRun), Function run_code, ap (slice_get (first_heap Source ++ xs)) a, thing_behind 5 k (omega (arith, b)), run_is)
      pair_of i k (function_place j a b l) =
          let p = things_at (begun_world n scopes) xs ys j (omega (arith, l, long)) h in
          (p.0, p.1, ap (slice_get (first_heap Source ++ xs)) a ∙ p.2, get_front front prelude_things k p.1 (ap (slice_get front) b ∙ p.3), p.4)

  -- THE STORES
  stores_are : (scope : List ℕ) (cells : List (List Cell)) (own : List Cell) (events : List Event) (heap : List (Thing Code)) → heap ≡ first_heap Source ++ xs → Paired (CellsAre (begun_world n scopes)) scopes cells ((set_cells (places_from n) ++ own) ∷ []) → StoreIs (begun_world n scopes) (source_store scope cells heap events) (ready_store (places_from n) (front ++ prelude_things) own events)
  stores_are scope cells own events heap has s =
      let w = begun_world n scopes in
      record {
        scopes = s;
        heap = subst (λ things. Paired (ThingIs w) w.things things (front ++ prelude_things)) (sym has) heaps_are;
        shown = no_shown;
        events = refl;
        quiet = record { source_callbacks = refl; target_callbacks = refl; source_jobs = refl; target_jobs = refl };
        top = record { cells = set_cells (places_from n) ++ own; has = refl; base = record { states = refl; now = refl; find = refl; with = refl; get = refl; run = refl; make = refl; variable = refl } };
        prelude = record {
          weak_get_at = refl;
          weak_set_at = refl;
          states_at = thing_behind 0 (2 + n) (omega arith);
          find_at = thing_behind 2 (4 + n) (omega arith);
          with_at = thing_behind 3 (5 + n) (omega arith);
          make_at = thing_behind 6 (8 + n) (omega arith);
          variable_at = thing_behind 7 (9 + n) (omega arith);
        };
        agent = record {
          entries = [];
          entries_at = ap (λ b. if b then Some [] else None) (eq-eqb (2 + n) (2 + n) refl);
          variables_are = no_variables;
          current = v.Undefined;
          now_at = thing_behind 1 (3 + n) (omega arith);
          now_own = λ i e. now_place i (place_of n i (3 + n) scopes e);
          places = [];
          maps_are = no_maps;
          mapping_is = no_mapping;
        };
        get_method = thing_is 0 (6 + n) refl;
        run_method = thing_is 1 (7 + n) refl;
      }
    where
      now_place : (i : ℕ) → PlaceIs n i (3 + n) → ⊥
      now_place i (get_place a b) = omega (arith, b)
      now_place i (run_place a b) = omega (arith, b)
      now_place i (function_place j a b l) = omega (arith, b, l)

own_cells : (w : World) (cs ds : List Cell) → CellsAre w cs ds → CellsAre w cs (set_cells (places_from w.before) ++ ds)
own_cells w cs ds h =
    own_cell _ (record { more = codes "states"; begins = refl; calls = inl refl })
    (own_cell _ (record { more = codes "now"; begins = refl; calls = inl refl })
    (own_cell _ (record { more = codes "find"; begins = refl; calls = inl refl })
    (own_cell _ (record { more = codes "with"; begins = refl; calls = inl refl })
    (own_cell _ (record { more = codes "get"; begins = refl; calls = inl refl })
    (own_cell _ (record { more = codes "run"; begins = refl; calls = inl refl })
    (own_cell _ (record { more = codes "make"; begins = refl; calls = inl refl })
    (own_cell _ (record { more = codes "variable"; begins = refl; calls = inr refl }) h)))))))

-- BOTH HAVE BEGUN the program's list
pub begun : (p q : Stmts) (events : List Event) → StmtsAre p q → Related (step Source (start Source p events)) (step side.Plain (ready_state q events))
begun p q events no_stmts =
    let w = begun_world 0 [] in
    let st = stores_are 0 [] [] [] no_things refl [] [] [] events (first_heap Source) refl (paired_none (CellsAre w) ((set_cells (places_from 0) ++ []) ∷ [])) in
    record { now = doing_is w (done_is ForCompletion (fits_any Normal) normal_is no_frames) (away_end [] v.Undefined [] v.Undefined) (store_moved w _ _ st [] [] v.Undefined v.Undefined); trace = refl }
begun p q events (more_stmts x m) =
    let n = declared q in
    let w = begun_world n (0 ∷ []) in
    let all = more_stmts x m in
    let chain : ChainIs w (0 ∷ []) (0 ∷ []) = last_scope 0 refl in
    let first : Made = record { heap = first_heap Source; cells = with_names p [] } in
    let second : Made = record { heap = first_heap side.Plain; cells = with_names q [] } in
    let made = with_functions p (0 ∷ []) first in
    let own = (program_made q).cells in
    let cells : CellsAre w made.cells own = function_cells w p q (0 ∷ []) (0 ∷ []) first second refl (λ i k l. place_has n i (0 ∷ []) k l) all (with_names_is w p q [] [] all no_cells) in
    let both : CellsAre w made.cells (set_cells (places_from n) ++ own) = own_cells w made.cells own cells in
    let st = stores_are n (0 ∷ []) (functions_of p (0 ∷ [])) (functions_of q (0 ∷ [])) (functions_are w p q (0 ∷ []) (0 ∷ []) all chain) refl (0 ∷ []) (made.cells ∷ []) own events made.heap (functions_has p (0 ∷ []) first) (paired_more (CellsAre w) [] [] [] made.cells (set_cells (places_from n) ++ own) both (paired_none (CellsAre w) [])) in
    record { now = doing_is w (exec_is x (bottom_is m)) (here chain undefined_is) st; trace = refl }

-- so many steps of the target come before
abbrev pub prelude_steps : ℕ
prelude_steps = 41

pub prelude_leads : (p q : Stmts) (events : List Event) → StmtsAre p q → run (step side.Plain) prelude_steps (start side.Plain (followed_by prelude q) events) ≡ step side.Plain (ready_state q events)
prelude_leads p q events m = run_on (step side.Plain) 40 1 (start side.Plain (followed_by prelude q) events) (ready_state q events) (step side.Plain (ready_state q events)) (prelude_runs p q events m) refl
