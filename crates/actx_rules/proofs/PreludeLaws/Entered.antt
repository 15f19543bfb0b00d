-- The run of a variable is entered.
use Rattle.std.proofs.Common.{◌≡◌, ℕ, ◌+◌, List, [], ◌∷◌, ◌++◌, length, append_assoc, Some, None, refl, sym, ap, ◌∙◌, subst, arith}
use Rattle.std.specs.Prelude.{slice_get, slice_set}
use Rattle.actx_match.proofs.Runs.{run_on}
use Rattle.actx_match.proofs.Pairing.{get_front, get_last, set_last, append_nil}
use Rattle.actx_data.specs.declared.trace.TraceEvent.{TraceEvent}
use Rattle.actx_data.specs.declared.value.Value.{Value}
use Rattle.actx_data.specs.declared.value.Value.TheVariants as v
use Rattle.actx_grammar.specs.declared.side.Side.TheVariants.{Plain as plain}
use Rattle.actx_grammar.specs.Tree as t
use Rattle.actx_rules.specs.Machine.{at, takes, step, call_thing, first, rest}
use Rattle.actx_rules.specs.Prelude.{key_mapping, run_block, run_last}
use Rattle.actx_rules.specs.Properties.{entry_at}
use Rattle.actx_rules.specs.Related.{World, ValueIs, MappingIs, state_record, run_thing_of, now_record, running}
use Rattle.actx_rules.specs.State.{Cell, Thing, SetKey, Given, Call, Mapped, Move, Frame, Pending, ValueFrame, ListFrame, CallFrame, Store}
use Rattle.actx_rules.specs.Laws.{Ready, Enters, six}
use Rattle.actx_rules.proofs.PreludeLaws.Drive.{drive, after_move, drive_is, move_is}
use Rattle.actx_rules.proofs.PreludeLaws.Refused.{run_cells, run_binds}
use Rattle.actx_rules.proofs.PreludeLaws.Replaced.{replace, with_call_of}

abbrev run_call : Store → Value → List Value → List Frame → Move
run_call r self ws gs = call_thing plain (Some run_thing_of) self ws gs r

-- the frames and the store while the new mapping is made
abbrev run_frames : Store → List Frame → List Frame
run_frames r gs = Pending (SetKey key_mapping) (v.Thing 3 ∷ []) t.none ∷ ValueFrame ∷ ListFrame (t.next (t.Try run_block t.no_catch (t.last run_last)) t.end) (length r.scopes ∷ 0 ∷ []) ∷ CallFrame r.scope r.receiver ∷ gs

abbrev run_store : Store → Value → List Value → ℕ → Value → Store
run_store r self ws k old = record r { scope = length r.scopes ∷ 0 ∷ []; receiver = self; scopes = r.scopes ++ run_cells ws (Some (v.Thing k)) (Some old) ∷ [] }

run_down : (r : Store) (self : Value) (ws : List Value) (gs : List Frame) (h : Ready r) (k n : ℕ) (e : Value) (tr : List TraceEvent) → entry_at self h.entries ≡ v.Thing k → slice_get r.heap k ≡ Some (state_record n e) → after_move (run_call r self ws gs) (drive 31) tr ≡ takes (with_call_of (run_store r self ws k h.current) h.current n (first ws) (run_frames r gs)) tr
run_down r self ws gs h k n e tr is g =
    let a = run_cells ws None None in
    let a1 = run_cells ws (Some (v.Thing k)) None in
    let a2 = run_cells ws (Some (v.Thing k)) (Some h.current) in
    let b : slice_get (r.scopes ++ a ∷ []) 0 ≡ Some h.top = get_front r.scopes (a ∷ []) 0 _ h.top_at in
    let b1 : slice_get (r.scopes ++ a1 ∷ []) 0 ≡ Some h.top = get_front r.scopes (a1 ∷ []) 0 _ h.top_at in
    let b2 : slice_get (r.scopes ++ a2 ∷ []) 0 ≡ Some h.top = get_front r.scopes (a2 ∷ []) 0 _ h.top_at in
    let q = run_binds ws in
    let states = h.base.states in
    let now = h.base.now in
    let with = h.base.with in
    let w = h.states_at in
    let m = h.weak_get_at in
    let nw = h.now_at in
    let f = h.with_at in
    simp (q, get_last {A = List Cell}, set_last {A = List Cell}, b, b1, b2, states, now, with, w, m, nw, f, is, g)

-- from the new mapping to the call of the function
run_up : (r : Store) (self : Value) (ws : List Value) (gs : List Frame) (k made : ℕ) (old current mapping : Value) (more : List (List Cell)) (heap : List Thing) (tr : List TraceEvent) → slice_get heap 3 ≡ Some (now_record current made) → drive 23 (Given mapping) (run_frames r gs) (record (run_store r self ws k old) { scopes = (r.scopes ++ run_cells ws (Some (v.Thing k)) (Some old) ∷ []) ++ more; heap = heap }) tr
    ≡ at (Call (first (rest ws)) v.Undefined (six (rest (rest ws)))) (running (length r.scopes) r.scope r.receiver gs)
    (record r { scope = length ((r.scopes ++ run_cells ws (Some (v.Thing k)) (Some old) ∷ []) ++ more) ∷ length r.scopes ∷ 0 ∷ []; receiver = self; scopes = ((r.scopes ++ run_cells ws (Some (v.Thing k)) (Some old) ∷ []) ++ more) ++ [] ∷ []; heap = slice_set heap 3 (now_record mapping made) }) tr
run_up r self ws gs k made old current mapping more heap tr nw =
    let c = run_cells ws (Some (v.Thing k)) (Some old) in
    let s1 = (r.scopes ++ c ∷ []) ++ more in
    let has : slice_get (s1 ++ [] ∷ []) (length r.scopes) ≡ Some c = get_front s1 ([] ∷ []) (length r.scopes) _ (get_front (r.scopes ++ c ∷ []) more (length r.scopes) _ (get_last r.scopes c)) in
    simp (get_last {A = List Cell}, has, nw)

pub enters_at : (w : World) (r : Store) (self : Value) (ws : List Value) (gs : List Frame) (h : Ready r) (k n : ℕ) (a e : Value) (ms : List Mapped) → entry_at self h.entries ≡ v.Thing k → slice_get r.heap k ≡ Some (state_record n e) → ValueIs w a (first ws) → MappingIs w r.heap ms h.current → Enters w r self ws gs n ms a h.current h.made
enters_at w r self ws gs h k n a e ms is g hv mi =
    let c = run_cells ws (Some (v.Thing k)) (Some h.current) in
    let b : slice_get (r.scopes ++ c ∷ []) 0 ≡ Some h.top = get_front r.scopes (c ∷ []) 0 _ h.top_at in
    let ih = replace w r.heap (run_store r self ws k h.current) h.top n a (first ws) (run_frames r gs) ms h.current refl b h.base h.with_at hv mi in
    let within = ih.within in
    let heap1 = r.heap ++ ih.nodes in
    let s1 = (r.scopes ++ c ∷ []) ++ ih.cells in
    let s2 = r.scopes ++ (c ∷ (ih.cells ++ [] ∷ [])) in
    let whole : s1 ++ [] ∷ [] ≡ s2 = simp append_assoc in
    let has : slice_get (s1 ++ [] ∷ []) (length r.scopes) ≡ Some c = get_front s1 ([] ∷ []) (length r.scopes) _ (get_front (r.scopes ++ c ∷ []) ih.cells (length r.scopes) _ (get_last r.scopes c)) in
    let nw : slice_get heap1 3 ≡ Some (now_record h.current h.made) = get_front r.heap ih.nodes 3 _ h.now_at in
    let inner = takes (with_call_of (run_store r self ws k h.current) h.current n (first ws) (run_frames r gs)) in
    let r1 = record (run_store r self ws k h.current) { scopes = s1; heap = heap1 } in
    record {
      cells = c ∷ (ih.cells ++ [] ∷ []);
      nodes = ih.nodes;
      fixed = ih.fixed;
      mapping = ih.value;
      is = ih.is;
      scope = length r.scopes;
      chain = length s1 ∷ length r.scopes ∷ 0 ∷ [];
      own = c;
      new = omega arith;
      has = subst (λ x. slice_get x (length r.scopes) ≡ Some c) whole has;
      old = refl;
      free = refl;
      leads = record {
        count = 31 + (ih.count + 23);
        by = λ tr.
            run_on (step plain) 31 (ih.count + 23) (takes (run_call r self ws gs) tr) (inner tr) _
            (sym (move_is 31 (run_call r self ws gs) tr (drive_is 31)) ∙ run_down r self ws gs h k n e tr is g)
            (run_on (step plain) ih.count 23 (inner tr) (at (Given ih.value) (run_frames r gs) r1 tr) _ (ih.by tr)
            (sym (drive_is 23 (Given ih.value) (run_frames r gs) r1 tr) ∙ (run_up r self ws gs k h.made h.current h.current ih.value ih.cells heap1 tr nw
            ∙ (ap (λ x. at (Call (first (rest ws)) v.Undefined (six (rest (rest ws)))) (running (length r.scopes) r.scope r.receiver gs) (record r { scope = length s1 ∷ length r.scopes ∷ 0 ∷ []; receiver = self; scopes = x; heap = slice_set heap1 3 (now_record ih.value h.made) }) tr) whole
            ∙ ap (at (Call (first (rest ws)) v.Undefined (six (rest (rest ws)))) (running (length r.scopes) r.scope r.receiver gs) (record r { scope = length s1 ∷ length r.scopes ∷ 0 ∷ []; receiver = self; scopes = s2; heap = slice_set heap1 3 (now_record ih.value h.made) })) (sym (append_nil tr))))));
        within = omega (arith, within);
      };
    }
