-- The run of a variable is entered.
use Rattle.std.proofs.Common.{◌≡◌, ℕ, ◌+◌, true, false, List, [], ◌∷◌, ◌++◌, length, append_assoc, Some, None, refl, sym, ap, ◌∙◌, subst, arith}
use Rattle.std.specs.Prelude.{slice_get, slice_set, pos, codes}
use Rattle.actx_match.proofs.Runs.{run_on}
use Rattle.actx_match.proofs.Pairing.{get_front, get_last, set_last, append_nil}
use Rattle.actx_data.specs.declared.trace.TraceEvent.{TraceEvent}
use Rattle.actx_data.specs.declared.value.Value.{Value}
use Rattle.actx_data.specs.declared.value.Value.TheVariants as v
use Rattle.actx_grammar.specs.declared.side.Side.TheVariants.{Plain as plain}
use Rattle.actx_grammar.specs.Tree as t
use Rattle.actx_table.specs.Machine.{at, takes, step}
use Rattle.actx_table.specs.Expressions.{call_code}
use Rattle.actx_table.specs.Forms.{first, rest}
use Rattle.actx_table.specs.Prelude.{key_mapping, run_block, run_last}
use Rattle.actx_table.specs.Agent.{entry_at}
use Rattle.actx_heap.specs.Texts.{same_text}
use Rattle.actx_table.specs.Operators.{type_text}
use Rattle.actx_table.proofs.PreludeLaws.Drive.{drive, after_move, drive_is, move_is, leads}
use Rattle.actx_table.proofs.PreludeLaws.Refused.{run_cells, run_binds}
use Rattle.actx_table.proofs.PreludeLaws.Replaced.{replace, with_call_of}
use Rattle.actx_heap.specs.Things.{Thing}
use Rattle.actx_table.specs.State.{Call, CallFrame, Cell, Code, Frame, Given, ListFrame, Move, Pending, Store, ValueFrame, Write}
use Rattle.actx_table.specs.Laws.{Refuses, Enters, six}
use Rattle.actx_table.specs.PreludeState.{MappingIs, Ready, now_record, run_code, running, state_record}

abbrev run_call : Store → Value → List Value → List Frame → Move
run_call r self ws gs = call_code plain (Some run_code) self ws gs r

-- the frames and the store while the new mapping is made
abbrev run_frames : ℕ → Store → List Frame → List Frame
run_frames p r gs = Pending (Write (Some key_mapping)) (v.Thing (3 + p) ∷ []) t.none ∷ ValueFrame ∷ ListFrame (t.next (t.Try run_block t.no_catch (t.last run_last)) t.end) (length r.scopes ∷ 0 ∷ []) ∷ CallFrame r.scope r.receiver ∷ gs

abbrev run_store : Store → Value → List Value → ℕ → ℕ → Value → Store
run_store r self ws k n old = record r { scope = length r.scopes ∷ 0 ∷ []; receiver = self; scopes = r.scopes ++ run_cells ws (Some (v.Thing k)) (Some (v.Num (pos n))) (Some old) ∷ [] }

run_down : (r : Store) (self : Value) (ws : List Value) (gs : List Frame) (h : Ready r) (k n : ℕ) (e : Value) (tr : List TraceEvent) → entry_at self h.entries ≡ v.Thing k → slice_get r.heap k ≡ Some (state_record n e) → same_text (type_text r.heap (first (rest ws))) (codes "function") ≡ true → after_move (run_call r self ws gs) (drive 45) tr ≡ takes (with_call_of (run_store r self ws k n h.current) h.current n (first ws) (run_frames h.before r gs)) tr
run_down r self ws gs h k n e tr is g tf =
    let a = run_cells ws None None None in
    let a1 = run_cells ws (Some (v.Thing k)) None None in
    let an = run_cells ws (Some (v.Thing k)) (Some (v.Num (pos n))) None in
    let a2 = run_cells ws (Some (v.Thing k)) (Some (v.Num (pos n))) (Some h.current) in
    let b : slice_get (r.scopes ++ a ∷ []) 0 ≡ Some h.top = get_front r.scopes (a ∷ []) 0 _ h.top_at in
    let b1 : slice_get (r.scopes ++ a1 ∷ []) 0 ≡ Some h.top = get_front r.scopes (a1 ∷ []) 0 _ h.top_at in
    let bn : slice_get (r.scopes ++ an ∷ []) 0 ≡ Some h.top = get_front r.scopes (an ∷ []) 0 _ h.top_at in
    let b2 : slice_get (r.scopes ++ a2 ∷ []) 0 ≡ Some h.top = get_front r.scopes (a2 ∷ []) 0 _ h.top_at in
    let q = run_binds ws in
    let states = h.base.states in
    let now = h.base.now in
    let with = h.base.with in
    let w = h.states_at in
    let en = h.entries_at in
    let m = h.weak_get_at in
    let nw = h.now_at in
    let f = h.with_at in
    simp (q, get_last {A = List Cell}, set_last {A = List Cell}, b, b1, bn, b2, states, now, with, w, en, m, nw, f, is, g, tf)

-- from the new mapping to the call of the function
run_up : (p : ℕ) (r : Store) (self : Value) (ws : List Value) (gs : List Frame) (k n made : ℕ) (old current mapping : Value) (more : List (List Cell)) (heap : List (Thing Code)) (tr : List TraceEvent) → slice_get heap (3 + p) ≡ Some (now_record current made) → drive 23 (Given mapping) (run_frames p r gs) (record (run_store r self ws k n old) { scopes = (r.scopes ++ run_cells ws (Some (v.Thing k)) (Some (v.Num (pos n))) (Some old) ∷ []) ++ more; heap = heap }) tr
    ≡ at (Call (first (rest ws)) v.Undefined (six (rest (rest ws)))) (running (length r.scopes) r.scope r.receiver gs)
    (record r { scope = length ((r.scopes ++ run_cells ws (Some (v.Thing k)) (Some (v.Num (pos n))) (Some old) ∷ []) ++ more) ∷ length r.scopes ∷ 0 ∷ []; receiver = self; scopes = ((r.scopes ++ run_cells ws (Some (v.Thing k)) (Some (v.Num (pos n))) (Some old) ∷ []) ++ more) ++ [] ∷ []; heap = slice_set heap (3 + p) (now_record mapping made) }) tr
run_up p r self ws gs k n made old current mapping more heap tr nw =
    let c = run_cells ws (Some (v.Thing k)) (Some (v.Num (pos n))) (Some old) in
    let s1 = (r.scopes ++ c ∷ []) ++ more in
    let has : slice_get (s1 ++ [] ∷ []) (length r.scopes) ≡ Some c = get_front s1 ([] ∷ []) (length r.scopes) _ (get_front (r.scopes ++ c ∷ []) more (length r.scopes) _ (get_last r.scopes c)) in
    simp (get_last {A = List Cell}, has, nw)

pub enters_at : (R : Value → Value → Type 0) (r : Store) (self : Value) (ws : List Value) (gs : List Frame) (h : Ready r) (k n : ℕ) (a e : Value) (ms : List (ℕ × Value)) → entry_at self h.entries ≡ v.Thing k → slice_get r.heap k ≡ Some (state_record n e) → same_text (type_text r.heap (first (rest ws))) (codes "function") ≡ true → R a (first ws) → MappingIs R r.heap ms h.current → Enters R r self ws gs n ms a h.current h.made h.before
enters_at R r self ws gs h k n a e ms is g tf hv mi =
    let p = h.before in
    let c = run_cells ws (Some (v.Thing k)) (Some (v.Num (pos n))) (Some h.current) in
    let b : slice_get (r.scopes ++ c ∷ []) 0 ≡ Some h.top = get_front r.scopes (c ∷ []) 0 _ h.top_at in
    let ih = replace R r.heap (run_store r self ws k n h.current) h.top n a (first ws) (run_frames p r gs) ms h.current refl b h.base h.with_at hv mi in
    let within = ih.within in
    let heap1 = r.heap ++ ih.nodes in
    let s1 = (r.scopes ++ c ∷ []) ++ ih.cells in
    let s2 = r.scopes ++ (c ∷ (ih.cells ++ [] ∷ [])) in
    let whole : s1 ++ [] ∷ [] ≡ s2 = simp append_assoc in
    let has : slice_get (s1 ++ [] ∷ []) (length r.scopes) ≡ Some c = get_front s1 ([] ∷ []) (length r.scopes) _ (get_front (r.scopes ++ c ∷ []) ih.cells (length r.scopes) _ (get_last r.scopes c)) in
    let nw : slice_get heap1 (3 + p) ≡ Some (now_record h.current h.made) = get_front r.heap ih.nodes (3 + p) _ h.now_at in
    let inner = takes (with_call_of (run_store r self ws k n h.current) h.current n (first ws) (run_frames p r gs)) in
    let r1 = record (run_store r self ws k n h.current) { scopes = s1; heap = heap1 } in
    record {
      cells = c ∷ (ih.cells ++ [] ∷ []);
      nodes = ih.nodes;
      fixed = ih.fixed;
      mapping = ih.value;
      is = ih.is;
      scope = length r.scopes;
      chain = length s1 ∷ length r.scopes ∷ 0 ∷ [];
      own = c;
      new = omega arith;
      has = subst (λ x. slice_get x (length r.scopes) ≡ Some c) whole has;
      old = refl;
      free = refl;
      leads = record {
        count = 45 + (ih.count + 23);
        by = λ tr.
            run_on (step plain) 45 (ih.count + 23) (takes (run_call r self ws gs) tr) (inner tr) _
            (sym (move_is 45 (run_call r self ws gs) tr (drive_is 45)) ∙ run_down r self ws gs h k n e tr is g tf)
            (run_on (step plain) ih.count 23 (inner tr) (at (Given ih.value) (run_frames p r gs) r1 tr) _ (ih.by tr)
            (sym (drive_is 23 (Given ih.value) (run_frames p r gs) r1 tr) ∙ (run_up p r self ws gs k n h.made h.current h.current ih.value ih.cells heap1 tr nw
            ∙ (ap (λ x. at (Call (first (rest ws)) v.Undefined (six (rest (rest ws)))) (running (length r.scopes) r.scope r.receiver gs) (record r { scope = length s1 ∷ length r.scopes ∷ 0 ∷ []; receiver = self; scopes = x; heap = slice_set heap1 (3 + p) (now_record ih.value h.made) }) tr) whole
            ∙ ap (at (Call (first (rest ws)) v.Undefined (six (rest (rest ws)))) (running (length r.scopes) r.scope r.receiver gs) (record r { scope = length s1 ∷ length r.scopes ∷ 0 ∷ []; receiver = self; scopes = s2; heap = slice_set heap1 (3 + p) (now_record ih.value h.made) })) (sym (append_nil tr))))));
        within = omega (arith, within);
      };
    }

-- a function that can't be called is refused before the mapping changes
pub run_refuses_callee_at : (r : Store) (self : Value) (ws : List Value) (gs : List Frame) (h : Ready r) (k n : ℕ) (e : Value) → entry_at self h.entries ≡ v.Thing k → slice_get r.heap k ≡ Some (state_record n e) → same_text (type_text r.heap (first (rest ws))) (codes "function") ≡ false → Refuses run_code r self ws gs
run_refuses_callee_at r self ws gs h k n e is g tf =
    let a = run_cells ws None None None in
    let a1 = run_cells ws (Some (v.Thing k)) None None in
    let an = run_cells ws (Some (v.Thing k)) (Some (v.Num (pos n))) None in
    let a2 = run_cells ws (Some (v.Thing k)) (Some (v.Num (pos n))) (Some h.current) in
    let b : slice_get (r.scopes ++ a ∷ []) 0 ≡ Some h.top = get_front r.scopes (a ∷ []) 0 _ h.top_at in
    let b1 : slice_get (r.scopes ++ a1 ∷ []) 0 ≡ Some h.top = get_front r.scopes (a1 ∷ []) 0 _ h.top_at in
    let bn : slice_get (r.scopes ++ an ∷ []) 0 ≡ Some h.top = get_front r.scopes (an ∷ []) 0 _ h.top_at in
    let q = run_binds ws in
    let states = h.base.states in
    let now = h.base.now in
    let w = h.states_at in
    let en = h.entries_at in
    let m = h.weak_get_at in
    let nw = h.now_at in
    record {
      cells = a2 ∷ [] ∷ [];
      leads = leads 38 100 (run_call r self ws gs) _ _ _ (omega arith) (λ tr. simp (q, get_last {A = List Cell}, set_last {A = List Cell}, b, b1, bn, states, now, w, en, m, nw, is, g, tf, append_assoc r.scopes (a2 ∷ []) ([] ∷ [])));
    }
