-- The get of a variable.
use Rattle.std.proofs.Common.{◌≡◌, ℕ, zero, suc, ◌+◌, List, [], ◌∷◌, ◌++◌, length, append_assoc, Some, None, refl, sym, ap, ◌∙◌, arith}
use Rattle.std.specs.Prelude.{slice_get, slice_set, pos, codes}
use Rattle.actx_match.proofs.Runs.{run_on}
use Rattle.actx_match.proofs.Pairing.{get_front, get_last, set_last}
use Rattle.actx_data.specs.declared.trace.TraceEvent.{TraceEvent}
use Rattle.actx_data.specs.declared.trace.TraceEvent.TheVariants.{Get}
use Rattle.actx_data.specs.declared.value.Value.{Value}
use Rattle.actx_data.specs.declared.value.Value.TheVariants as v
use Rattle.actx_grammar.specs.declared.side.Side.TheVariants.{Plain as plain}
use Rattle.actx_grammar.specs.declared.operators.Form.TheVariants.{Note}
use Rattle.actx_grammar.specs.Tree as t
use Rattle.actx_agent.specs.Mapping.{mapped}
use Rattle.actx_table.specs.Machine.{at, takes, step}
use Rattle.actx_table.specs.Expressions.{call_code}
use Rattle.actx_table.specs.Prelude.{the_value, the_number, three}
use Rattle.actx_table.specs.Agent.{entry_at}
use Rattle.actx_table.specs.Showing.{show, more_shown}
use Rattle.actx_table.proofs.PreludeLaws.Drive.{drive, after_move, drive_is, move_is}
use Rattle.actx_table.proofs.PreludeLaws.Refused.{get_cells}
use Rattle.actx_table.proofs.PreludeLaws.Found.{find, find_call}
use Rattle.actx_table.specs.State.{CallFrame, Cell, ConstFrame, Frame, Given, ListFrame, Move, Store}
use Rattle.actx_table.specs.Scopes.{option_or}
use Rattle.actx_table.specs.Laws.{Gets}
use Rattle.actx_table.specs.PreludeState.{MappingIs, Ready, get_code, state_record}

pub set_front : {A : Type 0} (xs ys : List A) (i : ℕ) (a b : A) → slice_get xs i ≡ Some a → slice_set (xs ++ ys) i b ≡ slice_set xs i b ++ ys
set_front [] ys i a b h = absurd (cc)
set_front (x ∷ xs) ys zero a b h = refl
set_front (x ∷ xs) ys (suc i) a b h = ap (λ zs. x ∷ zs) (set_front xs ys i a b h)

abbrev get_last_part : t.Stmts
get_last_part = t.next (t.Value (t.Built Note (t.also (t.Text (codes "get")) (three (t.Named the_number) (t.Named the_value) t.Undefined)))) (t.next (t.Return (t.some_expr (t.Named the_value))) t.end)

abbrev get_call : Store → Value → List Value → List Frame → Move
get_call r self ws gs = call_code plain (Some get_code) self ws gs r

-- the frames and the store of the walk
abbrev get_frames : Store → List Frame → List Frame
get_frames r gs = ConstFrame the_value t.no_consts ∷ ListFrame get_last_part (length r.scopes ∷ 0 ∷ []) ∷ CallFrame r.scope r.receiver ∷ gs

abbrev get_store : Store → Value → ℕ → ℕ → Store
get_store r self k n = record r { scope = length r.scopes ∷ 0 ∷ []; receiver = self; scopes = r.scopes ++ get_cells (Some (v.Thing k)) (Some (v.Num (pos n))) None ∷ [] }

get_down : (r : Store) (self : Value) (ws : List Value) (gs : List Frame) (h : Ready r) (k n : ℕ) (e : Value) (tr : List TraceEvent) → entry_at self h.entries ≡ v.Thing k → slice_get r.heap k ≡ Some (state_record n e) → after_move (get_call r self ws gs) (drive 30) tr ≡ takes (find_call (get_store r self k n) h.current n e (get_frames r gs)) tr
get_down r self ws gs h k n e tr q g =
    let c0 = get_cells None None None in
    let c1 = get_cells (Some (v.Thing k)) None None in
    let c2 = get_cells (Some (v.Thing k)) (Some (v.Num (pos n))) None in
    let b0 : slice_get (r.scopes ++ c0 ∷ []) 0 ≡ Some h.top = get_front r.scopes (c0 ∷ []) 0 _ h.top_at in
    let b1 : slice_get (r.scopes ++ c1 ∷ []) 0 ≡ Some h.top = get_front r.scopes (c1 ∷ []) 0 _ h.top_at in
    let b2 : slice_get (r.scopes ++ c2 ∷ []) 0 ≡ Some h.top = get_front r.scopes (c2 ∷ []) 0 _ h.top_at in
    let states = h.base.states in
    let now = h.base.now in
    let find = h.base.find in
    let w = h.states_at in
    let en = h.entries_at in
    let m = h.weak_get_at in
    let nw = h.now_at in
    let f = h.find_at in
    simp (get_last {A = List Cell}, set_last {A = List Cell}, b0, b1, b2, states, now, find, w, en, m, nw, f, q, g)

get_up : (r : Store) (self : Value) (gs : List Frame) (k n : ℕ) (a : Value) (more : List (List Cell)) (tr : List TraceEvent) → drive 19 (Given a) (get_frames r gs) (record (get_store r self k n) { scopes = (r.scopes ++ get_cells (Some (v.Thing k)) (Some (v.Num (pos n))) None ∷ []) ++ more }) tr ≡ at (Given a) gs (record r { scopes = (r.scopes ++ get_cells (Some (v.Thing k)) (Some (v.Num (pos n))) (Some a) ∷ []) ++ more; shown = more_shown r.shown a }) (tr ++ Get n (show r.heap (more_shown r.shown a) a) ∷ [])
get_up r self gs k n a more tr =
    let c2 = get_cells (Some (v.Thing k)) (Some (v.Num (pos n))) None in
    let c3 = get_cells (Some (v.Thing k)) (Some (v.Num (pos n))) (Some a) in
    let had : slice_get ((r.scopes ++ c2 ∷ []) ++ more) (length r.scopes) ≡ Some c2 = get_front (r.scopes ++ c2 ∷ []) more (length r.scopes) _ (get_last r.scopes c2) in
    let has : slice_get ((r.scopes ++ c3 ∷ []) ++ more) (length r.scopes) ≡ Some c3 = get_front (r.scopes ++ c3 ∷ []) more (length r.scopes) _ (get_last r.scopes c3) in
    let sets : slice_set ((r.scopes ++ c2 ∷ []) ++ more) (length r.scopes) c3 ≡ (r.scopes ++ c3 ∷ []) ++ more = set_front (r.scopes ++ c2 ∷ []) more (length r.scopes) _ c3 (get_last r.scopes c2) ∙ ap (λ x. x ++ more) (set_last r.scopes c2 c3) in
    simp (had, sets, has)

pub gets_at : (R : Value → Value → Type 0) (r : Store) (self : Value) (ws : List Value) (gs : List Frame) (h : Ready r) (k n : ℕ) (d e : Value) (ms : List (ℕ × Value)) → entry_at self h.entries ≡ v.Thing k → slice_get r.heap k ≡ Some (state_record n e) → R d e → MappingIs R r.heap ms h.current → Gets R r self ws gs n ms (option_or (mapped n ms) d)
gets_at R r self ws gs h k n d e ms q g hv mi =
    let c2 = get_cells (Some (v.Thing k)) (Some (v.Num (pos n))) None in
    let b : slice_get (r.scopes ++ c2 ∷ []) 0 ≡ Some h.top = get_front r.scopes (c2 ∷ []) 0 _ h.top_at in
    let ih = find R r.heap (get_store r self k n) h.top n d e (get_frames r gs) ms h.current refl b h.base h.find_at hv mi in
    let a = ih.value in
    let c3 = get_cells (Some (v.Thing k)) (Some (v.Num (pos n))) (Some a) in
    let within = ih.within in
    record {
      value = a;
      is = ih.is;
      cells = c3 ∷ ih.cells;
      leads = record {
        count = 30 + (ih.count + 19);
        by = λ tr.
            run_on (step plain) 30 (ih.count + 19) (takes (get_call r self ws gs) tr) (takes (find_call (get_store r self k n) h.current n e (get_frames r gs)) tr) _
            (sym (move_is 30 (get_call r self ws gs) tr (drive_is 30)) ∙ get_down r self ws gs h k n e tr q g)
            (run_on (step plain) ih.count 19 (takes (find_call (get_store r self k n) h.current n e (get_frames r gs)) tr) (at (Given a) (get_frames r gs) (record (get_store r self k n) { scopes = (r.scopes ++ c2 ∷ []) ++ ih.cells }) tr) _
            (ih.by tr)
            (sym (drive_is 19 (Given a) (get_frames r gs) (record (get_store r self k n) { scopes = (r.scopes ++ c2 ∷ []) ++ ih.cells }) tr) ∙ (get_up r self gs k n a ih.cells tr ∙ ap (λ x. at (Given a) gs (record r { scopes = x; shown = more_shown r.shown a }) (tr ++ Get n (show r.heap (more_shown r.shown a) a) ∷ [])) (simp append_assoc))));
        within = omega (arith, within);
      };
    }
