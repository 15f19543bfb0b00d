-- A mapping with the value of a variable in it: a new list of frozen entries.
use Rattle.std.proofs.Common.{◌≡◌, ℕ, suc, ◌+◌, ◌*◌, ◌≤◌, Bool, true, false, List, [], ◌∷◌, ◌++◌, length, append_assoc, Some, refl, sym, ap, ap₂, ◌∙◌, subst, arith}
use Rattle.std.specs.Prelude.{nat_eq, if◌then◌else◌, slice_get, pos}
use Rattle.std.specs.Ordering.{int_eq}
use Rattle.actx_match.specs.Runs.{run}
use Rattle.actx_match.proofs.Runs.{run_on}
use Rattle.actx_match.proofs.Pairing.{get_front, get_last, set_last}
use Rattle.actx_data.specs.declared.trace.TraceEvent.{TraceEvent}
use Rattle.actx_data.specs.declared.value.Value.{Value}
use Rattle.actx_data.specs.declared.value.Value.TheVariants as v
use Rattle.actx_grammar.specs.declared.side.Side.TheVariants.{Plain as plain}
use Rattle.actx_grammar.specs.declared.operators.Form.TheVariants.{Freeze}
use Rattle.actx_grammar.specs.Tree as t
use Rattle.actx_agent.specs.Mapping.{with_mapped}
use Rattle.actx_table.specs.Machine.{at, takes, step}
use Rattle.actx_table.specs.Expressions.{call_code}
use Rattle.actx_table.specs.Prelude.{the_list, the_number, the_value, key_number, key_value, key_rest, entry_made}
use Rattle.actx_table.proofs.PreludeLaws.Drive.{drive, after_move, drive_is, move_is}
use Rattle.actx_table.proofs.PreludeLaws.Found.{same_number}
use Rattle.actx_heap.specs.Things.{Thing, Plain, Listed, Failure, Function}
use Rattle.actx_table.specs.State.{BuiltIn, CallFrame, Cell, Code, Frame, Given, ListFrame, MakeObject, Move, Pending, ReturnFrame, Store}
use Rattle.actx_table.specs.Scopes.{open_cell}
use Rattle.actx_table.specs.Laws.{AreFixed}
use Rattle.actx_table.specs.PreludeState.{IsBase, MappingIs, entry_record, more_mapping, no_mapping, with_code}

-- MAPPINGS IN HEAPS WITH MORE
pub mapping_more : (R : Value → Value → Type 0) (heap more : List (Thing Code)) (ms : List (ℕ × Value)) (m : Value) → MappingIs R heap ms m → MappingIs R (heap ++ more) ms m
mapping_more R heap more ms m no_mapping = no_mapping
mapping_more R heap more ms m (more_mapping n k hv e t) = more_mapping n k hv (get_front heap more k _ e) (mapping_more R heap more _ _ t)

fixed_last : (xs : List (Thing Code)) (n : ℕ) (a rest : Value) → AreFixed xs → AreFixed (xs ++ entry_record n a rest ∷ [])
fixed_last [] n a rest h = tt
fixed_last (Listed ps ∷ xs) n a rest h = fixed_last xs n a rest h
fixed_last (Plain ps ∷ xs) n a rest h = absurd h
fixed_last (Failure name u ∷ xs) n a rest h = absurd h
fixed_last (Function code ∷ xs) n a rest h = absurd h

-- CALLS
abbrev pub with_call_of : Store → Value → ℕ → Value → List Frame → Move
with_call_of r m n d gs = call_code plain (Some with_code) v.Undefined (m ∷ v.Num (pos n) ∷ d ∷ []) gs r

abbrev pub with_cells : Value → ℕ → Value → List Cell
with_cells m n d = open_cell the_list m ∷ open_cell the_number (v.Num (pos n)) ∷ open_cell the_value d ∷ []

-- a call, from its move: the new mapping, and the scopes and entries that were made
pub record Withs (R : Value → Value → Type 0) (r : Store) (m : Value) (n : ℕ) (d : Value) (gs : List Frame) (ms : List (ℕ × Value)) (limit : ℕ) : Type 0 where
  pub value : Value
  pub cells : List (List Cell)
  pub nodes : List (Thing Code)
  pub fixed : AreFixed nodes
  pub is : MappingIs R (r.heap ++ nodes) ms value
  pub count : ℕ
  pub by : (tr : List TraceEvent) → run (step plain) count (takes (with_call_of r m n d gs) tr) ≡ at (Given value) gs (record r { scopes = r.scopes ++ cells; heap = r.heap ++ nodes }) tr
  pub within : count ≤ limit

abbrev with_rest : t.Stmts
with_rest = t.next (t.Return (t.some_expr (entry_made (t.Named the_number) (t.Named the_value) t.Undefined))) t.end

-- the frames and the store of the call for the rest
abbrev with_frames : Store → ℕ → Value → List Frame → List Frame
with_frames r n0 a gs = Pending (MakeObject (Some key_number ∷ Some key_value ∷ Some key_rest ∷ [])) (v.Num (pos n0) ∷ a ∷ []) t.none ∷ Pending (BuiltIn Freeze) [] t.none ∷ ReturnFrame ∷ ListFrame t.end (length r.scopes ∷ 0 ∷ []) ∷ ListFrame with_rest (length r.scopes ∷ 0 ∷ []) ∷ CallFrame r.scope r.receiver ∷ gs

abbrev with_store : Store → Value → ℕ → Value → Store
with_store r m n d = record r { scope = length (r.scopes ++ with_cells m n d ∷ []) ∷ length r.scopes ∷ 0 ∷ []; receiver = v.Undefined; scopes = (r.scopes ++ with_cells m n d ∷ []) ++ [] ∷ [] }

with_none : (r : Store) (n : ℕ) (d : Value) (gs : List Frame) (tr : List TraceEvent) → after_move (with_call_of r v.Undefined n d gs) (drive 18) tr ≡ at (Given (v.Thing (length r.heap))) gs (record r { scopes = r.scopes ++ with_cells v.Undefined n d ∷ []; heap = r.heap ++ entry_record n d v.Undefined ∷ [] }) tr
with_none r n d gs tr = simp (get_last {A = List Cell}, get_last {A = Thing Code}, set_last {A = Thing Code})

with_here : (r : Store) (n n0 k : ℕ) (d a rest : Value) (gs : List Frame) (tr : List TraceEvent) → slice_get r.heap k ≡ Some (entry_record n0 a rest) → int_eq (pos n0) (pos n) ≡ true → after_move (with_call_of r (v.Thing k) n d gs) (drive 32) tr ≡ at (Given (v.Thing (length r.heap))) gs (record r { scopes = ((r.scopes ++ with_cells (v.Thing k) n d ∷ []) ++ [] ∷ []) ++ [] ∷ []; heap = r.heap ++ entry_record n d rest ∷ [] }) tr
with_here r n n0 k d a rest gs tr e q =
    let c = with_cells (v.Thing k) n d in
    let s2 = (r.scopes ++ c ∷ []) ++ [] ∷ [] in
    let one : slice_get s2 (length r.scopes) ≡ Some c = get_front (r.scopes ++ c ∷ []) ([] ∷ []) (length r.scopes) _ (get_last r.scopes c) in
    let two : slice_get (s2 ++ [] ∷ []) (length (r.scopes ++ c ∷ [])) ≡ Some [] = get_front s2 ([] ∷ []) _ _ (get_last (r.scopes ++ c ∷ []) []) in
    let three : slice_get (s2 ++ [] ∷ []) (length r.scopes) ≡ Some c = get_front s2 ([] ∷ []) _ _ one in
    simp (get_last {A = List Cell}, get_last {A = Thing Code}, set_last {A = Thing Code}, one, two, three, e, q)

-- to the call for the rest
with_on : {p : ℕ} (r : Store) (n n0 k : ℕ) (top : List Cell) (d a rest : Value) (gs : List Frame) (tr : List TraceEvent) → slice_get r.heap k ≡ Some (entry_record n0 a rest) → int_eq (pos n0) (pos n) ≡ false → slice_get r.scopes 0 ≡ Some top → IsBase p top → slice_get r.heap (5 + p) ≡ Some (Function with_code) → after_move (with_call_of r (v.Thing k) n d gs) (drive 37) tr ≡ takes (with_call_of (with_store r (v.Thing k) n d) rest n d (with_frames r n0 a gs)) tr
with_on r n n0 k top d a rest gs tr e q b base f =
    let c = with_cells (v.Thing k) n d in
    let s2 = (r.scopes ++ c ∷ []) ++ [] ∷ [] in
    let one : slice_get s2 (length r.scopes) ≡ Some c = get_front (r.scopes ++ c ∷ []) ([] ∷ []) (length r.scopes) _ (get_last r.scopes c) in
    let b1 : slice_get s2 0 ≡ Some top = get_front (r.scopes ++ c ∷ []) ([] ∷ []) 0 _ (get_front r.scopes (c ∷ []) 0 _ b) in
    let with = base.with in
    simp (get_last {A = List Cell}, one, b1, with, e, q, f)

-- back from the call for the rest: one more entry
with_back : (r : Store) (n n0 : ℕ) (m d a b : Value) (gs : List Frame) (more : List (List Cell)) (heap : List (Thing Code)) (tr : List TraceEvent) → drive 6 (Given b) (with_frames r n0 a gs) (record (with_store r m n d) { scopes = ((r.scopes ++ with_cells m n d ∷ []) ++ [] ∷ []) ++ more; heap = heap }) tr ≡ at (Given (v.Thing (length heap))) gs (record r { scopes = ((r.scopes ++ with_cells m n d ∷ []) ++ [] ∷ []) ++ more; heap = heap ++ entry_record n0 a b ∷ [] }) tr
with_back r n n0 m d a b gs more heap tr = simp (get_last {A = Thing Code}, set_last {A = Thing Code})

pub replace : {p : ℕ} (R : Value → Value → Type 0) (heap : List (Thing Code)) (r : Store) (top : List Cell) (n : ℕ) (a d : Value) (gs : List Frame) (ms : List (ℕ × Value)) (m : Value) → r.heap ≡ heap → slice_get r.scopes 0 ≡ Some top → IsBase p top → slice_get r.heap (5 + p) ≡ Some (Function with_code) → R a d → MappingIs R heap ms m → Withs R r m n d gs (with_mapped n a ms) (45 * suc (length ms))
replace R heap r top n a d gs ms m same b base f h no_mapping =
    record {
      value = v.Thing (length r.heap);
      cells = with_cells v.Undefined n d ∷ [];
      nodes = entry_record n d v.Undefined ∷ [];
      fixed = tt;
      is = more_mapping n (length r.heap) h (get_last r.heap _) no_mapping;
      count = 18;
      by = λ tr. sym (move_is 18 (with_call_of r v.Undefined n d gs) tr (drive_is 18)) ∙ with_none r n d gs tr;
      within = omega arith;
    }
replace R heap r top n a d gs _ _ same b base f h (more_mapping n0 k {a = a0} {b = d0} {rest = rest} {ms = ms} hv e0 t) =
    go (nat_eq n0 n) refl (replace R heap (with_store r (v.Thing k) n d) top n a d (with_frames r n0 d0 gs) ms rest same b1 base f h t)
  where
    e1 : slice_get r.heap k ≡ Some (entry_record n0 d0 rest)
    e1 = ap (λ x. slice_get x k) same ∙ e0

    t1 : MappingIs R r.heap ms rest
    t1 = subst (λ x. MappingIs R x ms rest) (sym same) t

    b1 : slice_get ((r.scopes ++ with_cells (v.Thing k) n d ∷ []) ++ [] ∷ []) 0 ≡ Some top
    b1 = get_front (r.scopes ++ with_cells (v.Thing k) n d ∷ []) ([] ∷ []) 0 _ (get_front r.scopes (with_cells (v.Thing k) n d ∷ []) 0 _ b)

    go : (o : Bool) → nat_eq n0 n ≡ o → Withs R (with_store r (v.Thing k) n d) rest n d (with_frames r n0 d0 gs) (with_mapped n a ms) (45 * suc (length ms)) → Withs R r (v.Thing k) n d gs (if nat_eq n0 n then (n, a) ∷ ms else (n0, a0) ∷ with_mapped n a ms) (45 * suc (suc (length ms)))
    go true q ih =
        record {
          value = v.Thing (length r.heap);
          cells = with_cells (v.Thing k) n d ∷ [] ∷ [] ∷ [];
          nodes = entry_record n d rest ∷ [];
          fixed = tt;
          is = subst (λ o. MappingIs R (r.heap ++ entry_record n d rest ∷ []) (if o then (n, a) ∷ ms else (n0, a0) ∷ with_mapped n a ms) (v.Thing (length r.heap))) (sym q)
              (more_mapping n (length r.heap) h (get_last r.heap (entry_record n d rest)) (mapping_more R r.heap (entry_record n d rest ∷ []) ms rest t1));
          count = 32;
          by = λ tr. sym (move_is 32 (with_call_of r (v.Thing k) n d gs) tr (drive_is 32)) ∙ (with_here r n n0 k d d0 rest gs tr e1 (same_number true n0 n q) ∙ ap (λ x. at (Given (v.Thing (length r.heap))) gs (record r { scopes = x; heap = r.heap ++ entry_record n d rest ∷ [] }) tr) (simp append_assoc));
          within = omega arith;
        }
    go false q ih =
        let within = ih.within in
        let last = entry_record n0 d0 ih.value in
        let heap1 = r.heap ++ ih.nodes in
        let whole : heap1 ++ last ∷ [] ≡ r.heap ++ (ih.nodes ++ last ∷ []) = append_assoc r.heap ih.nodes (last ∷ []) in
        let inner = takes (with_call_of (with_store r (v.Thing k) n d) rest n d (with_frames r n0 d0 gs)) in
        let r1 = record (with_store r (v.Thing k) n d) { scopes = ((r.scopes ++ with_cells (v.Thing k) n d ∷ []) ++ [] ∷ []) ++ ih.cells; heap = heap1 } in
        record {
          value = v.Thing (length heap1);
          cells = with_cells (v.Thing k) n d ∷ [] ∷ ih.cells;
          nodes = ih.nodes ++ last ∷ [];
          fixed = fixed_last ih.nodes n0 d0 ih.value ih.fixed;
          is = subst (λ o. MappingIs R (r.heap ++ (ih.nodes ++ last ∷ [])) (if o then (n, a) ∷ ms else (n0, a0) ∷ with_mapped n a ms) (v.Thing (length heap1))) (sym q)
              (subst (λ x. MappingIs R x ((n0, a0) ∷ with_mapped n a ms) (v.Thing (length heap1))) whole
              (more_mapping n0 (length heap1) hv (get_last heap1 last) (mapping_more R heap1 (last ∷ []) (with_mapped n a ms) ih.value ih.is)));
          count = 37 + (ih.count + 6);
          by = λ tr.
              run_on (step plain) 37 (ih.count + 6) (takes (with_call_of r (v.Thing k) n d gs) tr) (inner tr) _
              (sym (move_is 37 (with_call_of r (v.Thing k) n d gs) tr (drive_is 37)) ∙ with_on r n n0 k top d d0 rest gs tr e1 (same_number false n0 n q) b base f)
              (run_on (step plain) ih.count 6 (inner tr) (at (Given ih.value) (with_frames r n0 d0 gs) r1 tr) _ (ih.by tr)
              (sym (drive_is 6 (Given ih.value) (with_frames r n0 d0 gs) r1 tr) ∙ (with_back r n n0 (v.Thing k) d d0 ih.value gs ih.cells heap1 tr ∙ ap₂ (λ x y. at (Given (v.Thing (length heap1))) gs (record r { scopes = x; heap = y }) tr) (simp append_assoc) whole)));
          within = omega (arith, within);
        }
