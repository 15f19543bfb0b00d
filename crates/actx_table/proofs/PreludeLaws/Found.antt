-- The walk through a mapping, and the get of a variable.
use Rattle.std.proofs.Common.{◌≡◌, ℕ, suc, ◌+◌, ◌*◌, ◌≤◌, Bool, true, false, List, [], ◌∷◌, ◌++◌, length, append_assoc, Some, refl, sym, ap, ◌∙◌, subst, arith}
use Rattle.std.specs.Prelude.{nat_eq, if◌then◌else◌, slice_get, pos}
use Rattle.std.specs.Bool.{Decides}
use Rattle.std.specs.Ordering.{int_eq}
use Rattle.std.proofs.lemmas.Bool.Decides.{Decides-int_eq}
use Rattle.std.proofs.lemmas.Bool.{eq-eqb, eqb-true}
use Rattle.actx_match.specs.Runs.{run}
use Rattle.actx_match.proofs.Runs.{run_on}
use Rattle.actx_match.proofs.Pairing.{get_front, get_last}
use Rattle.actx_data.specs.declared.trace.TraceEvent.{TraceEvent}
use Rattle.actx_data.specs.declared.value.Value.{Value}
use Rattle.actx_data.specs.declared.value.Value.TheVariants as v
use Rattle.actx_grammar.specs.declared.side.Side.TheVariants.{Plain as plain}
use Rattle.actx_grammar.specs.Tree as t
use Rattle.actx_agent.specs.Mapping.{mapped}
use Rattle.actx_table.specs.Machine.{at, takes, step}
use Rattle.actx_table.specs.Expressions.{call_code}
use Rattle.actx_table.specs.Prelude.{the_list, the_number, the_other}
use Rattle.actx_table.proofs.PreludeLaws.Drive.{drive, after_move, drive_is, move_is}
use Rattle.actx_heap.specs.Things.{Thing, Function}
use Rattle.actx_table.specs.State.{CallFrame, Cell, Code, Frame, Given, ListFrame, Move, ReturnFrame, Store}
use Rattle.actx_table.specs.Scopes.{open_cell, option_or}
use Rattle.actx_table.specs.PreludeState.{IsBase, MappingIs, entry_record, find_code, more_mapping, no_mapping}

pos_same : (a b : ℕ) → pos a ≡ pos b → a ≡ b
pos_same a b e = cc

agree : (c r : Bool) (a b : ℕ) → nat_eq a b ≡ c → Decides r (pos a ≡ pos b) → r ≡ c
agree true true a b h d = refl
agree false false a b h d = refl
agree true false a b h d = d.1 (ap pos (eqb-true a b h))
agree false true a b h d = sym (eq-eqb a b (pos_same a b (d.0 refl))) ∙ h

-- the prelude compares numbers as the agent does
pub same_number : (c : Bool) (a b : ℕ) → nat_eq a b ≡ c → int_eq (pos a) (pos b) ≡ c
same_number c a b h = agree c (int_eq (pos a) (pos b)) a b h (Decides-int_eq (pos a) (pos b))

abbrev pub find_call : Store → Value → ℕ → Value → List Frame → Move
find_call r m n d gs = call_code plain (Some find_code) v.Undefined (m ∷ v.Num (pos n) ∷ d ∷ []) gs r

-- a call of the walk, from the call's move
pub record Finds (R : Value → Value → Type 0) (r : Store) (m : Value) (n : ℕ) (d : Value) (gs : List Frame) (found : Value) (limit : ℕ) : Type 0 where
  pub value : Value
  pub is : R found value
  pub cells : List (List Cell)
  pub count : ℕ
  pub by : (tr : List TraceEvent) → run (step plain) count (takes (find_call r m n d gs) tr) ≡ at (Given value) gs (record r { scopes = r.scopes ++ cells }) tr
  pub within : count ≤ limit

abbrev find_cells : Value → ℕ → Value → List Cell
find_cells m n d = open_cell the_list m ∷ open_cell the_number (v.Num (pos n)) ∷ open_cell the_other d ∷ []

-- the frames and the store of the walk through the rest
abbrev find_frames : Store → Value → ℕ → Value → List Frame → List Frame
find_frames r m n d gs = ReturnFrame ∷ ListFrame t.end (length r.scopes ∷ 0 ∷ []) ∷ ListFrame (t.next (t.Return (t.some_expr (t.Named the_other))) t.end) (length r.scopes ∷ 0 ∷ []) ∷ CallFrame r.scope r.receiver ∷ gs

abbrev find_store : Store → Value → ℕ → Value → Store
find_store r m n d = record r { scope = length (r.scopes ++ find_cells m n d ∷ []) ∷ length r.scopes ∷ 0 ∷ []; receiver = v.Undefined; scopes = (r.scopes ++ find_cells m n d ∷ []) ++ [] ∷ [] }

find_here : (r : Store) (n n0 k : ℕ) (d a rest : Value) (gs : List Frame) (tr : List TraceEvent) → slice_get r.heap k ≡ Some (entry_record n0 a rest) → int_eq (pos n0) (pos n) ≡ true → after_move (find_call r (v.Thing k) n d gs) (drive 24) tr ≡ at (Given a) gs (record r { scopes = ((r.scopes ++ find_cells (v.Thing k) n d ∷ []) ++ [] ∷ []) ++ [] ∷ [] }) tr
find_here r n n0 k d a rest gs tr e q =
    let c = find_cells (v.Thing k) n d in
    let s2 = (r.scopes ++ c ∷ []) ++ [] ∷ [] in
    let one : slice_get s2 (length r.scopes) ≡ Some c = get_front (r.scopes ++ c ∷ []) ([] ∷ []) (length r.scopes) _ (get_last r.scopes c) in
    let two : slice_get (s2 ++ [] ∷ []) (length (r.scopes ++ c ∷ [])) ≡ Some [] = get_front s2 ([] ∷ []) _ _ (get_last (r.scopes ++ c ∷ []) []) in
    let three : slice_get (s2 ++ [] ∷ []) (length r.scopes) ≡ Some c = get_front s2 ([] ∷ []) _ _ one in
    simp (get_last {A = List Cell}, one, two, three, e, q)

find_none : (r : Store) (n : ℕ) (d : Value) (gs : List Frame) (tr : List TraceEvent) → after_move (find_call r v.Undefined n d gs) (drive 10) tr ≡ at (Given d) gs (record r { scopes = r.scopes ++ find_cells v.Undefined n d ∷ [] }) tr
find_none r n d gs tr = simp (get_last {A = List Cell})

-- to the call for the rest
find_on : {p : ℕ} (r : Store) (n n0 k : ℕ) (top : List Cell) (d a rest : Value) (gs : List Frame) (tr : List TraceEvent) → slice_get r.heap k ≡ Some (entry_record n0 a rest) → int_eq (pos n0) (pos n) ≡ false → slice_get r.scopes 0 ≡ Some top → IsBase p top → slice_get r.heap (4 + p) ≡ Some (Function find_code) → after_move (find_call r (v.Thing k) n d gs) (drive 27) tr ≡ takes (find_call (find_store r (v.Thing k) n d) rest n d (find_frames r (v.Thing k) n d gs)) tr
find_on r n n0 k top d a rest gs tr e q b base f =
    let c = find_cells (v.Thing k) n d in
    let s2 = (r.scopes ++ c ∷ []) ++ [] ∷ [] in
    let one : slice_get s2 (length r.scopes) ≡ Some c = get_front (r.scopes ++ c ∷ []) ([] ∷ []) (length r.scopes) _ (get_last r.scopes c) in
    let b1 : slice_get s2 0 ≡ Some top = get_front (r.scopes ++ c ∷ []) ([] ∷ []) 0 _ (get_front r.scopes (c ∷ []) 0 _ b) in
    let find = base.find in
    simp (get_last {A = List Cell}, one, b1, find, e, q, f)

-- back from the walk through the rest
find_back : (r : Store) (n : ℕ) (m d a : Value) (gs : List Frame) (more : List (List Cell)) (tr : List TraceEvent) → run (step plain) 4 (at (Given a) (find_frames r m n d gs) (record (find_store r m n d) { scopes = ((r.scopes ++ find_cells m n d ∷ []) ++ [] ∷ []) ++ more }) tr) ≡ at (Given a) gs (record r { scopes = ((r.scopes ++ find_cells m n d ∷ []) ++ [] ∷ []) ++ more }) tr
find_back r n m d a gs more tr = refl

pub find : {p : ℕ} (R : Value → Value → Type 0) (heap : List (Thing Code)) (r : Store) (top : List Cell) (n : ℕ) (d e : Value) (gs : List Frame) (ms : List (ℕ × Value)) (m : Value) → r.heap ≡ heap → slice_get r.scopes 0 ≡ Some top → IsBase p top → slice_get r.heap (4 + p) ≡ Some (Function find_code) → R d e → MappingIs R heap ms m → Finds R r m n e gs (option_or (mapped n ms) d) (40 * suc (length ms))
find R heap r top n d e gs ms m same b base f h no_mapping =
    record { value = e; is = h; cells = find_cells v.Undefined n e ∷ []; count = 10; within = omega arith; by = λ tr. sym (move_is 10 (find_call r v.Undefined n e gs) tr (drive_is 10)) ∙ find_none r n e gs tr }
find R heap r top n d e gs _ _ same b base f h (more_mapping n0 k {a = a} {b = a'} {rest = rest} {ms = ms} hv e0 t) =
    go (nat_eq n0 n) refl (find R heap (find_store r (v.Thing k) n e) top n d e (find_frames r (v.Thing k) n e gs) ms rest same b1 base f h t)
  where
    e1 : slice_get r.heap k ≡ Some (entry_record n0 a' rest)
    e1 = ap (λ x. slice_get x k) same ∙ e0

    c : List Cell
    c = find_cells (v.Thing k) n e

    b1 : slice_get ((r.scopes ++ find_cells (v.Thing k) n e ∷ []) ++ [] ∷ []) 0 ≡ Some top
    b1 = get_front (r.scopes ++ find_cells (v.Thing k) n e ∷ []) ([] ∷ []) 0 _ (get_front r.scopes (find_cells (v.Thing k) n e ∷ []) 0 _ b)

    go : (o : Bool) → nat_eq n0 n ≡ o → Finds R (find_store r (v.Thing k) n e) rest n e (find_frames r (v.Thing k) n e gs) (option_or (mapped n ms) d) (40 * suc (length ms)) → Finds R r (v.Thing k) n e gs (option_or (if nat_eq n0 n then Some a else mapped n ms) d) (40 * suc (suc (length ms)))
    go true q ih =
        record {
          value = a';
          is = subst (λ o. R (option_or (if o then Some a else mapped n ms) d) a') (sym q) hv;
          cells = find_cells (v.Thing k) n e ∷ [] ∷ [] ∷ [];
          count = 24;
          within = omega arith;
          by = λ tr. sym (move_is 24 (find_call r (v.Thing k) n e gs) tr (drive_is 24)) ∙ (find_here r n n0 k e a' rest gs tr e1 (same_number true n0 n q) ∙ ap (λ x. at (Given a') gs (record r { scopes = x }) tr) (simp append_assoc));
        }
    go false q ih =
        let within = ih.within in
        record {
          value = ih.value;
          is = subst (λ o. R (option_or (if o then Some a else mapped n ms) d) ih.value) (sym q) ih.is;
          cells = find_cells (v.Thing k) n e ∷ [] ∷ ih.cells;
          count = 27 + (ih.count + 4);
          within = omega (arith, within);
          by = λ tr.
              run_on (step plain) 27 (ih.count + 4) (takes (find_call r (v.Thing k) n e gs) tr) (takes (find_call (find_store r (v.Thing k) n e) rest n e (find_frames r (v.Thing k) n e gs)) tr) _
              (sym (move_is 27 (find_call r (v.Thing k) n e gs) tr (drive_is 27)) ∙ find_on r n n0 k top e a' rest gs tr e1 (same_number false n0 n q) b base f)
              (run_on (step plain) ih.count 4 (takes (find_call (find_store r (v.Thing k) n e) rest n e (find_frames r (v.Thing k) n e gs)) tr) (at (Given ih.value) (find_frames r (v.Thing k) n e gs) (record (find_store r (v.Thing k) n e) { scopes = ((r.scopes ++ find_cells (v.Thing k) n e ∷ []) ++ [] ∷ []) ++ ih.cells }) tr) _ (ih.by tr) (find_back r n (v.Thing k) e ih.value gs ih.cells tr ∙ ap (λ x. at (Given ih.value) gs (record r { scopes = x }) tr) (simp append_assoc)));
        }
