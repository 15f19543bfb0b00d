-- A variable is made: the part that all ways of making one share.
use Rattle.std.proofs.Common.{◌≡◌, ℕ, suc, ◌+◌, Bool, true, false, List, [], ◌∷◌, ◌++◌, length, length-append, length-set, Option, Some, None, sym, ap, ◌∙◌, arith}
use Rattle.std.specs.Prelude.{slice_get, slice_set, pos, nat_le, if◌then◌else◌}
use Rattle.actx_match.proofs.Pairing.{get_front, get_last, set_last, get_set_other}
use Rattle.actx_data.specs.Number.{greatest, sum_of, in_profile}
use Rattle.actx_data.specs.declared.end.End.TheVariants.{Left}
use Rattle.actx_data.specs.declared.trace.TraceEvent.{TraceEvent}
use Rattle.actx_data.specs.declared.value.Value.{Value}
use Rattle.actx_data.specs.declared.value.Value.TheVariants as v
use Rattle.actx_grammar.specs.declared.side.Side.TheVariants.{Plain as plain}
use Rattle.actx_table.specs.Machine.{at, stopped}
use Rattle.actx_table.specs.Expressions.{call_code}
use Rattle.actx_table.specs.Prelude.{the_value, the_name, the_number, the_variable, key_number, key_value}
use Rattle.actx_table.specs.Agent.{weak_at, weak_props}
use Rattle.actx_table.specs.Laws.{made_props, made_heap, made_weak}
use Rattle.actx_table.proofs.PreludeLaws.Drive.{drive, after_move}
use Rattle.actx_table.proofs.PreludeLaws.Refused.{const_cell}
use Rattle.actx_table.proofs.PreludeLaws.Gotten.{set_front}
use Rattle.actx_heap.specs.Things.{Thing, Plain, Listed, Function}
use Rattle.actx_table.specs.State.{Cell, Code, Entry, Frame, Given, Move, Native, Store, WeakMapSet}
use Rattle.actx_table.specs.Scopes.{open_cell}
use Rattle.actx_table.specs.PreludeState.{IsBase, make_code, now_record, state_record}

-- NUMBERS
in_or_out : (n : ℕ) (c : Bool) → nat_le n greatest ≡ c → in_profile (pos n) ≡ (if c then Some (pos n) else None)
in_or_out n c h = simp h

next_is : (n : ℕ) (c : Bool) → nat_le (suc n) greatest ≡ c → sum_of (pos n) (pos 1) ≡ (if c then Some (pos (suc n)) else None)
next_is n c h = let e : n + 1 ≡ suc n = omega arith in ap (λ k. in_profile (pos k)) e ∙ in_or_out (suc n) c h

-- THE CALL
abbrev pub make_call : Store → Value → Value → List Frame → Move
make_call r name value gs = call_code plain (Some make_code) v.Undefined (name ∷ value ∷ []) gs r

abbrev pub make_cells : Value → Value → Option Value → Option Value → List Cell
make_cells name value number variable = open_cell the_name name ∷ open_cell the_value value ∷ const_cell the_number number ∷ const_cell the_variable variable ∷ []

pub make : (p : ℕ) (r : Store) (top : List Cell) (entries : List Entry) (current : Value) (made : ℕ) (name value : Value) (gs : List Frame) (tr : List TraceEvent) → slice_get r.scopes 0 ≡ Some top → IsBase p top → slice_get r.heap 1 ≡ Some (Function (Native WeakMapSet)) → slice_get r.heap (2 + p) ≡ Some (Listed weak_props) → weak_at (2 + p) r.weak ≡ Some entries → slice_get r.heap (3 + p) ≡ Some (now_record current made) → nat_le (suc made) greatest ≡ true
    → after_move (make_call r name value gs) (drive 53) tr ≡ at (Given (v.Thing (length r.heap))) gs (record r { scopes = r.scopes ++ make_cells name value (Some (v.Num (pos (suc made)))) (Some (v.Thing (length r.heap))) ∷ []; heap = made_heap p r.heap current made name value; weak = made_weak p r entries }) tr
make p r top entries current made name value gs tr b base m w en nw few =
    let n = Some (v.Num (pos (suc made))) in
    let c0 = make_cells name value None None in
    let c1 = make_cells name value n None in
    let c2 = make_cells name value n (Some (v.Thing (length r.heap))) in
    let b0 : slice_get (r.scopes ++ c0 ∷ []) 0 ≡ Some top = get_front r.scopes (c0 ∷ []) 0 _ b in
    let b1 : slice_get (r.scopes ++ c1 ∷ []) 0 ≡ Some top = get_front r.scopes (c1 ∷ []) 0 _ b in
    let b2 : slice_get (r.scopes ++ c2 ∷ []) 0 ≡ Some top = get_front r.scopes (c2 ∷ []) 0 _ b in
    let thing = Listed (made_props p name) in
    let now' = now_record current (suc made) in
    let h1 = r.heap ++ thing ∷ [] in
    let h2 = slice_set h1 (3 + p) now' in
    let st = state_record (suc made) value in
    let l2 : length h2 ≡ suc (length r.heap) = omega (arith, length-set h1 (3 + p) now', length-append r.heap (thing ∷ [])) in
    let nw1 : slice_get h1 (3 + p) ≡ Some (now_record current made) = get_front r.heap (thing ∷ []) (3 + p) _ nw in
    let w2 : slice_get h2 (2 + p) ≡ Some (Listed weak_props) = get_set_other h1 (3 + p) (2 + p) now' (λ e. absurd (omega (arith, e))) ∙ get_front r.heap (thing ∷ []) (2 + p) _ w in
    let m2 : slice_get h2 1 ≡ Some (Function (Native WeakMapSet)) = get_set_other h1 (3 + p) 1 now' (λ e. absurd (omega (arith, e))) ∙ get_front r.heap (thing ∷ []) 1 _ m in
    let m3 : slice_get (h2 ++ st ∷ []) 1 ≡ Some (Function (Native WeakMapSet)) = get_front h2 (st ∷ []) 1 _ m2 in
    let sets : slice_set (h1 ++ st ∷ []) (3 + p) now' ≡ h2 ++ st ∷ [] = set_front h1 (st ∷ []) (3 + p) _ now' nw1 in
    let loose = Plain (record { key = key_number; value = v.Num (pos (suc made)) } ∷ record { key = key_value; value = value } ∷ []) in
    let g3 : slice_get (h2 ++ loose ∷ []) (suc (length r.heap)) ≡ Some loose = ap (slice_get (h2 ++ loose ∷ [])) (sym l2) ∙ get_last h2 loose in
    let s3 : slice_set (h2 ++ loose ∷ []) (suc (length r.heap)) st ≡ h2 ++ st ∷ [] = ap (λ k. slice_set (h2 ++ loose ∷ []) k st) (sym l2) ∙ set_last h2 loose st in
    let states = base.states in
    let now = base.now in
    let get = base.get in
    let run = base.run in
    let sum : sum_of (pos made) (pos 1) ≡ Some (pos (suc made)) = next_is made true few in
    simp (sets, sum, get_last {A = List Cell}, set_last {A = List Cell}, get_last {A = Thing Code}, set_last {A = Thing Code}, b0, b1, b2, states, now, get, run, nw, nw1, w2, m3, l2, g3, s3, en)

pub make_quits : (p : ℕ) (r : Store) (top : List Cell) (current : Value) (made : ℕ) (name value : Value) (gs : List Frame) (tr : List TraceEvent) → slice_get r.scopes 0 ≡ Some top → IsBase p top → slice_get r.heap (3 + p) ≡ Some (now_record current made) → nat_le (suc made) greatest ≡ false
    → after_move (make_call r name value gs) (drive 9) tr ≡ stopped Left tr
make_quits p r top current made name value gs tr b base nw many =
    let c0 = make_cells name value None None in
    let b0 : slice_get (r.scopes ++ c0 ∷ []) 0 ≡ Some top = get_front r.scopes (c0 ∷ []) 0 _ b in
    let now = base.now in
    let sum : sum_of (pos made) (pos 1) ≡ None = next_is made false many in
    simp (sum, get_last {A = List Cell}, b0, now, nw)
