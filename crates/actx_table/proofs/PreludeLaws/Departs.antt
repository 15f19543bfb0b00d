-- The run of a variable is left, by a value or a throw.
use Rattle.std.proofs.Common.{◌≡◌, ℕ, true, List, [], ◌∷◌, ◌++◌, Some, None, sym, ◌∙◌, arith}
use Rattle.std.specs.Prelude.{slice_get}
use Rattle.actx_data.specs.declared.value.Value.{Value}
use Rattle.actx_match.proofs.Pairing.{get_front, get_last}
use Rattle.actx_table.specs.Prelude.{name_now, the_old}
use Rattle.actx_table.proofs.PreludeLaws.Drive.{drive_is}
use Rattle.actx_table.specs.State.{Cell, Done, Frame, Given, Store, Task, Throw}
use Rattle.actx_table.specs.Scopes.{cell_of}
use Rattle.actx_table.specs.Laws.{Comes, Departs, comes_throw, comes_value}
use Rattle.actx_table.specs.PreludeState.{Ready, running}

pub departs_at : (r : Store) (task : Task) (k : ℕ) (c : List ℕ) (y : Value) (gs : List Frame) (old : Value) (h : Ready r) (cells : List Cell) → Comes task → slice_get r.scopes k ≡ Some cells → cell_of the_old cells ≡ Some (record { name = the_old; value = Some old; constant = true }) → cell_of name_now cells ≡ None → Departs r task k c y gs old h.made h.before
departs_at r task k c y gs old h cells (comes_value a) at_k is free =
    let b : slice_get (r.scopes ++ [] ∷ []) 0 ≡ Some h.top = get_front r.scopes ([] ∷ []) 0 _ h.top_at in
    let kk : slice_get (r.scopes ++ [] ∷ []) k ≡ Some cells = get_front r.scopes ([] ∷ []) k _ at_k in
    let n = h.now_at in
    let base = h.base.now in
    record { cells = [] ∷ []; count = 14; within = omega arith; by = λ tr. sym (drive_is 15 (Given a) (running k c y gs) r tr) ∙ simp (get_last {A = List Cell}, b, kk, n, is, free, base) }
departs_at r task k c y gs old h cells (comes_throw a) at_k is free =
    let b : slice_get (r.scopes ++ [] ∷ []) 0 ≡ Some h.top = get_front r.scopes ([] ∷ []) 0 _ h.top_at in
    let kk : slice_get (r.scopes ++ [] ∷ []) k ≡ Some cells = get_front r.scopes ([] ∷ []) k _ at_k in
    let n = h.now_at in
    let base = h.base.now in
    record { cells = [] ∷ []; count = 14; within = omega arith; by = λ tr. sym (drive_is 15 (Done (Throw a)) (running k c y gs) r tr) ∙ simp (get_last {A = List Cell}, b, kk, n, is, free, base) }
