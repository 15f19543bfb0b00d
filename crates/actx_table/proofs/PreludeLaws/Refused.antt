-- The calls of get and run for what is no variable.
use Rattle.std.proofs.Common.{◌≡◌, ℕ, true, List, [], ◌∷◌, ◌++◌, Option, Some, None, refl, arith}
use Rattle.std.specs.Prelude.{slice_get, codes}
use Rattle.actx_data.specs.declared.value.Value.{Value}
use Rattle.actx_data.specs.declared.value.Value.TheVariants as v
use Rattle.actx_grammar.specs.declared.side.Side.TheVariants.{Plain as plain}
use Rattle.actx_match.proofs.Pairing.{get_front, get_last, set_last}
use Rattle.actx_table.specs.Prelude.{the_value, the_f, the_arguments, the_state, the_old, the_number}
use Rattle.actx_table.specs.Agent.{entry_at}
use Rattle.actx_table.specs.Expressions.{call_code}
use Rattle.actx_table.specs.Forms.{first, rest}
use Rattle.actx_table.proofs.PreludeLaws.Drive.{leads}
use Rattle.actx_table.specs.State.{Cell, Frame, Store}
use Rattle.actx_table.specs.Scopes.{open_cell, with_params}
use Rattle.actx_table.specs.Laws.{Refuses}
use Rattle.actx_table.specs.PreludeState.{Ready, get_code, run_code}

abbrev pub const_cell : List ℕ → Option Value → Cell
const_cell x o = record { name = x; value = o; constant = true }

-- the scope of a call of get
abbrev pub get_cells : Option Value → Option Value → Option Value → List Cell
get_cells state number value = const_cell the_state state ∷ const_cell the_number number ∷ const_cell the_value value ∷ []

-- the parameters of run, and the scope of its call
abbrev run_params : List Value → List Cell
run_params ws =
    open_cell the_value (first ws) ∷ open_cell the_f (first (rest ws))
    ∷ open_cell (codes "a") (first (rest (rest ws)))
    ∷ open_cell (codes "b") (first (rest (rest (rest ws))))
    ∷ open_cell (codes "c") (first (rest (rest (rest (rest ws)))))
    ∷ open_cell (codes "d") (first (rest (rest (rest (rest (rest ws))))))
    ∷ open_cell (codes "e") (first (rest (rest (rest (rest (rest (rest ws)))))))
    ∷ open_cell (codes "g") (first (rest (rest (rest (rest (rest (rest (rest ws))))))))
    ∷ []

abbrev pub run_cells : List Value → Option Value → Option Value → Option Value → List Cell
run_cells ws state number old = run_params ws ++ const_cell the_state state ∷ const_cell the_number number ∷ const_cell the_old old ∷ []

pub run_binds : (ws : List Value) → with_params (the_value ∷ the_f ∷ the_arguments) ws [] ≡ run_params ws
run_binds [] = refl
run_binds (a ∷ []) = refl
run_binds (a ∷ b ∷ []) = refl
run_binds (a ∷ b ∷ c ∷ []) = refl
run_binds (a ∷ b ∷ c ∷ d ∷ []) = refl
run_binds (a ∷ b ∷ c ∷ d ∷ e ∷ []) = refl
run_binds (a ∷ b ∷ c ∷ d ∷ e ∷ f ∷ []) = refl
run_binds (a ∷ b ∷ c ∷ d ∷ e ∷ f ∷ g ∷ []) = refl
run_binds (a ∷ b ∷ c ∷ d ∷ e ∷ f ∷ g ∷ h ∷ ws) = refl

pub get_refuses_at : (r : Store) (self : Value) (ws : List Value) (gs : List Frame) (h : Ready r) → entry_at self h.entries ≡ v.Undefined → Refuses get_code r self ws gs
get_refuses_at r self ws gs h e =
    let a = get_cells None None None in
    let b : slice_get (r.scopes ++ a ∷ []) 0 ≡ Some h.top = get_front r.scopes (a ∷ []) 0 _ h.top_at in
    let states = h.base.states in
    let w = h.states_at in
    let en = h.entries_at in
    let m = h.weak_get_at in
    record {
      cells = get_cells (Some v.Undefined) None None ∷ [];
      leads = leads 17 100 (call_code plain (Some get_code) self ws gs r) _ _ _ (omega arith) (λ tr. simp (get_last {A = List Cell}, set_last {A = List Cell}, b, states, w, en, m, e));
    }

pub run_refuses_at : (r : Store) (self : Value) (ws : List Value) (gs : List Frame) (h : Ready r) → entry_at self h.entries ≡ v.Undefined → Refuses run_code r self ws gs
run_refuses_at r self ws gs h e =
    let a = run_cells ws None None None in
    let b : slice_get (r.scopes ++ a ∷ []) 0 ≡ Some h.top = get_front r.scopes (a ∷ []) 0 _ h.top_at in
    let q = run_binds ws in
    let states = h.base.states in
    let w = h.states_at in
    let en = h.entries_at in
    let m = h.weak_get_at in
    record {
      cells = run_cells ws (Some v.Undefined) None None ∷ [];
      leads = leads 17 100 (call_code plain (Some run_code) self ws gs r) _ _ _ (omega arith) (λ tr. simp (q, get_last {A = List Cell}, set_last {A = List Cell}, b, states, w, en, m, e));
    }
