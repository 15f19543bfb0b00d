-- A variable is made: alone, with options, with a name; or the run leaves the profile.
use Rattle.std.proofs.Common.{◌≡◌, ℕ, suc, ◌+◌, ◌≤◌, true, false, List, [], ◌∷◌, ◌++◌, length, append_assoc, Option, Some, None, refl, sym, ap, ◌∙◌, arith}
use Rattle.std.specs.Prelude.{slice_get, pos, nat_le, codes, if◌then◌else◌}
use Rattle.actx_match.specs.Runs.{run}
use Rattle.actx_match.proofs.Runs.{run_on}
use Rattle.actx_match.proofs.Pairing.{get_front, get_last, set_last, append_nil}
use Rattle.actx_data.specs.Number.{greatest}
use Rattle.actx_data.specs.declared.end.End.TheVariants.{Left}
use Rattle.actx_data.specs.declared.trace.TraceEvent.{TraceEvent}
use Rattle.actx_data.specs.declared.value.Value.{Value}
use Rattle.actx_data.specs.declared.value.Value.TheVariants as v
use Rattle.actx_grammar.specs.declared.side.Side.TheVariants.{Plain as plain}
use Rattle.actx_grammar.specs.declared.operators.BinaryOp.TheVariants as o
use Rattle.actx_grammar.specs.declared.operators.UnaryOp.TheVariants as u
use Rattle.actx_grammar.specs.Tree as t
use Rattle.actx_heap.specs.Texts.{same_text}
use Rattle.actx_heap.specs.Things.{Prop, Plain}
use Rattle.actx_heap.specs.Properties.{prop_of, is_inherited, own_or, get, same}
use Rattle.actx_heap.specs.declared.answers.Got.TheVariants as g
use Rattle.actx_table.specs.Expressions.{call_code}
use Rattle.actx_table.specs.Forms.{first}
use Rattle.actx_table.specs.Machine.{at, takes, step, stopped}
use Rattle.actx_table.specs.Operators.{type_text}
use Rattle.actx_table.specs.Prelude.{the_value, the_name, the_options, name_make, two, when, const, member, leaves, make_unnamed, returns}
use Rattle.actx_table.specs.PreludeState.{variable_code, Ready}
use Rattle.actx_table.specs.Scopes.{open_cell, option_or, with_params}
use Rattle.actx_table.specs.State.{Cell, Given, Move, Frame, ReturnFrame, ListFrame, CallFrame, Store}
use Rattle.actx_table.specs.Laws.{Leads, Quits, Makes, made_heap, made_weak, option_at}
use Rattle.actx_table.proofs.PreludeLaws.Drive.{drive, after_move, drive_is, move_is}
use Rattle.actx_table.proofs.PreludeLaws.Refused.{const_cell}
use Rattle.actx_table.proofs.PreludeLaws.Made.{make_call, make_cells, make, make_quits}

abbrev pub variable_call : Store → List Value → List Frame → Move
variable_call r ws gs = call_code plain (Some variable_code) v.Undefined ws gs r

-- the scope of the call
abbrev variable_cells : Value → Option Value → Option Value → List Cell
variable_cells options value name = open_cell the_options options ∷ const_cell the_value value ∷ const_cell the_name name ∷ []

variable_binds : (ws : List Value) → with_params (the_options ∷ []) ws [] ≡ open_cell the_options (first ws) ∷ []
variable_binds [] = refl
variable_binds (a ∷ ws) = refl

-- THE SHARED PART
abbrev called : Store → List ℕ → List (List Cell) → Store
called r chain scopes = record r { scope = chain; receiver = v.Undefined; scopes = scopes }

module _ (r : Store) (gs : List Frame) (h : Ready r) (m : Move) (chain : List ℕ) (scopes : List (List Cell)) (fs : List Frame) (value : Value) (top_at : slice_get scopes 0 ≡ Some h.top) (before : ℕ) where
  made_by : (u : List ℕ) (cells : List (List Cell)) (after : ℕ) → nat_le (suc h.made) greatest ≡ true
      → scopes ++ make_cells (v.Text u) value (Some (v.Num (pos (suc h.made)))) (Some (v.Thing (length r.heap))) ∷ [] ≡ r.scopes ++ cells
      → ((tr : List TraceEvent) → after_move m (drive before) tr ≡ takes (make_call (called r chain scopes) (v.Text u) value fs) tr)
      → ((x : Value) (s : Store) (tr : List TraceEvent) → run (step plain) after (at (Given x) fs (record s { scope = chain; receiver = v.Undefined }) tr) ≡ at (Given x) gs (record s { scope = r.scope; receiver = r.receiver }) tr)
      → before + (53 + after) ≤ 300
      → Leads m 300 (Given (v.Thing (length r.heap))) gs (record r { scopes = r.scopes ++ cells; heap = made_heap h.before r.heap h.current h.made (v.Text u) value; weak = made_weak h.before r h.entries }) []
  made_by u cells after few same down up within =
      let heap = made_heap h.before r.heap h.current h.made (v.Text u) value in
      let weak = made_weak h.before r h.entries in
      let x = v.Thing (length r.heap) in
      let sc = scopes ++ make_cells (v.Text u) value (Some (v.Num (pos (suc h.made)))) (Some x) ∷ [] in
      let call = make_call (called r chain scopes) (v.Text u) value fs in
      record {
        count = before + (53 + after);
        by = λ tr.
            run_on (step plain) before (53 + after) (takes m tr) (takes call tr) _
            (sym (move_is before m tr (drive_is before)) ∙ down tr)
            (run_on (step plain) 53 after (takes call tr) (at (Given x) fs (record r { scope = chain; receiver = v.Undefined; scopes = sc; heap = heap; weak = weak }) tr) _
            (sym (move_is 53 call tr (drive_is 53)) ∙ make h.before (called r chain scopes) h.top h.entries h.current h.made (v.Text u) value fs tr top_at h.base h.weak_set_at h.states_at h.entries_at h.now_at few)
            (up x (record r { scopes = sc; heap = heap; weak = weak }) tr ∙ (ap (λ y. at (Given x) gs (record r { scopes = y; heap = heap; weak = weak }) tr) same ∙ ap (at (Given x) gs (record r { scopes = r.scopes ++ cells; heap = heap; weak = weak })) (sym (append_nil tr)))));
        within = within;
      }

  quits_by : (name : Value) → nat_le (suc h.made) greatest ≡ false
      → ((tr : List TraceEvent) → after_move m (drive before) tr ≡ takes (make_call (called r chain scopes) name value fs) tr)
      → before + 9 ≤ 300
      → Quits m 300
  quits_by name many down within =
      let call = make_call (called r chain scopes) name value fs in
      record {
        count = before + 9;
        by = λ tr.
            run_on (step plain) before 9 (takes m tr) (takes call tr) _
            (sym (move_is before m tr (drive_is before)) ∙ down tr)
            (sym (move_is 9 call tr (drive_is 9)) ∙ make_quits h.before (called r chain scopes) h.top h.current h.made name value fs tr top_at h.base h.now_at many);
        within = within;
      }

-- the statements behind the second test, and behind the third
abbrev named_part : t.Stmts
named_part = t.next (when (t.Binary o.NotSame (t.Unary u.Typeof (t.Named the_name)) (t.Text (codes "string"))) leaves) (t.next (returns (t.Call (t.Named name_make) (two (t.Named the_name) (t.Named the_value)))) t.end)

abbrev options_part : t.Stmts
options_part = t.next (const the_value (member (t.Named the_options) (codes "defaultValue"))) (t.next (const the_name (member (t.Named the_options) (codes "name"))) (t.next (when (t.Binary o.Same (t.Named the_name) t.Undefined) (make_unnamed (t.Named the_value))) named_part))

-- the chain in a block of the body, and its frames
abbrev block_chain : List (List Cell) → List Cell → List ℕ
block_chain scopes cells = length (scopes ++ cells ∷ []) ∷ length scopes ∷ 0 ∷ []

abbrev block_scopes : List (List Cell) → List Cell → List (List Cell)
block_scopes scopes cells = (scopes ++ cells ∷ []) ++ [] ∷ []

abbrev block_frames : Store → t.Stmts → List Frame → List Frame
block_frames r ss gs = ReturnFrame ∷ ListFrame t.end (length r.scopes ∷ 0 ∷ []) ∷ ListFrame ss (length r.scopes ∷ 0 ∷ []) ∷ CallFrame r.scope r.receiver ∷ gs

block_top : (r : Store) (h : Ready r) (cells : List Cell) → slice_get (block_scopes r.scopes cells) 0 ≡ Some h.top
block_top r h cells = get_front (r.scopes ++ cells ∷ []) _ 0 _ (get_front r.scopes _ 0 _ h.top_at)

block_own : (r : Store) (cells : List Cell) → slice_get (block_scopes r.scopes cells) (length r.scopes) ≡ Some cells
block_own r cells = get_front (r.scopes ++ cells ∷ []) _ (length r.scopes) _ (get_last r.scopes cells)

-- ALONE
alone_down : (r : Store) (ws : List Value) (gs : List Frame) (h : Ready r) (tr : List TraceEvent) → first ws ≡ v.Undefined → after_move (variable_call r ws gs) (drive 25) tr ≡ takes (make_call (called r (block_chain r.scopes (variable_cells v.Undefined None None)) (block_scopes r.scopes (variable_cells v.Undefined None None))) (v.Text []) v.Undefined (block_frames r options_part gs)) tr
alone_down r ws gs h tr e =
    let q = variable_binds ws in
    let c = variable_cells v.Undefined None None in
    let b = block_top r h c in
    let own = block_own r c in
    let make = h.base.make in
    let f = h.make_at in
    simp (q, e, get_last {A = List Cell}, own, b, make, f)

pub makes_alone_at : (r : Store) (ws : List Value) (gs : List Frame) (h : Ready r) → first ws ≡ v.Undefined → nat_le (suc h.made) greatest ≡ true → Makes r ws gs h.entries h.current h.made h.before [] v.Undefined
makes_alone_at r ws gs h e few =
    let c = variable_cells v.Undefined None None in
    record {
      cells = c ∷ [] ∷ make_cells (v.Text []) v.Undefined (Some (v.Num (pos (suc h.made)))) (Some (v.Thing (length r.heap))) ∷ [];
      leads = made_by r gs h (variable_call r ws gs) (block_chain r.scopes c) (block_scopes r.scopes c) (block_frames r options_part gs) v.Undefined (block_top r h c) 25 [] _ 4 few (simp append_assoc) (λ tr. alone_down r ws gs h tr e) (λ x s tr. refl) (omega arith);
    }

pub alone_quits_at : (r : Store) (ws : List Value) (gs : List Frame) (h : Ready r) → first ws ≡ v.Undefined → nat_le (suc h.made) greatest ≡ false → Quits (variable_call r ws gs) 300
alone_quits_at r ws gs h e many =
    let c = variable_cells v.Undefined None None in
    quits_by r gs h (variable_call r ws gs) (block_chain r.scopes c) (block_scopes r.scopes c) (block_frames r options_part gs) v.Undefined (block_top r h c) 25 (v.Text []) many (λ tr. alone_down r ws gs h tr e) (omega arith)

-- WITHOUT AN OBJECT OF OPTIONS
quit_by : (n : ℕ) (m : Move) → ((tr : List TraceEvent) → after_move m (drive n) tr ≡ stopped Left tr) → n ≤ 300 → Quits m 300
quit_by n m h short = record { count = n; by = λ tr. sym (move_is n m tr (drive_is n)) ∙ h tr; within = short }

pub null_quits_at : (r : Store) (ws : List Value) (gs : List Frame) → first ws ≡ v.Null → Quits (variable_call r ws gs) 300
null_quits_at r ws gs e =
    let q = variable_binds ws in
    quit_by 11 (variable_call r ws gs) (λ tr. simp (q, e, get_last {A = List Cell})) (omega arith)

-- a value whose option can't be read
pub unread_quits_at : (r : Store) (ws : List Value) (gs : List Frame) → same (first ws) v.Null ≡ false → same (first ws) v.Undefined ≡ false → get r.heap (first ws) (v.Text (codes "defaultValue")) ≡ g.Leaves → Quits (variable_call r ws gs) 300
unread_quits_at r ws gs n d e =
    let q = variable_binds ws in
    quit_by 21 (variable_call r ws gs) (λ tr. simp (q, n, d, e, get_last {A = List Cell})) (omega arith)

-- WITH OPTIONS
own : (key : List ℕ) (o : Option Value) → (if is_inherited key then g.Leaves else g.Value v.Undefined) ≡ g.Value v.Undefined → own_or o key ≡ g.Value (option_or o v.Undefined)
own key None e = e
own key (Some b) e = refl

own_name : (o : Option Value) → own_or o (codes "name") ≡ g.Value (option_or o v.Undefined)
own_name o = own (codes "name") o refl

own_default : (o : Option Value) → own_or o (codes "defaultValue") ≡ g.Value (option_or o v.Undefined)
own_default o = own (codes "defaultValue") o refl

abbrev option_cells : ℕ → List Prop → Option Value → List Cell
option_cells j qs name = variable_cells (v.Thing j) (Some (option_at (codes "defaultValue") qs)) name

abbrev end_frames : Store → List Frame → List Frame
end_frames r gs = ReturnFrame ∷ ListFrame t.end (length r.scopes ∷ 0 ∷ []) ∷ CallFrame r.scope r.receiver ∷ gs

module _ (r : Store) (ws : List Value) (gs : List Frame) (h : Ready r) (j : ℕ) (qs : List Prop) (e : first ws ≡ v.Thing j) (hp : slice_get r.heap j ≡ Some (Plain qs)) where
  unnamed_down : (tr : List TraceEvent) → option_at (codes "name") qs ≡ v.Undefined → after_move (variable_call r ws gs) (drive 45) tr ≡ takes (make_call (called r (block_chain r.scopes (option_cells j qs (Some v.Undefined))) (block_scopes r.scopes (option_cells j qs (Some v.Undefined)))) (v.Text []) (option_at (codes "defaultValue") qs) (block_frames r named_part gs)) tr
  unnamed_down tr nm =
      let q = variable_binds ws in
      let c = option_cells j qs (Some v.Undefined) in
      let d = own_default (prop_of (codes "defaultValue") qs) in
      let n = own_name (prop_of (codes "name") qs) in
      let b = block_top r h c in
      let own = block_own r c in
      let make = h.base.make in
      let f = h.make_at in
      simp (q, e, get_last {A = List Cell}, set_last {A = List Cell}, hp, d, n, nm, own, b, make, f)

  named_down : (u : List ℕ) (tr : List TraceEvent) → option_at (codes "name") qs ≡ v.Text u → after_move (variable_call r ws gs) (drive 55) tr ≡ takes (make_call (called r (length r.scopes ∷ 0 ∷ []) (r.scopes ++ option_cells j qs (Some (v.Text u)) ∷ [])) (v.Text u) (option_at (codes "defaultValue") qs) (end_frames r gs)) tr
  named_down u tr nm =
      let q = variable_binds ws in
      let c = option_cells j qs (Some (v.Text u)) in
      let d = own_default (prop_of (codes "defaultValue") qs) in
      let n = own_name (prop_of (codes "name") qs) in
      let b : slice_get (r.scopes ++ c ∷ []) 0 ≡ Some h.top = get_front r.scopes (c ∷ []) 0 _ h.top_at in
      let make = h.base.make in
      let f = h.make_at in
      simp (q, e, get_last {A = List Cell}, set_last {A = List Cell}, hp, d, n, nm, b, make, f)

  pub makes_unnamed_at : option_at (codes "name") qs ≡ v.Undefined → nat_le (suc h.made) greatest ≡ true → Makes r ws gs h.entries h.current h.made h.before [] (option_at (codes "defaultValue") qs)
  makes_unnamed_at nm few =
      let c = option_cells j qs (Some v.Undefined) in
      let value = option_at (codes "defaultValue") qs in
      record {
        cells = c ∷ [] ∷ make_cells (v.Text []) value (Some (v.Num (pos (suc h.made)))) (Some (v.Thing (length r.heap))) ∷ [];
        leads = made_by r gs h (variable_call r ws gs) (block_chain r.scopes c) (block_scopes r.scopes c) (block_frames r named_part gs) value (block_top r h c) 45 [] _ 4 few (simp append_assoc) (λ tr. unnamed_down tr nm) (λ x s tr. refl) (omega arith);
      }

  pub unnamed_quits_at : option_at (codes "name") qs ≡ v.Undefined → nat_le (suc h.made) greatest ≡ false → Quits (variable_call r ws gs) 300
  unnamed_quits_at nm many =
      let c = option_cells j qs (Some v.Undefined) in
      quits_by r gs h (variable_call r ws gs) (block_chain r.scopes c) (block_scopes r.scopes c) (block_frames r named_part gs) (option_at (codes "defaultValue") qs) (block_top r h c) 45 (v.Text []) many (λ tr. unnamed_down tr nm) (omega arith)

  pub makes_named_at : (u : List ℕ) → option_at (codes "name") qs ≡ v.Text u → nat_le (suc h.made) greatest ≡ true → Makes r ws gs h.entries h.current h.made h.before u (option_at (codes "defaultValue") qs)
  makes_named_at u nm few =
      let c = option_cells j qs (Some (v.Text u)) in
      let value = option_at (codes "defaultValue") qs in
      record {
        cells = c ∷ make_cells (v.Text u) value (Some (v.Num (pos (suc h.made)))) (Some (v.Thing (length r.heap))) ∷ [];
        leads = made_by r gs h (variable_call r ws gs) (length r.scopes ∷ 0 ∷ []) (r.scopes ++ c ∷ []) (end_frames r gs) value (get_front r.scopes (c ∷ []) 0 _ h.top_at) 55 u _ 3 few (simp append_assoc) (λ tr. named_down u tr nm) (λ x s tr. refl) (omega arith);
      }

  pub named_quits_at : (u : List ℕ) → option_at (codes "name") qs ≡ v.Text u → nat_le (suc h.made) greatest ≡ false → Quits (variable_call r ws gs) 300
  named_quits_at u nm many =
      let c = option_cells j qs (Some (v.Text u)) in
      quits_by r gs h (variable_call r ws gs) (length r.scopes ∷ 0 ∷ []) (r.scopes ++ c ∷ []) (end_frames r gs) (option_at (codes "defaultValue") qs) (get_front r.scopes (c ∷ []) 0 _ h.top_at) 55 (v.Text u) many (λ tr. named_down u tr nm) (omega arith)

  -- a name that is neither undefined nor a text
  pub no_name_quits_at : same (option_at (codes "name") qs) v.Undefined ≡ false → same_text (type_text r.heap (option_at (codes "name") qs)) (codes "string") ≡ false → Quits (variable_call r ws gs) 300
  no_name_quits_at nu nt =
      let q = variable_binds ws in
      let d = own_default (prop_of (codes "defaultValue") qs) in
      let n = own_name (prop_of (codes "name") qs) in
      quit_by 49 (variable_call r ws gs) (λ tr. simp (q, e, get_last {A = List Cell}, set_last {A = List Cell}, hp, d, n, nu, nt)) (omega arith)
