-- A variable is made: alone, with options, with a name; or the run leaves the profile.
use Rattle.std.proofs.Common.{◌≡◌, ℕ, suc, ◌+◌, ◌≤◌, true, false, List, [], ◌∷◌, ◌++◌, length, append_assoc, Option, Some, None, refl, sym, ap, ◌∙◌, arith}
use Rattle.std.specs.Prelude.{slice_get, pos, nat_le, codes}
use Rattle.actx_match.specs.Runs.{run}
use Rattle.actx_match.proofs.Runs.{run_on}
use Rattle.actx_match.proofs.Pairing.{get_front, get_last, set_last, append_nil}
use Rattle.actx_data.specs.Number.{greatest}
use Rattle.actx_data.specs.declared.trace.TraceEvent.{TraceEvent}
use Rattle.actx_data.specs.declared.value.Value.{Value}
use Rattle.actx_data.specs.declared.value.Value.TheVariants as v
use Rattle.actx_grammar.specs.declared.side.Side.TheVariants.{Plain as plain}
use Rattle.actx_grammar.specs.Tree as t
use Rattle.actx_rules.specs.Machine.{at, takes, step, call_thing, option_of}
use Rattle.actx_rules.specs.Operators.{Gives, Leaves, same}
use Rattle.actx_rules.specs.Prelude.{the_value, the_name, the_options, name_make, two}
use Rattle.actx_rules.specs.Properties.{prop_of, own_or, get}
use Rattle.actx_rules.specs.Related.{variable_thing_of}
use Rattle.actx_rules.specs.State.{Cell, Prop, Thing, Plain, Given, Move, Frame, ReturnFrame, ListFrame, CallFrame, Store, param}
use Rattle.actx_rules.specs.Laws.{Leads, Quits, Ready, Makes, option_at, IsNoName}
use Rattle.actx_rules.proofs.PreludeLaws.Drive.{drive, after_move, drive_is, move_is}
use Rattle.actx_rules.proofs.PreludeLaws.Refused.{const_cell}
use Rattle.actx_rules.proofs.PreludeLaws.Made.{make_call, make_cells, made_heap, make, make_quits}

abbrev variable_call : Store → List Value → List Frame → Move
variable_call r ws gs = call_thing plain (Some variable_thing_of) v.Undefined ws gs r

-- THE SHARED PART
abbrev called : Store → List ℕ → List (List Cell) → Store
called r chain scopes = record r { scope = chain; receiver = v.Undefined; scopes = scopes }

abbrev made_cells : Store → ℕ → List ℕ → Value → List Cell
made_cells r made u value = make_cells (v.Text u) value (Some (v.Num (pos (suc made)))) (Some (v.Thing (length r.heap)))

module _ (r : Store) (gs : List Frame) (h : Ready r) (m : Move) (chain : List ℕ) (scopes : List (List Cell)) (fs : List Frame) (value : Value) (top_at : slice_get scopes 0 ≡ Some h.top) (before : ℕ) where
  made_by : (u : List ℕ) (cells : List (List Cell)) (after : ℕ) → nat_le (suc h.made) greatest ≡ true
      → scopes ++ make_cells (v.Text u) value (Some (v.Num (pos (suc h.made)))) (Some (v.Thing (length r.heap))) ∷ [] ≡ r.scopes ++ cells
      → ((tr : List TraceEvent) → after_move m (drive before) tr ≡ takes (make_call (called r chain scopes) (v.Text u) value fs) tr)
      → ((x : Value) (sc : List (List Cell)) (heap : List Thing) (tr : List TraceEvent) → run (step plain) after (at (Given x) fs (record r { scope = chain; receiver = v.Undefined; scopes = sc; heap = heap }) tr) ≡ at (Given x) gs (record r { scopes = sc; heap = heap }) tr)
      → before + (53 + after) ≤ 300
      → Leads m 300 (Given (v.Thing (length r.heap))) gs (record r { scopes = r.scopes ++ cells; heap = made_heap r.heap h.entries h.current h.made (v.Text u) value }) []
  made_by u cells after few same down up within =
      let heap = made_heap r.heap h.entries h.current h.made (v.Text u) value in
      let x = v.Thing (length r.heap) in
      let sc = scopes ++ make_cells (v.Text u) value (Some (v.Num (pos (suc h.made)))) (Some x) ∷ [] in
      let call = make_call (called r chain scopes) (v.Text u) value fs in
      record {
        count = before + (53 + after);
        by = λ tr.
            run_on (step plain) before (53 + after) (takes m tr) (takes call tr) _
            (sym (move_is before m tr (drive_is before)) ∙ down tr)
            (run_on (step plain) 53 after (takes call tr) (at (Given x) fs (record r { scope = chain; receiver = v.Undefined; scopes = sc; heap = heap }) tr) _
            (sym (move_is 53 call tr (drive_is 53)) ∙ make (called r chain scopes) h.top h.entries h.current h.made (v.Text u) value fs tr top_at h.base h.weak_set_at h.states_at h.now_at few)
            (up x sc heap tr ∙ (ap (λ y. at (Given x) gs (record r { scopes = y; heap = heap }) tr) same ∙ ap (at (Given x) gs (record r { scopes = r.scopes ++ cells; heap = heap })) (sym (append_nil tr)))));
        within = within;
      }

  quits_by : (name : Value) → nat_le (suc h.made) greatest ≡ false
      → ((tr : List TraceEvent) → after_move m (drive before) tr ≡ takes (make_call (called r chain scopes) name value fs) tr)
      → before + 9 ≤ 300
      → Quits m 300
  quits_by name many down within =
      let call = make_call (called r chain scopes) name value fs in
      record {
        count = before + 9;
        by = λ tr.
            run_on (step plain) before 9 (takes m tr) (takes call tr) _
            (sym (move_is before m tr (drive_is before)) ∙ down tr)
            (sym (move_is 9 call tr (drive_is 9)) ∙ make_quits (called r chain scopes) h.top h.current h.made name value fs tr top_at h.base h.now_at many);
        within = within;
      }

-- ALONE
abbrev alone_cells : List (List Cell) → List (List Cell)
alone_cells scopes = scopes ++ (param the_options v.Undefined ∷ []) ∷ []

abbrev alone_frames : Store → List Frame → List Frame
alone_frames r gs = ReturnFrame ∷ ListFrame t.end (length r.scopes ∷ 0 ∷ []) ∷ CallFrame r.scope r.receiver ∷ gs

alone_top : (r : Store) (h : Ready r) → slice_get (alone_cells r.scopes) 0 ≡ Some h.top
alone_top r h = get_front r.scopes _ 0 _ h.top_at

alone_down : (r : Store) (gs : List Frame) (h : Ready r) (tr : List TraceEvent) → after_move (variable_call r [] gs) (drive 13) tr ≡ takes (make_call (called r (length r.scopes ∷ 0 ∷ []) (alone_cells r.scopes)) (v.Text []) v.Undefined (alone_frames r gs)) tr
alone_down r gs h tr =
    let b = alone_top r h in
    let make = h.base.make in
    let f = h.make_at in
    simp (get_last {A = List Cell}, b, make, f)

pub makes_alone_at : (r : Store) (gs : List Frame) (h : Ready r) → nat_le (suc h.made) greatest ≡ true → Makes r [] gs h.entries h.current h.made [] v.Undefined
makes_alone_at r gs h few =
    record {
      cells = (param the_options v.Undefined ∷ []) ∷ made_cells r h.made [] v.Undefined ∷ [];
      leads = made_by r gs h (variable_call r [] gs) (length r.scopes ∷ 0 ∷ []) (alone_cells r.scopes) (alone_frames r gs) v.Undefined (alone_top r h) 13 [] _ 3 few (simp append_assoc) (alone_down r gs h) (λ x sc heap tr. refl) (omega arith);
    }

pub alone_quits_at : (r : Store) (gs : List Frame) (h : Ready r) → nat_le (suc h.made) greatest ≡ false → Quits (variable_call r [] gs) 300
alone_quits_at r gs h many = quits_by r gs h (variable_call r [] gs) (length r.scopes ∷ 0 ∷ []) (alone_cells r.scopes) (alone_frames r gs) v.Undefined (alone_top r h) 13 (v.Text []) many (alone_down r gs h) (omega arith)

-- WITH OPTIONS
own : (o : Option Value) (a : Value) → option_of o ≡ a → own_or o (codes "name") ≡ Gives a
own None a e = ap Gives e
own (Some b) a e = ap Gives e

own_default : (o : Option Value) → own_or o (codes "defaultValue") ≡ Gives (option_of o)
own_default None = refl
own_default (Some b) = refl

abbrev option_cells : ℕ → List Cell
option_cells j = param the_options (v.Thing j) ∷ []

abbrev read_cells : Option Value → Option Value → List Cell
read_cells name value = const_cell the_name name ∷ const_cell the_value value ∷ []

-- the scopes of the call and of the block, and the chain in it
abbrev option_scopes : List (List Cell) → ℕ → Option Value → Option Value → List (List Cell)
option_scopes scopes j name value = (scopes ++ option_cells j ∷ []) ++ read_cells name value ∷ []

abbrev option_chain : List (List Cell) → ℕ → List ℕ
option_chain scopes j = length (scopes ++ option_cells j ∷ []) ∷ length scopes ∷ 0 ∷ []

-- what stands in the two scopes
module _ (r : Store) (h : Ready r) (j : ℕ) (name value : Option Value) where
  option_top : slice_get (option_scopes r.scopes j name value) 0 ≡ Some h.top
  option_top = get_front (r.scopes ++ option_cells j ∷ []) _ 0 _ (get_front r.scopes _ 0 _ h.top_at)

  option_own : slice_get (option_scopes r.scopes j name value) (length r.scopes) ≡ Some (option_cells j)
  option_own = get_front (r.scopes ++ option_cells j ∷ []) _ (length r.scopes) _ (get_last r.scopes (option_cells j))

abbrev last_return : t.Stmts
last_return = t.next (t.Return (t.some_expr (t.Call (t.Named name_make) (two (t.Text []) t.Undefined)))) t.end

abbrev named_rest : t.Stmts
named_rest = t.next (t.Value (t.Member (t.Named the_name) (t.Dot (codes "length")))) (t.next (t.Return (t.some_expr (t.Call (t.Named name_make) (two (t.Named the_name) (t.Named the_value))))) t.end)

-- a name that is given: its length is read
abbrev named_frames : Store → List Frame → List Frame
named_frames r gs = ReturnFrame ∷ ListFrame t.end (length r.scopes ∷ 0 ∷ []) ∷ ListFrame last_return (length r.scopes ∷ 0 ∷ []) ∷ CallFrame r.scope r.receiver ∷ gs

named_down : (r : Store) (gs : List Frame) (h : Ready r) (j : ℕ) (qs : List Prop) (u : List ℕ) (tr : List TraceEvent) → slice_get r.heap j ≡ Some (Plain qs) → option_at (codes "name") qs ≡ v.Text u → nat_le (length u) greatest ≡ true
    → after_move (variable_call r (v.Thing j ∷ []) gs) (drive 39) tr ≡ takes (make_call (called r (option_chain r.scopes j) (option_scopes r.scopes j (Some (v.Text u)) (Some (option_at (codes "defaultValue") qs)))) (v.Text u) (option_at (codes "defaultValue") qs) (named_frames r gs)) tr
named_down r gs h j qs u tr has is short =
    let a = v.Text u in
    let d = option_at (codes "defaultValue") qs in
    let o0 = option_own r h j None None in
    let o1 = option_own r h j (Some a) None in
    let o2 = option_own r h j (Some a) (Some d) in
    let b2 = option_top r h j (Some a) (Some d) in
    let reads = own (prop_of (codes "name") qs) a is in
    let more = own_default (prop_of (codes "defaultValue") qs) in
    let make = h.base.make in
    let f = h.make_at in
    simp (get_last {A = List Cell}, set_last {A = List Cell}, o0, o1, o2, b2, has, reads, more, short, make, f)

pub makes_named_at : (r : Store) (gs : List Frame) (h : Ready r) (j : ℕ) (qs : List Prop) (u : List ℕ) → slice_get r.heap j ≡ Some (Plain qs) → option_at (codes "name") qs ≡ v.Text u → nat_le (length u) greatest ≡ true → nat_le (suc h.made) greatest ≡ true → Makes r (v.Thing j ∷ []) gs h.entries h.current h.made u (option_at (codes "defaultValue") qs)
makes_named_at r gs h j qs u has is short few =
    let d = option_at (codes "defaultValue") qs in
    let a = Some (v.Text u) in
    record {
      cells = option_cells j ∷ read_cells a (Some d) ∷ made_cells r h.made u d ∷ [];
      leads = made_by r gs h (variable_call r (v.Thing j ∷ []) gs) (option_chain r.scopes j) (option_scopes r.scopes j a (Some d)) (named_frames r gs) d (option_top r h j a (Some d)) 39 u _ 4 few (simp append_assoc) (λ tr. named_down r gs h j qs u tr has is short) (λ x sc heap tr. refl) (omega arith);
    }

pub named_quits_at : (r : Store) (gs : List Frame) (h : Ready r) (j : ℕ) (qs : List Prop) (u : List ℕ) → slice_get r.heap j ≡ Some (Plain qs) → option_at (codes "name") qs ≡ v.Text u → nat_le (length u) greatest ≡ true → nat_le (suc h.made) greatest ≡ false → Quits (variable_call r (v.Thing j ∷ []) gs) 300
named_quits_at r gs h j qs u has is short many =
    let d = option_at (codes "defaultValue") qs in
    let a = Some (v.Text u) in
    quits_by r gs h (variable_call r (v.Thing j ∷ []) gs) (option_chain r.scopes j) (option_scopes r.scopes j a (Some d)) (named_frames r gs) d (option_top r h j a (Some d)) 39 (v.Text u) many (λ tr. named_down r gs h j qs u tr has is short) (omega arith)

-- no name is given
abbrev unnamed_scopes : Store → ℕ → Value → List (List Cell)
unnamed_scopes r j d = option_scopes r.scopes j (Some v.Undefined) (Some d) ++ [] ∷ []

abbrev unnamed_chain : Store → ℕ → Value → List ℕ
unnamed_chain r j d = length (option_scopes r.scopes j (Some v.Undefined) (Some d)) ∷ option_chain r.scopes j

abbrev unnamed_frames : Store → ℕ → List Frame → List Frame
unnamed_frames r j gs = ReturnFrame ∷ ListFrame t.end (option_chain r.scopes j) ∷ ListFrame named_rest (length r.scopes ∷ 0 ∷ []) ∷ ListFrame last_return (length r.scopes ∷ 0 ∷ []) ∷ CallFrame r.scope r.receiver ∷ gs

unnamed_top : (r : Store) (h : Ready r) (j : ℕ) (d : Value) → slice_get (unnamed_scopes r j d) 0 ≡ Some h.top
unnamed_top r h j d = get_front (option_scopes r.scopes j (Some v.Undefined) (Some d)) _ 0 _ (option_top r h j (Some v.Undefined) (Some d))

unnamed_down : (r : Store) (gs : List Frame) (h : Ready r) (j : ℕ) (qs : List Prop) (tr : List TraceEvent) → slice_get r.heap j ≡ Some (Plain qs) → option_at (codes "name") qs ≡ v.Undefined
    → after_move (variable_call r (v.Thing j ∷ []) gs) (drive 33) tr ≡ takes (make_call (called r (unnamed_chain r j (option_at (codes "defaultValue") qs)) (unnamed_scopes r j (option_at (codes "defaultValue") qs))) (v.Text []) (option_at (codes "defaultValue") qs) (unnamed_frames r j gs)) tr
unnamed_down r gs h j qs tr has is =
    let d = option_at (codes "defaultValue") qs in
    let u = Some v.Undefined in
    let s1 = r.scopes ++ option_cells j ∷ [] in
    let s2 = option_scopes r.scopes j u (Some d) in
    let o0 = option_own r h j None None in
    let o1 = option_own r h j u None in
    let o3 : slice_get (s2 ++ [] ∷ []) (length r.scopes) ≡ Some (option_cells j) = get_front s2 ([] ∷ []) (length r.scopes) _ (option_own r h j u (Some d)) in
    let own3 : slice_get (s2 ++ [] ∷ []) (length s1) ≡ Some (read_cells u (Some d)) = get_front s2 ([] ∷ []) (length s1) _ (get_last s1 (read_cells u (Some d))) in
    let b3 = unnamed_top r h j d in
    let reads = own (prop_of (codes "name") qs) v.Undefined is in
    let more = own_default (prop_of (codes "defaultValue") qs) in
    let make = h.base.make in
    let f = h.make_at in
    simp (get_last {A = List Cell}, set_last {A = List Cell}, o0, o1, o3, own3, b3, has, reads, more, make, f)

pub makes_unnamed_at : (r : Store) (gs : List Frame) (h : Ready r) (j : ℕ) (qs : List Prop) → slice_get r.heap j ≡ Some (Plain qs) → option_at (codes "name") qs ≡ v.Undefined → nat_le (suc h.made) greatest ≡ true → Makes r (v.Thing j ∷ []) gs h.entries h.current h.made [] (option_at (codes "defaultValue") qs)
makes_unnamed_at r gs h j qs has is few =
    let d = option_at (codes "defaultValue") qs in
    record {
      cells = option_cells j ∷ read_cells (Some v.Undefined) (Some d) ∷ [] ∷ made_cells r h.made [] d ∷ [];
      leads = made_by r gs h (variable_call r (v.Thing j ∷ []) gs) (unnamed_chain r j d) (unnamed_scopes r j d) (unnamed_frames r j gs) d (unnamed_top r h j d) 33 [] _ 5 few (simp append_assoc) (λ tr. unnamed_down r gs h j qs tr has is) (λ x sc heap tr. refl) (omega arith);
    }

pub unnamed_quits_at : (r : Store) (gs : List Frame) (h : Ready r) (j : ℕ) (qs : List Prop) → slice_get r.heap j ≡ Some (Plain qs) → option_at (codes "name") qs ≡ v.Undefined → nat_le (suc h.made) greatest ≡ false → Quits (variable_call r (v.Thing j ∷ []) gs) 300
unnamed_quits_at r gs h j qs has is many =
    let d = option_at (codes "defaultValue") qs in
    quits_by r gs h (variable_call r (v.Thing j ∷ []) gs) (unnamed_chain r j d) (unnamed_scopes r j d) (unnamed_frames r j gs) d (unnamed_top r h j d) 33 (v.Text []) many (λ tr. unnamed_down r gs h j qs tr has is) (omega arith)

-- a name that is no text, or one that is too long
no_undefined : (heap : List Thing) (name : Value) → get heap name (codes "length") ≡ Leaves → same name v.Undefined ≡ false
no_undefined heap v.Undefined e = absurd (cc)
no_undefined heap v.Null e = absurd (cc)
no_undefined heap (v.Truth true) e = refl
no_undefined heap (v.Truth false) e = refl
no_undefined heap (v.Num z) e = refl
no_undefined heap (v.Text u) e = refl
no_undefined heap (v.Thing k) e = refl

pub no_name_quits_at : (r : Store) (gs : List Frame) (h : Ready r) (j : ℕ) (qs : List Prop) (name : Value) → slice_get r.heap j ≡ Some (Plain qs) → option_at (codes "name") qs ≡ name → IsNoName r name → Quits (variable_call r (v.Thing j ∷ []) gs) 300
no_name_quits_at r gs h j qs name has is none =
    let d = option_at (codes "defaultValue") qs in
    let o0 = option_own r h j None None in
    let o1 = option_own r h j (Some name) None in
    let reads = own (prop_of (codes "name") qs) name is in
    let more = own_default (prop_of (codes "defaultValue") qs) in
    let differs = no_undefined r.heap name none in
    record {
      count = 29;
      by = λ tr. sym (move_is 29 (variable_call r (v.Thing j ∷ []) gs) tr (drive_is 29)) ∙ simp (get_last {A = List Cell}, set_last {A = List Cell}, o0, o1, has, reads, more, differs, none);
      within = omega arith;
    }
