-- What the prelude's functions do: each law starts from the move of the call, under any frames.
use Rattle.std.specs.Prelude.{◌≡◌, ℕ, Bool, suc, ◌+◌, ◌*◌, ◌≤◌, true, false, nat_le, List, [], ◌∷◌, ◌++◌, length, Some, None, slice_get, slice_set, codes}
use Rattle.actx_match.specs.Runs.{run}
use Rattle.actx_data.specs.Number.{greatest}
use Rattle.actx_data.specs.declared.end.End.TheVariants.{Left}
use Rattle.actx_data.specs.declared.shown.ErrorName.TheVariants.{TypeError}
use Rattle.actx_data.specs.declared.trace.TraceEvent.{TraceEvent}
use Rattle.actx_data.specs.declared.trace.TraceEvent.TheVariants.{Get}
use Rattle.actx_data.specs.declared.value.Value.{Value}
use Rattle.actx_data.specs.declared.value.Value.TheVariants as v
use Rattle.actx_grammar.specs.declared.side.Side.TheVariants.{Plain as plain}
use Rattle.actx_heap.specs.Things.{Prop, Thing, Plain, Listed, Failure}
use Rattle.actx_heap.specs.Texts.{same_text}
use Rattle.actx_heap.specs.Properties.{prop_of, get, same}
use Rattle.actx_heap.specs.declared.answers.Got.TheVariants as g
use Rattle.actx_table.specs.Operators.{type_text}
use Rattle.actx_agent.specs.Mapping.{mapped, with_mapped}
use Rattle.actx_table.specs.Agent.{entry_at, with_entry, with_weak}
use Rattle.actx_table.specs.Answers.{with_thing}
use Rattle.actx_table.specs.Expressions.{call_code}
use Rattle.actx_table.specs.Forms.{first, rest}
use Rattle.actx_table.specs.Machine.{at, takes, step, stopped, start}
use Rattle.actx_table.specs.Prelude.{name_now, the_old, prelude}
use Rattle.actx_table.specs.PreludeState.{now_record, state_record, get_code, run_code, variable_code, MappingIs, running, Ready}
use Rattle.actx_table.specs.Scopes.{option_or, cell_of, fixed_cell}
use Rattle.actx_table.specs.Showing.{show, more_shown}
use Rattle.actx_table.specs.State.{Normal, Throw, Cell, Code, Entry, Weak, Task, Given, Done, Call, Frame, Store, Move}

-- a move leads on within so many steps, whatever was written before, and writes these events
pub record Leads (m : Move) (limit : ℕ) (task : Task) (fs : List Frame) (s : Store) (es : List TraceEvent) : Type 0 where
  pub count : ℕ
  pub by : (tr : List TraceEvent) → run (step plain) count (takes m tr) ≡ at task fs s (tr ++ es)
  pub within : count ≤ limit

-- a move leads out of the profile
pub record Quits (m : Move) (limit : ℕ) : Type 0 where
  pub count : ℕ
  pub by : (tr : List TraceEvent) → run (step plain) count (takes m tr) ≡ stopped Left tr
  pub within : count ≤ limit

-- a call throws a TypeError, and leaves nothing behind but scopes
pub record Refuses (f : Code) (r : Store) (self : Value) (ws : List Value) (gs : List Frame) : Type 0 where
  pub cells : List (List Cell)
  pub leads : Leads (call_code plain (Some f) self ws gs r) 100 (Done (Throw (v.Thing (length r.heap)))) gs (record (with_thing r (Failure TypeError [])) { scopes = r.scopes ++ cells }) []

-- GET: the value in place is answered, and noted
pub record Gets (R : Value → Value → Type 0) (r : Store) (self : Value) (ws : List Value) (gs : List Frame) (n : ℕ) (ms : List (ℕ × Value)) (old : Value) : Type 0 where
  pub value : Value
  pub is : R old value
  pub cells : List (List Cell)
  pub leads : Leads (call_code plain (Some get_code) self ws gs r) (100 * suc (length ms)) (Given value) gs (record r { scopes = r.scopes ++ cells; shown = more_shown r.shown value }) (Get n (show r.heap (more_shown r.shown value) value) ∷ [])

-- the six values that run hands on
abbrev pub six : List Value → List Value
six vs = first vs ∷ first (rest vs) ∷ first (rest (rest vs)) ∷ first (rest (rest (rest vs))) ∷ first (rest (rest (rest (rest vs)))) ∷ first (rest (rest (rest (rest (rest vs))))) ∷ []

-- things that stay as they are
abbrev pub AreFixed : List (Thing Code) → Type 0
AreFixed [] = Unit {0}
AreFixed (Listed ps ∷ things) = AreFixed things
AreFixed (_ ∷ things) = ⊥

-- RUN, ENTERED: the new mapping is in place, the function is about to be called; k is the scope of the call of run
pub record Enters (R : Value → Value → Type 0) (r : Store) (self : Value) (ws : List Value) (gs : List Frame) (n : ℕ) (ms : List (ℕ × Value)) (value current : Value) (made before : ℕ) : Type 0 where
  pub cells : List (List Cell)
  pub nodes : List (Thing Code)
  pub fixed : AreFixed nodes
  pub mapping : Value
  pub is : MappingIs R (r.heap ++ nodes) (with_mapped n value ms) mapping
  pub scope : ℕ
  pub chain : List ℕ
  pub own : List Cell
  pub new : length r.scopes ≤ scope
  pub has : slice_get (r.scopes ++ cells) scope ≡ Some own
  pub old : cell_of the_old own ≡ Some (fixed_cell the_old current)
  pub free : cell_of name_now own ≡ None
  pub leads : Leads (call_code plain (Some run_code) self ws gs r) (200 * suc (length ms)) (Call (first (rest ws)) v.Undefined (six (rest (rest ws)))) (running scope r.scope r.receiver gs)
      (record r { scope = chain; receiver = self; scopes = r.scopes ++ cells; heap = slice_set (r.heap ++ nodes) (3 + before) (now_record mapping made) }) []

-- RUN, LEFT by a value or a throw: the old mapping is in place again, in whatever store the function left
pub data Comes : Task → Type 0 where
  comes_value : (a : Value) → Comes (Given a)
  comes_throw : (a : Value) → Comes (Done (Throw a))

pub record Departs (r : Store) (task : Task) (k : ℕ) (c : List ℕ) (y : Value) (gs : List Frame) (old : Value) (made before : ℕ) : Type 0 where
  pub cells : List (List Cell)
  pub count : ℕ
  pub by : (tr : List TraceEvent) → run (step plain) (suc count) (at task (running k c y gs) r tr) ≡ at task gs (record r { scope = c; receiver = y; scopes = r.scopes ++ cells; heap = slice_set r.heap (3 + before) (now_record old made) }) tr
  pub within : count ≤ 100

-- A VARIABLE IS MADE: its methods, its name, and its state
abbrev pub made_props : ℕ → Value → List Prop
made_props before name = record { key = codes "get"; value = v.Thing (6 + before) } ∷ record { key = codes "run"; value = v.Thing (7 + before) } ∷ record { key = codes "name"; value = name } ∷ []

abbrev pub made_heap : ℕ → List (Thing Code) → Value → ℕ → Value → Value → List (Thing Code)
made_heap before heap current made name value = slice_set ((heap ++ Listed (made_props before name) ∷ []) ++ state_record (suc made) value ∷ []) (3 + before) (now_record current (suc made))

abbrev pub made_weak : ℕ → Store → List Entry → List Weak
made_weak before r entries = with_weak (2 + before) (with_entry (length r.heap) (v.Thing (suc (length r.heap))) entries) r.weak

pub record Makes (r : Store) (ws : List Value) (gs : List Frame) (entries : List Entry) (current : Value) (made before : ℕ) (name : List ℕ) (default : Value) : Type 0 where
  pub cells : List (List Cell)
  pub leads : Leads (call_code plain (Some variable_code) v.Undefined ws gs r) 300 (Given (v.Thing (length r.heap))) gs
      (record r { scopes = r.scopes ++ cells; heap = made_heap before r.heap current made (v.Text name) default; weak = made_weak before r entries }) []

-- the value of an option
abbrev pub option_at : List ℕ → List Prop → Value
option_at key qs = option_or (prop_of key qs) v.Undefined

-- THE LAWS, of a mapping whose values are what its entries have
abbrev pub Equal : Value → Value → Type 0
Equal a b = a ≡ b

-- whether a value can be called, as the prelude asks
abbrev pub is_callable : Store → Value → Bool
is_callable r f = same_text (type_text r.heap f) (codes "function")

pub record Laws : Type 0 where
  pub get_refuses : (r : Store) (self : Value) (ws : List Value) (gs : List Frame) (h : Ready r) → entry_at self h.entries ≡ v.Undefined → Refuses get_code r self ws gs
  pub run_refuses : (r : Store) (self : Value) (ws : List Value) (gs : List Frame) (h : Ready r) → entry_at self h.entries ≡ v.Undefined → Refuses run_code r self ws gs
  -- and so is what can't be called
  pub run_refuses_callee : (r : Store) (self : Value) (ws : List Value) (gs : List Frame) (h : Ready r) (k n : ℕ) (e : Value) → entry_at self h.entries ≡ v.Thing k → slice_get r.heap k ≡ Some (state_record n e) → is_callable r (first (rest ws)) ≡ false → Refuses run_code r self ws gs
  pub gets : (r : Store) (self : Value) (ws : List Value) (gs : List Frame) (h : Ready r) (k n : ℕ) (e : Value) (ms : List (ℕ × Value)) → entry_at self h.entries ≡ v.Thing k → slice_get r.heap k ≡ Some (state_record n e) → MappingIs Equal r.heap ms h.current → Gets Equal r self ws gs n ms (option_or (mapped n ms) e)
  pub enters : (r : Store) (self : Value) (ws : List Value) (gs : List Frame) (h : Ready r) (k n : ℕ) (e : Value) (ms : List (ℕ × Value)) → entry_at self h.entries ≡ v.Thing k → slice_get r.heap k ≡ Some (state_record n e) → is_callable r (first (rest ws)) ≡ true → MappingIs Equal r.heap ms h.current → Enters Equal r self ws gs n ms (first ws) h.current h.made h.before
  pub departs : (r : Store) (task : Task) (k : ℕ) (c : List ℕ) (y : Value) (gs : List Frame) (old : Value) (h : Ready r) (cells : List Cell) → Comes task → slice_get r.scopes k ≡ Some cells → cell_of the_old cells ≡ Some (fixed_cell the_old old) → cell_of name_now cells ≡ None → Departs r task k c y gs old h.made h.before
  -- a variable without options
  pub makes_alone : (r : Store) (ws : List Value) (gs : List Frame) (h : Ready r) → first ws ≡ v.Undefined → nat_le (suc h.made) greatest ≡ true → Makes r ws gs h.entries h.current h.made h.before [] v.Undefined
  -- with an object of options that has no name, and one that has
  pub makes_unnamed : (r : Store) (ws : List Value) (gs : List Frame) (h : Ready r) (j : ℕ) (qs : List Prop) → first ws ≡ v.Thing j → slice_get r.heap j ≡ Some (Plain qs) → option_at (codes "name") qs ≡ v.Undefined → nat_le (suc h.made) greatest ≡ true → Makes r ws gs h.entries h.current h.made h.before [] (option_at (codes "defaultValue") qs)
  pub makes_named : (r : Store) (ws : List Value) (gs : List Frame) (h : Ready r) (j : ℕ) (qs : List Prop) → first ws ≡ v.Thing j → slice_get r.heap j ≡ Some (Plain qs) → (u : List ℕ) → option_at (codes "name") qs ≡ v.Text u → nat_le (suc h.made) greatest ≡ true → Makes r ws gs h.entries h.current h.made h.before u (option_at (codes "defaultValue") qs)
  -- what is no object of options, a name that is no text, and one variable too many leave the profile
  pub null_quits : (r : Store) (ws : List Value) (gs : List Frame) → first ws ≡ v.Null → Quits (call_code plain (Some variable_code) v.Undefined ws gs r) 300
  pub unread_quits : (r : Store) (ws : List Value) (gs : List Frame) → same (first ws) v.Null ≡ false → same (first ws) v.Undefined ≡ false → get r.heap (first ws) (v.Text (codes "defaultValue")) ≡ g.Leaves → Quits (call_code plain (Some variable_code) v.Undefined ws gs r) 300
  pub no_name_quits : (r : Store) (ws : List Value) (gs : List Frame) (h : Ready r) (j : ℕ) (qs : List Prop) → first ws ≡ v.Thing j → slice_get r.heap j ≡ Some (Plain qs) → same (option_at (codes "name") qs) v.Undefined ≡ false → same_text (type_text r.heap (option_at (codes "name") qs)) (codes "string") ≡ false → Quits (call_code plain (Some variable_code) v.Undefined ws gs r) 300
  pub alone_quits : (r : Store) (ws : List Value) (gs : List Frame) (h : Ready r) → first ws ≡ v.Undefined → nat_le (suc h.made) greatest ≡ false → Quits (call_code plain (Some variable_code) v.Undefined ws gs r) 300
  pub unnamed_quits : (r : Store) (ws : List Value) (gs : List Frame) (h : Ready r) (j : ℕ) (qs : List Prop) → first ws ≡ v.Thing j → slice_get r.heap j ≡ Some (Plain qs) → option_at (codes "name") qs ≡ v.Undefined → nat_le (suc h.made) greatest ≡ false → Quits (call_code plain (Some variable_code) v.Undefined ws gs r) 300
  pub named_quits : (r : Store) (ws : List Value) (gs : List Frame) (h : Ready r) (j : ℕ) (qs : List Prop) → first ws ≡ v.Thing j → slice_get r.heap j ≡ Some (Plain qs) → (u : List ℕ) → option_at (codes "name") qs ≡ v.Text u → nat_le (suc h.made) greatest ≡ false → Quits (call_code plain (Some variable_code) v.Undefined ws gs r) 300

-- the prelude's own list, run before any program, leaves a store that these laws speak of, and nothing is seen of it
pub record Begins (r : Store) : Type 0 where
  pub count : ℕ
  pub by : run (step plain) count (start plain prelude []) ≡ at (Done Normal) [] r []
  pub ready : Ready r
