-- What the prelude's functions do: each law starts from the move of the call, under any frames.
use Rattle.std.specs.Prelude.{◌≡◌, ℕ, suc, ◌*◌, ◌≤◌, true, false, nat_le, List, [], ◌∷◌, ◌++◌, length, Some, None, slice_get, slice_set, codes}
use Rattle.actx_match.specs.Runs.{run}
use Rattle.actx_data.specs.Number.{greatest}
use Rattle.actx_data.specs.declared.end.End.TheVariants.{Left}
use Rattle.actx_data.specs.declared.shown.ErrorName.TheVariants.{TypeError}
use Rattle.actx_data.specs.declared.trace.TraceEvent.{TraceEvent}
use Rattle.actx_data.specs.declared.trace.TraceEvent.TheVariants.{Get}
use Rattle.actx_data.specs.declared.value.Value.{Value}
use Rattle.actx_data.specs.declared.value.Value.TheVariants as v
use Rattle.actx_grammar.specs.declared.side.Side.TheVariants.{Plain as plain}
use Rattle.actx_rules.specs.Agent.{mapped_or, with_mapped}
use Rattle.actx_rules.specs.Machine.{at, takes, step, stopped, first, rest, option_of, call_thing}
use Rattle.actx_rules.specs.Prelude.{name_now, the_old}
use Rattle.actx_rules.specs.Operators.{Leaves}
use Rattle.actx_rules.specs.Properties.{prop_of, get, entry_at, with_entry, show, more_shown}
use Rattle.actx_rules.specs.Related.{World, ValueIs, MappingIs, IsBase, now_record, state_record, find_thing, with_thing_of, get_thing_of, run_thing_of, make_thing_of, variable_thing_of, running}
use Rattle.actx_rules.specs.State.{Throw, Cell, Prop, Entry, WeakMapGet, WeakMapSet, Thing, Plain, Listed, Failure, Native, Weak, Task, Given, Done, Call, Mapped, Frame, Store, Move, with_thing, cell_of}

-- a move leads on within so many steps, whatever was written before, and writes these events
pub record Leads (m : Move) (limit : ℕ) (task : Task) (fs : List Frame) (s : Store) (es : List TraceEvent) : Type 0 where
  pub count : ℕ
  pub by : (tr : List TraceEvent) → run (step plain) count (takes m tr) ≡ at task fs s (tr ++ es)
  pub within : count ≤ limit

-- a move leads out of the profile
pub record Quits (m : Move) (limit : ℕ) : Type 0 where
  pub count : ℕ
  pub by : (tr : List TraceEvent) → run (step plain) count (takes m tr) ≡ stopped Left tr
  pub within : count ≤ limit

-- a store of the target's in which the prelude has run
pub record Ready (r : Store) : Type 0 where
  pub top : List Cell
  pub top_at : slice_get r.scopes 0 ≡ Some top
  pub base : IsBase top
  pub entries : List Entry
  pub states_at : slice_get r.heap 2 ≡ Some (Weak entries)
  pub current : Value
  pub made : ℕ
  pub now_at : slice_get r.heap 3 ≡ Some (now_record current made)
  pub weak_get_at : slice_get r.heap 0 ≡ Some (Native WeakMapGet)
  pub weak_set_at : slice_get r.heap 1 ≡ Some (Native WeakMapSet)
  pub find_at : slice_get r.heap 4 ≡ Some find_thing
  pub with_at : slice_get r.heap 5 ≡ Some with_thing_of
  pub make_at : slice_get r.heap 8 ≡ Some make_thing_of
  pub variable_at : slice_get r.heap 9 ≡ Some variable_thing_of

-- a call of get or run for what is no variable throws
pub record Refuses (f : Thing) (r : Store) (self : Value) (ws : List Value) (gs : List Frame) : Type 0 where
  pub cells : List (List Cell)
  pub leads : Leads (call_thing plain (Some f) self ws gs r) 100 (Done (Throw (v.Thing (length r.heap)))) gs (record (with_thing r (Failure TypeError [])) { scopes = r.scopes ++ cells }) []

-- GET: the value in place is answered, and noted
pub record Gets (w : World) (r : Store) (self : Value) (ws : List Value) (gs : List Frame) (n : ℕ) (ms : List Mapped) (old : Value) : Type 0 where
  pub value : Value
  pub is : ValueIs w old value
  pub cells : List (List Cell)
  pub leads : Leads (call_thing plain (Some get_thing_of) self ws gs r) (100 * suc (length ms)) (Given value) gs (record r { scopes = r.scopes ++ cells; shown = more_shown r.shown value }) (Get n (show r.heap (more_shown r.shown value) value) ∷ [])

-- the six values that run hands on
abbrev pub six : List Value → List Value
six vs = first vs ∷ first (rest vs) ∷ first (rest (rest vs)) ∷ first (rest (rest (rest vs))) ∷ first (rest (rest (rest (rest vs)))) ∷ first (rest (rest (rest (rest (rest vs))))) ∷ []

-- things that stay as they are
abbrev pub AreFixed : List Thing → Type 0
AreFixed [] = Unit {0}
AreFixed (Listed ps ∷ things) = AreFixed things
AreFixed (_ ∷ things) = ⊥

-- RUN, ENTERED: the new mapping is in place, the function is about to be called; k is the scope of the call of run
pub record Enters (w : World) (r : Store) (self : Value) (ws : List Value) (gs : List Frame) (n : ℕ) (ms : List Mapped) (value current : Value) (made : ℕ) : Type 0 where
  pub cells : List (List Cell)
  pub nodes : List Thing
  pub fixed : AreFixed nodes
  pub mapping : Value
  pub is : MappingIs w (r.heap ++ nodes) (with_mapped n value ms) mapping
  pub scope : ℕ
  pub chain : List ℕ
  pub own : List Cell
  pub new : length r.scopes ≤ scope
  pub has : slice_get (r.scopes ++ cells) scope ≡ Some own
  pub old : cell_of the_old own ≡ Some (record { name = the_old; value = Some current; constant = true })
  pub free : cell_of name_now own ≡ None
  pub leads : Leads (call_thing plain (Some run_thing_of) self ws gs r) (200 * suc (length ms)) (Call (first (rest ws)) v.Undefined (six (rest (rest ws)))) (running scope r.scope r.receiver gs)
      (record r { scope = chain; receiver = self; scopes = r.scopes ++ cells; heap = slice_set (r.heap ++ nodes) 3 (now_record mapping made) }) []

-- RUN, LEFT by a value or a throw: the old mapping is in place again, in whatever store the function left
pub data Comes : Task → Type 0 where
  comes_value : (a : Value) → Comes (Given a)
  comes_throw : (a : Value) → Comes (Done (Throw a))

pub record Departs (r : Store) (task : Task) (k : ℕ) (c : List ℕ) (y : Value) (gs : List Frame) (old : Value) (made : ℕ) : Type 0 where
  pub cells : List (List Cell)
  pub count : ℕ
  pub by : (tr : List TraceEvent) → run (step plain) (suc count) (at task (running k c y gs) r tr) ≡ at task gs (record r { scope = c; receiver = y; scopes = r.scopes ++ cells; heap = slice_set r.heap 3 (now_record old made) }) tr
  pub within : count ≤ 100

-- A VARIABLE IS MADE: its methods, its name, and its state
abbrev pub made_props : Value → List Prop
made_props name = record { key = codes "get"; value = v.Thing 6 } ∷ record { key = codes "run"; value = v.Thing 7 } ∷ record { key = codes "name"; value = name } ∷ []

pub record Makes (r : Store) (ws : List Value) (gs : List Frame) (entries : List Entry) (current : Value) (made : ℕ) (name : List ℕ) (default : Value) : Type 0 where
  pub cells : List (List Cell)
  pub leads : Leads (call_thing plain (Some variable_thing_of) v.Undefined ws gs r) 300 (Given (v.Thing (length r.heap))) gs
      (record r { scopes = r.scopes ++ cells; heap = slice_set (slice_set ((r.heap ++ Listed (made_props (v.Text name)) ∷ []) ++ state_record (suc made) default ∷ []) 3 (now_record current (suc made))) 2 (Weak (with_entry (length r.heap) (v.Thing (suc (length r.heap))) entries)) }) []

-- the value of an option
abbrev pub option_at : List ℕ → List Prop → Value
option_at key ps = option_of (prop_of key ps)

-- a name whose length is outside the profile is no text
abbrev pub IsNoName : Store → Value → Type 0
IsNoName r name = get r.heap name (codes "length") ≡ Leaves

pub record Laws : Type 0 where
  pub get_refuses : (r : Store) (self : Value) (ws : List Value) (gs : List Frame) (h : Ready r) → entry_at self h.entries ≡ v.Undefined → Refuses get_thing_of r self ws gs
  pub run_refuses : (r : Store) (self : Value) (ws : List Value) (gs : List Frame) (h : Ready r) → entry_at self h.entries ≡ v.Undefined → Refuses run_thing_of r self ws gs
  pub gets : (w : World) (r : Store) (self : Value) (ws : List Value) (gs : List Frame) (h : Ready r) (k n : ℕ) (d e : Value) (ms : List Mapped) → entry_at self h.entries ≡ v.Thing k → slice_get r.heap k ≡ Some (state_record n e) → ValueIs w d e → MappingIs w r.heap ms h.current → Gets w r self ws gs n ms (mapped_or n d ms)
  pub enters : (w : World) (r : Store) (self : Value) (ws : List Value) (gs : List Frame) (h : Ready r) (k n : ℕ) (a e : Value) (ms : List Mapped) → entry_at self h.entries ≡ v.Thing k → slice_get r.heap k ≡ Some (state_record n e) → ValueIs w a (first ws) → MappingIs w r.heap ms h.current → Enters w r self ws gs n ms a h.current h.made
  pub departs : (r : Store) (task : Task) (k : ℕ) (c : List ℕ) (y : Value) (gs : List Frame) (old : Value) (h : Ready r) (cells : List Cell) → Comes task → slice_get r.scopes k ≡ Some cells → cell_of the_old cells ≡ Some (record { name = the_old; value = Some old; constant = true }) → cell_of name_now cells ≡ None → Departs r task k c y gs old h.made
  -- a variable without options, and with options that have no name, a name, or something else for one
  pub makes_alone : (r : Store) (gs : List Frame) (h : Ready r) → nat_le (suc h.made) greatest ≡ true → Makes r [] gs h.entries h.current h.made [] v.Undefined
  pub makes_unnamed : (r : Store) (gs : List Frame) (h : Ready r) (j : ℕ) (qs : List Prop) → slice_get r.heap j ≡ Some (Plain qs) → option_at (codes "name") qs ≡ v.Undefined → nat_le (suc h.made) greatest ≡ true → Makes r (v.Thing j ∷ []) gs h.entries h.current h.made [] (option_at (codes "defaultValue") qs)
  pub makes_named : (r : Store) (gs : List Frame) (h : Ready r) (j : ℕ) (qs : List Prop) (u : List ℕ) → slice_get r.heap j ≡ Some (Plain qs) → option_at (codes "name") qs ≡ v.Text u → nat_le (length u) greatest ≡ true → nat_le (suc h.made) greatest ≡ true → Makes r (v.Thing j ∷ []) gs h.entries h.current h.made u (option_at (codes "defaultValue") qs)
  pub no_name_quits : (r : Store) (gs : List Frame) (h : Ready r) (j : ℕ) (qs : List Prop) (name : Value) → slice_get r.heap j ≡ Some (Plain qs) → option_at (codes "name") qs ≡ name → IsNoName r name → Quits (call_thing plain (Some variable_thing_of) v.Undefined (v.Thing j ∷ []) gs r) 300
  -- one variable too many
  pub alone_quits : (r : Store) (gs : List Frame) (h : Ready r) → nat_le (suc h.made) greatest ≡ false → Quits (call_thing plain (Some variable_thing_of) v.Undefined [] gs r) 300
  pub unnamed_quits : (r : Store) (gs : List Frame) (h : Ready r) (j : ℕ) (qs : List Prop) → slice_get r.heap j ≡ Some (Plain qs) → option_at (codes "name") qs ≡ v.Undefined → nat_le (suc h.made) greatest ≡ false → Quits (call_thing plain (Some variable_thing_of) v.Undefined (v.Thing j ∷ []) gs r) 300
  pub named_quits : (r : Store) (gs : List Frame) (h : Ready r) (j : ℕ) (qs : List Prop) (u : List ℕ) → slice_get r.heap j ≡ Some (Plain qs) → option_at (codes "name") qs ≡ v.Text u → nat_le (length u) greatest ≡ true → nat_le (suc h.made) greatest ≡ false → Quits (call_thing plain (Some variable_thing_of) v.Undefined (v.Thing j ∷ []) gs r) 300
