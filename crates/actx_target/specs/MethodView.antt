-- What the code of calls takes of things and arguments.
use Rattle.std.specs.Prelude.{ℕ, Bool, true, false, List, Option, Some, None, ◌≡◌, slice_get, slice_set}
use Rattle.actx_data.specs.declared.shown.ErrorName.TheVariants.{TypeError}
use Rattle.actx_data.specs.declared.value.Value.{Value}
use Rattle.actx_data.specs.declared.value.Value.TheVariants as v
use Rattle.actx_ast.specs.View.{stmts_view}
use Rattle.actx_target.specs.Chains.{chain_of}
use Rattle.actx_rules.specs.Machine.{throws}
use Rattle.actx_rules.specs.Operators as op
use Rattle.actx_rules.specs.Properties.{with_entry, entry_at}
use Rattle.actx_rules.specs.State as m
use Rattle.actx_rules.specs.State.{option_or}
use Rattle.actx_target.specs.ThingView.{method_of}
use Rattle.actx_target.specs.declared.machine.calls.Callee.{Callee}
use Rattle.actx_target.specs.declared.machine.calls.Callee.TheVariants as e

-- a function is called as it is, and any other thing as none
abbrev pub called : Option m.Thing → Option m.Thing
called (Some (m.Closure kind xs ss scope kept)) = Some (m.Closure kind xs ss scope kept)
called (Some (m.Native method)) = Some (m.Native method)
called _ = None

abbrev pub callee_view : Callee → Option m.Thing
callee_view (e.Closure f scope kept) = Some (m.Closure f.now.kind f.now.params.items (stmts_view f.now.body.items) (chain_of scope) kept)
callee_view (e.Native method) = Some (m.Native (method_of method))
callee_view e.Other = None

-- the argument at a place, from 0
abbrev pub argument : List Value → ℕ → Value
argument vs i = option_or (slice_get vs i) v.Undefined

-- a WeakMap's get
abbrev pub weak_answer : Option m.Thing → List Value → op.Answer
weak_answer (Some (m.Weak es)) vs = op.Gives (entry_at (argument vs 0) es)
weak_answer _ vs = op.Throws TypeError

-- a WeakMap's set: the thing, and the heap, with the entry
abbrev pub with_weak : m.Thing → ℕ → Value → Option m.Thing
with_weak (m.Weak es) k x = Some (m.Weak (with_entry k x es))
with_weak _ k x = None

abbrev pub set_in_heap : Option m.Thing → List m.Thing → ℕ → Option (List m.Thing)
set_in_heap (Some thing) heap w = Some (slice_set heap w thing)
set_in_heap None heap w = None

abbrev pub weak_put : Option m.Thing → List m.Thing → ℕ → ℕ → Value → Option (List m.Thing)
weak_put (Some thing) heap w k x = set_in_heap (with_weak thing k x) heap w
weak_put None heap w k x = None

abbrev pub entry_set : Option (List m.Thing) → ℕ → List m.Frame → m.Store → m.Move
entry_set (Some heap) w fs s = m.Goes (m.Given (v.Thing w)) fs (m.with_heap s heap)
entry_set None w fs s = throws TypeError fs s

abbrev pub set_entry : Option m.Thing → ℕ → Value → Value → List m.Frame → m.Store → m.Move
set_entry o w (v.Thing k) x fs s = entry_set (weak_put o s.heap w k x) w fs s
set_entry o w _ x fs s = throws TypeError fs s

-- what stays as it was where nothing was done
abbrev pub Kept : {A : Type 0} → Bool → A → A → Type 0
Kept false old new = new ≡ old
Kept true old new = Unit {0}

abbrev pub done_in : {A : Type 0} → Bool → A → Option A
done_in true a = Some a
done_in false a = None

-- a plain object, frozen
abbrev pub frozen_thing : m.Thing → Option m.Thing
frozen_thing (m.Plain ps) = Some (m.Listed ps)
frozen_thing _ = None
