-- The rows of the built-in forms, and those of the methods that the machines bring along (20.1.2.6, 20.2.3.3, 20.5, 24.3, TC39 AsyncContext).
use Rattle.std.specs.Prelude.{ℕ, suc, Bool, true, false, nat_le, List, [], ◌∷◌, ◌++◌, length, Option, Some, None, slice_get, slice_set, codes, if◌then◌else◌}
use Rattle.actx_data.specs.Number.{greatest}
use Rattle.actx_data.specs.declared.end.End.TheVariants.{Left}
use Rattle.actx_data.specs.declared.shown.ErrorName.{ErrorName}
use Rattle.actx_data.specs.declared.shown.ErrorName.TheVariants.{TypeError}
use Rattle.actx_data.specs.declared.trace.TraceEvent.TheVariants.{Out, Get}
use Rattle.actx_data.specs.declared.value.Value.{Value}
use Rattle.actx_data.specs.declared.value.Value.TheVariants as v
use Rattle.actx_grammar.specs.declared.side.Side.{Side}
use Rattle.actx_grammar.specs.declared.side.Side.TheVariants as side
use Rattle.actx_grammar.specs.declared.operators.Form.{Form}
use Rattle.actx_grammar.specs.declared.operators.Form.TheVariants.{Log, NewVariable, NewError, QueueMicrotask, NewWeakMap, Freeze, CallWith, Note, On, Leave}
use Rattle.actx_heap.specs.Things.{Thing, Plain, Listed, Failure}
use Rattle.actx_heap.specs.Properties.{prop_of}
use Rattle.actx_agent.specs.Mapping.{with_mapped}
use Rattle.actx_table.specs.Operators.{primitive_text}
use Rattle.actx_table.specs.Scopes.{option_or}
use Rattle.actx_table.specs.State.{Code, Method, VariableGet, VariableRun, WeakMapGet, WeakMapSet, Call, Frame, MappingFrame, Given, Variable, Entry, Store, Move, Goes, Writes, Stops}
use Rattle.actx_table.specs.Answers.{gives, makes, throws, code_of, with_heap}
use Rattle.actx_table.specs.Agent.{mapped_or, this_variable, variable_props, weak_props, entry_at, with_entry, this_weak, with_weak, with_callback}
use Rattle.actx_table.specs.Showing.{is_line, line_of, show, more_shown}
use Rattle.actx_table.specs.Notes.{Noted, note}

-- LISTS OF ARGUMENTS
abbrev pub first : List Value → Value
first [] = v.Undefined
first (v ∷ vs) = v

abbrev pub rest : List Value → List Value
rest [] = []
rest (v ∷ vs) = vs

-- METHODS
-- a variable's get
abbrev pub gets : Option Variable → List Frame → Store → Move
gets None fs s = throws TypeError fs s
gets (Some x) fs s =
    Writes (Get x.number (show s.heap (more_shown s.shown (mapped_or x s.mapping)) (mapped_or x s.mapping)))
    (Given (mapped_or x s.mapping)) fs (record s { shown = more_shown s.shown (mapped_or x s.mapping) })

-- a variable's run: its value, a function, and the arguments of the function
abbrev pub runs : Option Variable → List Value → List Frame → Store → Move
runs None vs fs s = throws TypeError fs s
runs (Some x) vs fs s =
    Goes (Call (first (rest vs)) v.Undefined (rest (rest vs))) (MappingFrame s.mapping s.scope s.receiver ∷ fs)
    (record s { mapping = with_mapped x.number (first vs) s.mapping })

abbrev pub weak_gets : Option (List Entry) → List Value → List Frame → Store → Move
weak_gets (Some es) vs fs s = gives (entry_at (first vs) es) fs s
weak_gets None vs fs s = throws TypeError fs s

-- a key that is no thing is refused; else the map is the value
abbrev pub weak_sets : Option (List Entry) → Value → List Value → List Frame → Store → Move
weak_sets (Some es) (v.Thing w) (v.Thing k ∷ vs) fs s = gives (v.Thing w) fs (record s { weak = with_weak w (with_entry k (first vs) es) s.weak })
weak_sets _ w vs fs s = throws TypeError fs s

-- a method of the other side is outside the profile
abbrev pub method : Side → Method → Value → List Value → List Frame → Store → Move
method side.Source VariableGet r vs fs s = gets (this_variable r s.variables) fs s
method side.Source VariableRun r vs fs s = runs (this_variable r s.variables) vs fs s
method side.Plain WeakMapGet r vs fs s = weak_gets (this_weak r s.weak) vs fs s
method side.Plain WeakMapSet r vs fs s = weak_sets (this_weak r s.weak) r vs fs s
method _ _ r vs fs s = Stops Left

-- FORMS
-- console.log
abbrev pub log : List Value → List Frame → Store → Move
log vs fs s = if is_line s.heap vs then Writes (Out (line_of s.heap vs)) (Given v.Undefined) fs s else Stops Left

-- new Error and its like: without a message, with undefined, or with a primitive value (20.5.1.1)
abbrev pub error_of : ErrorName → Option (List ℕ) → List Frame → Store → Move
error_of name (Some message) fs s = makes (Failure name message) fs s
error_of name None fs s = Stops Left

abbrev pub error_form : ErrorName → List Value → List Frame → Store → Move
error_form name [] fs s = makes (Failure name []) fs s
error_form name (v.Undefined ∷ vs) fs s = makes (Failure name []) fs s
error_form name (a ∷ vs) fs s = error_of name (primitive_text a) fs s

-- a new variable with the next number
abbrev pub new_variable : List ℕ → Value → List Frame → Store → Move
new_variable name default fs s =
    if nat_le (suc (length s.variables)) greatest
    then makes (Listed (variable_props name)) fs (record s { variables = s.variables ++ record { place = length s.heap; number = suc (length s.variables); default = default } ∷ [] })
    else Stops Left

-- a name is a text, and by default the empty one; an option that is undefined counts as absent
abbrev pub named_variable : Value → Value → List Frame → Store → Move
named_variable v.Undefined default fs s = new_variable [] default fs s
named_variable (v.Text u) default fs s = new_variable u default fs s
named_variable _ default fs s = Stops Left

abbrev pub variable_of : Option (Thing Code) → List Frame → Store → Move
variable_of (Some (Plain ps)) fs s = named_variable (option_or (prop_of (codes "name") ps) v.Undefined) (option_or (prop_of (codes "defaultValue") ps) v.Undefined) fs s
variable_of _ fs s = Stops Left

-- new AsyncContext.Variable, without options or with an object of options
abbrev pub variable_form : List Value → List Frame → Store → Move
variable_form [] fs s = new_variable [] v.Undefined fs s
variable_form (v.Undefined ∷ []) fs s = new_variable [] v.Undefined fs s
variable_form (v.Thing k ∷ []) fs s = variable_of (slice_get s.heap k) fs s
variable_form _ fs s = Stops Left

-- queueMicrotask: a function waits as a job
abbrev pub queued : Option Code → Value → List Frame → Store → Move
queued (Some code) f fs s = gives v.Undefined fs (record s { jobs = s.jobs ++ f ∷ [] })
queued None f fs s = throws TypeError fs s

-- new WeakMap
abbrev pub new_weak : List Frame → Store → Move
new_weak fs s = makes (Listed weak_props) fs (record s { weak = s.weak ++ record { place = length s.heap; entries = [] } ∷ [] })

-- Object.freeze of an object
abbrev pub froze : Option (Thing Code) → ℕ → List Frame → Store → Move
froze (Some (Plain ps)) k fs s = gives (v.Thing k) fs (with_heap s (slice_set s.heap k (Listed ps)))
froze _ k fs s = Stops Left

abbrev pub freeze_form : List Value → List Frame → Store → Move
freeze_form (v.Thing k ∷ []) fs s = froze (slice_get s.heap k) k fs s
freeze_form _ fs s = Stops Left

-- f.call: the task is a call, whose row is a step of its own
abbrev pub call_with : List Value → List Frame → Store → Move
call_with [] fs s = Stops Left
call_with (f ∷ vs) fs s = Goes (Call f (first vs) (rest vs)) fs s

-- __actx.note
abbrev pub noted : Option Noted → List Frame → Store → Move
noted (Some n) fs s = Writes n.event (Given v.Undefined) fs (record s { shown = n.shown })
noted None fs s = Stops Left

-- __actx.on: the callback of a host event
abbrev pub registered : Option Code → List ℕ → Value → List Frame → Store → Move
registered (Some code) name f fs s = gives v.Undefined fs (record s { callbacks = with_callback name f s.callbacks })
registered None name f fs s = Stops Left

abbrev pub on_form : List Value → List Frame → Store → Move
on_form (v.Text name ∷ f ∷ []) fs s = registered (code_of s.heap f) name f fs s
on_form _ fs s = Stops Left

-- the forms of a side
abbrev pub has_form : Side → Form → Bool
has_form side Log = true
has_form side (NewError name) = true
has_form side CallWith = true
has_form side.Source NewVariable = true
has_form side.Plain QueueMicrotask = true
has_form side.Plain NewWeakMap = true
has_form side.Plain Freeze = true
has_form side.Plain Note = true
has_form side.Plain On = true
has_form side.Plain Leave = true
has_form _ _ = false

-- what is done with the values of a form's parts
abbrev pub form_rule : Form → List Value → List Frame → Store → Move
form_rule Log vs fs s = log vs fs s
form_rule (NewError name) vs fs s = error_form name vs fs s
form_rule NewVariable vs fs s = variable_form vs fs s
form_rule QueueMicrotask vs fs s = queued (code_of s.heap (first vs)) (first vs) fs s
form_rule NewWeakMap vs fs s = new_weak fs s
form_rule Freeze vs fs s = freeze_form vs fs s
form_rule CallWith vs fs s = call_with vs fs s
form_rule Note vs fs s = noted (note s.heap s.shown vs) fs s
form_rule On vs fs s = on_form vs fs s
form_rule _ vs fs s = Stops Left
