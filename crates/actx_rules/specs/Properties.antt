-- Reading and writing of properties, and what is shown of a value (ECMA-262, 10.1, 13.3.2 and 24.3, restricted).
use Rattle.std.specs.Prelude.{ℕ, pos, ◌+◌, Bool, true, false, ◌||◌, nat_le, nat_eq, List, [], ◌∷◌, ◌++◌, length, Option, Some, None, slice_get, slice_set, codes, if◌then◌else◌}
use Rattle.actx_data.specs.Number.{greatest}
use Rattle.actx_data.specs.declared.shown.ErrorName.{ErrorName}
use Rattle.actx_data.specs.declared.shown.ErrorName.TheVariants as n
use Rattle.actx_data.specs.declared.shown.Shown.{Shown}
use Rattle.actx_data.specs.declared.shown.Shown.TheVariants as h
use Rattle.actx_data.specs.declared.value.Value.{Value}
use Rattle.actx_data.specs.declared.value.Value.TheVariants as v
use Rattle.actx_rules.specs.Texts.{same_text}
use Rattle.actx_rules.specs.Operators.{Answer, Gives, Throws, Leaves}
use Rattle.actx_rules.specs.State.{Prop, Entry, Thing, Plain, Listed, Failure, Closure, Native, Weak, option_or}

-- PROPERTIES OF A LIST
abbrev pub prop_of : List ℕ → List Prop → Option Value
prop_of key [] = None
prop_of key (p ∷ ps) = if same_text key p.key then Some p.value else prop_of key ps

-- a property keeps its place, and a new one goes last
abbrev pub with_prop : List ℕ → Value → List Prop → List Prop
with_prop key v [] = record { key = key; value = v } ∷ []
with_prop key v (p ∷ ps) = if same_text key p.key then record { key = p.key; value = v } ∷ ps else p ∷ with_prop key v ps

-- the properties of a literal: each key in order has its value
abbrev pub with_props : List (List ℕ) → List Value → List Prop → List Prop
with_props (key ∷ keys) (v ∷ vs) ps = with_props keys vs (with_prop key v ps)
with_props _ _ ps = ps

-- the property that names an object's prototype, which is outside the profile
abbrev pub is_proto : List ℕ → Bool
is_proto key = same_text key (codes "__proto__")

abbrev pub any_proto : List (List ℕ) → Bool
any_proto [] = false
any_proto (key ∷ keys) = if is_proto key then true else any_proto keys

-- the names of Object.prototype (20.1.3, B.2.2)
abbrev pub is_inherited : List ℕ → Bool
is_inherited key =
    same_text key (codes "constructor")
    || (same_text key (codes "hasOwnProperty")
    || (same_text key (codes "isPrototypeOf")
    || (same_text key (codes "propertyIsEnumerable")
    || (same_text key (codes "toLocaleString")
    || (same_text key (codes "toString")
    || (same_text key (codes "valueOf")
    || (same_text key (codes "__proto__")
    || (same_text key (codes "__defineGetter__")
    || (same_text key (codes "__defineSetter__")
    || (same_text key (codes "__lookupGetter__")
    || same_text key (codes "__lookupSetter__")))))))))))

-- READING
abbrev pub own_or : Option Value → List ℕ → Answer
own_or (Some v) key = Gives v
own_or None key = if is_inherited key then Leaves else Gives v.Undefined

-- of a thing whose names are fixed; `then` alone may be asked for and not be there
abbrev pub fixed_or : Option Value → List ℕ → Answer
fixed_or (Some v) key = Gives v
fixed_or None key = if same_text key (codes "then") then Gives v.Undefined else Leaves

abbrev pub error_text : ErrorName → List ℕ
error_text n.Error = codes "Error"
error_text n.TypeError = codes "TypeError"
error_text n.RangeError = codes "RangeError"
error_text n.ReferenceError = codes "ReferenceError"

abbrev pub failure_props : ErrorName → List ℕ → List Prop
failure_props name message = record { key = codes "name"; value = v.Text (error_text name) } ∷ record { key = codes "message"; value = v.Text message } ∷ []

-- the methods of every WeakMap, which stand at the first places of the heap
abbrev pub weak_props : List Prop
weak_props = record { key = codes "get"; value = v.Thing 0 } ∷ record { key = codes "set"; value = v.Thing 1 } ∷ []

abbrev pub get_thing : Option Thing → List ℕ → Answer
get_thing (Some (Plain ps)) key = own_or (prop_of key ps) key
get_thing (Some (Listed ps)) key = fixed_or (prop_of key ps) key
get_thing (Some (Failure name message)) key = fixed_or (prop_of key (failure_props name message)) key
get_thing (Some (Closure kind xs ss scope receiver)) key = fixed_or None key
get_thing (Some (Native method)) key = fixed_or None key
get_thing (Some (Weak es)) key = fixed_or (prop_of key weak_props) key
get_thing None key = Leaves

abbrev pub number_of_units : ℕ → Answer
number_of_units n = if nat_le n greatest then Gives (v.Num (pos n)) else Leaves

abbrev pub get_text : List ℕ → List ℕ → Answer
get_text u key = if same_text key (codes "length") then number_of_units (length u) else Leaves

-- the property of a value whose key stands after a dot
abbrev pub get : List Thing → Value → List ℕ → Answer
get heap v.Undefined key = Throws n.TypeError
get heap v.Null key = Throws n.TypeError
get heap (v.Truth b) key = Leaves
get heap (v.Num z) key = Leaves
get heap (v.Text u) key = get_text u key
get heap (v.Thing k) key = get_thing (slice_get heap k) key

-- WRITING
pub data Put : Type 0 where
  PutDone : (heap : List Thing) → Put
  PutThrows : Put
  PutLeaves : Put

abbrev pub put_thing : Option Thing → List Thing → ℕ → List ℕ → Value → Put
put_thing (Some (Plain ps)) heap k key v = PutDone (slice_set heap k (Plain (with_prop key v ps)))
put_thing _ heap k key v = PutLeaves

abbrev pub put : List Thing → Value → List ℕ → Value → Put
put heap v.Undefined key v = PutThrows
put heap v.Null key v = PutThrows
put heap (v.Thing k) key v = if is_proto key then PutLeaves else put_thing (slice_get heap k) heap k key v
put heap _ key v = PutLeaves

-- FREEZING: a plain object becomes one whose properties stay (20.1.2.6)
abbrev pub frozen : Option Thing → List Thing → ℕ → Option (List Thing)
frozen (Some (Plain ps)) heap k = Some (slice_set heap k (Listed ps))
frozen _ heap k = None

-- WEAK MAPS (24.3.3)
abbrev pub entry_of : ℕ → List Entry → Option Value
entry_of k [] = None
entry_of k (e ∷ es) = if nat_eq k e.place then Some e.value else entry_of k es

abbrev pub with_entry : ℕ → Value → List Entry → List Entry
with_entry k v [] = record { place = k; value = v } ∷ []
with_entry k v (e ∷ es) = if nat_eq k e.place then record { place = e.place; value = v } ∷ es else e ∷ with_entry k v es

-- the value for a key; a key that is no thing has none
abbrev pub entry_at : Value → List Entry → Value
entry_at (v.Thing k) es = option_or (entry_of k es) v.Undefined
entry_at _ es = v.Undefined

-- SHOWING
-- the place of a thing in the list of things shown, from n up
abbrev pub place_in : ℕ → ℕ → List ℕ → ℕ
place_in n k [] = n
place_in n k (j ∷ js) = if nat_eq k j then n else place_in (n + 1) k js

abbrev pub is_in : ℕ → List ℕ → Bool
is_in k [] = false
is_in k (j ∷ js) = if nat_eq k j then true else is_in k js

abbrev pub show_thing : Option Thing → ℕ → Shown
show_thing (Some (Failure name message)) n = h.Failure n name message
show_thing _ n = h.Object n

-- a value as it is shown: the k-th distinct thing has the number k
abbrev pub show : List Thing → List ℕ → Value → Shown
show heap js v.Undefined = h.Undefined
show heap js v.Null = h.Null
show heap js (v.Truth b) = h.Truth b
show heap js (v.Num z) = h.Num z
show heap js (v.Text u) = h.Text u
show heap js (v.Thing k) = show_thing (slice_get heap k) (place_in 1 k js)

-- the things shown, with this value
abbrev pub more_shown : List ℕ → Value → List ℕ
more_shown js (v.Thing k) = if is_in k js then js else js ++ k ∷ []
more_shown js _ = js
