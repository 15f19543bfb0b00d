-- Reading and writing of properties, and equality (ECMA-262, 6.2.5.5, 6.2.5.6, 7.1.19, 7.2.15, 10.1 and 10.4.3).
use Rattle.std.specs.Prelude.{ℕ, pos, Bool, true, false, not, ◌||◌, nat_le, nat_eq, List, [], ◌∷◌, length, Option, Some, None, slice_get, slice_set, codes, if◌then◌else◌}
use Rattle.std.specs.Ordering.{int_eq}
use Rattle.std.specs.Fmt.{signed_decimal}
use Rattle.actx_data.specs.Number.{greatest}
use Rattle.actx_data.specs.declared.shown.ErrorName.{ErrorName}
use Rattle.actx_data.specs.declared.shown.ErrorName.TheVariants as n
use Rattle.actx_data.specs.declared.value.Value.{Value}
use Rattle.actx_data.specs.declared.value.Value.TheVariants as v
use Rattle.actx_heap.specs.Texts.{same_text, is_index, index_of}
use Rattle.actx_heap.specs.Things.{Prop, Thing, Plain, Listed, Failure, Function}
use Rattle.actx_heap.specs.declared.answers.Got.{Got}
use Rattle.actx_heap.specs.declared.answers.Got.TheVariants as g
use Rattle.actx_heap.specs.declared.answers.Put.{Put}
use Rattle.actx_heap.specs.declared.answers.Put.TheVariants as p

-- PROPERTIES OF A LIST
abbrev pub prop_of : List ℕ → List Prop → Option Value
prop_of key [] = None
prop_of key (q ∷ qs) = if same_text key q.key then Some q.value else prop_of key qs

-- a property keeps its place, and a new one goes last
abbrev pub with_prop : List ℕ → Value → List Prop → List Prop
with_prop key value [] = record { key = key; value = value } ∷ []
with_prop key value (q ∷ qs) = if same_text key q.key then record { key = q.key; value = value } ∷ qs else q ∷ with_prop key value qs

-- the properties of a list of names with their values, set in order
abbrev pub with_props : List (List ℕ × Value) → List Prop → List Prop
with_props [] qs = qs
with_props (e ∷ es) qs = with_props es (with_prop e.0 e.1 qs)

-- KEYS
-- the text that a key is: of a number its decimal text; other values are none (7.1.19 ToPropertyKey)
abbrev pub key_text : Value → Option (List ℕ)
key_text (v.Text u) = Some u
key_text (v.Num z) = Some (signed_decimal z)
key_text _ = None

-- the property that names an object's prototype, which is outside the profile
abbrev pub is_proto : List ℕ → Bool
is_proto key = same_text key (codes "__proto__")

-- the names of Object.prototype (20.1.3, B.2.2)
abbrev pub is_inherited : List ℕ → Bool
is_inherited key =
    same_text key (codes "constructor")
    || (same_text key (codes "hasOwnProperty")
    || (same_text key (codes "isPrototypeOf")
    || (same_text key (codes "propertyIsEnumerable")
    || (same_text key (codes "toLocaleString")
    || (same_text key (codes "toString")
    || (same_text key (codes "valueOf")
    || (same_text key (codes "__proto__")
    || (same_text key (codes "__defineGetter__")
    || (same_text key (codes "__defineSetter__")
    || (same_text key (codes "__lookupGetter__")
    || same_text key (codes "__lookupSetter__")))))))))))

-- READING
-- of an object: its own property, or undefined; a name of Object.prototype is outside the profile
abbrev pub own_or : Option Value → List ℕ → Got
own_or (Some value) key = g.Value value
own_or None key = if is_inherited key then g.Leaves else g.Value v.Undefined

-- of a thing whose names are fixed; `then` alone may be asked for and not be there
abbrev pub fixed_or : Option Value → List ℕ → Got
fixed_or (Some value) key = g.Value value
fixed_or None key = if same_text key (codes "then") then g.Value v.Undefined else g.Leaves

abbrev pub error_text : ErrorName → List ℕ
error_text n.Error = codes "Error"
error_text n.TypeError = codes "TypeError"
error_text n.RangeError = codes "RangeError"
error_text n.ReferenceError = codes "ReferenceError"

-- the properties of an error (20.5.3, 20.5.1.1)
abbrev pub failure_props : ErrorName → List ℕ → List Prop
failure_props name message = record { key = codes "name"; value = v.Text (error_text name) } ∷ record { key = codes "message"; value = v.Text message } ∷ []

abbrev pub get_thing : {C : Type 0} → Option (Thing C) → List ℕ → Got
get_thing (Some (Plain ps)) key = own_or (prop_of key ps) key
get_thing (Some (Listed ps)) key = fixed_or (prop_of key ps) key
get_thing (Some (Failure name message)) key = fixed_or (prop_of key (failure_props name message)) key
get_thing (Some (Function code)) key = fixed_or None key
get_thing None key = g.Leaves

abbrev pub number_of_units : ℕ → Got
number_of_units n = if nat_le n greatest then g.Value (v.Num (pos n)) else g.Leaves

-- a unit as a text of its own, and undefined past the end
abbrev pub unit_or : Option ℕ → Got
unit_or (Some c) = g.Value (v.Text (c ∷ []))
unit_or None = g.Value v.Undefined

-- of a text: its length and its units (22.1.4.1, 10.4.3.5)
abbrev pub get_text : List ℕ → List ℕ → Got
get_text u key =
    if same_text key (codes "length") then number_of_units (length u)
    else (if is_index key then unit_or (slice_get u (index_of key)) else g.Leaves)

-- of a value that is neither undefined nor null
abbrev pub get_from : {C : Type 0} → List (Thing C) → Value → Option (List ℕ) → Got
get_from heap (v.Text u) (Some key) = get_text u key
get_from heap (v.Thing k) (Some key) = get_thing (slice_get heap k) key
get_from heap _ _ = g.Leaves

-- the property of a value: undefined and null have none (13.3.2, 13.3.3)
abbrev pub get : {C : Type 0} → List (Thing C) → Value → Value → Got
get heap v.Undefined key = g.Throws
get heap v.Null key = g.Throws
get heap base key = get_from heap base (key_text key)

-- WRITING: the answer, and the heap that is then
-- an object's property is set, and any other thing stays as it is
abbrev pub put_thing : {C : Type 0} → Thing C → List ℕ → Value → Put × Thing C
put_thing (Plain ps) key value = (p.Done, Plain (with_prop key value ps))
put_thing thing key value = (p.Leaves, thing)

abbrev pub put_at : {C : Type 0} → Option (Thing C) → List (Thing C) → ℕ → List ℕ → Value → Put × List (Thing C)
put_at (Some (Plain ps)) heap k key value = (p.Done, slice_set heap k (Plain (with_prop key value ps)))
put_at _ heap k key value = (p.Leaves, heap)

abbrev pub put_in : {C : Type 0} → List (Thing C) → Value → Option (List ℕ) → Value → Put × List (Thing C)
put_in heap (v.Thing k) (Some key) value = if is_proto key then (p.Leaves, heap) else put_at (slice_get heap k) heap k key value
put_in heap _ _ value = (p.Leaves, heap)

-- an object's property is set; no other value takes one (13.15.2, 10.1.9)
abbrev pub put : {C : Type 0} → List (Thing C) → Value → Value → Value → Put × List (Thing C)
put heap v.Undefined key value = (p.Throws, heap)
put heap v.Null key value = (p.Throws, heap)
put heap base key value = put_in heap base (key_text key) value

-- FREEZING: a plain object becomes one whose properties stay (20.1.2.6)
abbrev pub frozen : {C : Type 0} → Thing C → Thing C
frozen (Plain ps) = Listed ps
frozen thing = thing

abbrev pub freeze_at : {C : Type 0} → Option (Thing C) → List (Thing C) → ℕ → List (Thing C)
freeze_at (Some thing) heap k = slice_set heap k (frozen thing)
freeze_at None heap k = heap

abbrev pub with_frozen : {C : Type 0} → List (Thing C) → ℕ → List (Thing C)
with_frozen heap k = freeze_at (slice_get heap k) heap k

-- EQUALITY: primitives by their values, things by their places (7.2.15 IsStrictlyEqual)
abbrev pub same : Value → Value → Bool
same v.Undefined v.Undefined = true
same v.Null v.Null = true
same (v.Truth true) (v.Truth b) = b
same (v.Truth false) (v.Truth b) = not b
same (v.Num x) (v.Num y) = int_eq x y
same (v.Text u) (v.Text w) = same_text u w
same (v.Thing k) (v.Thing j) = nat_eq k j
same _ _ = false
