-- What the code's answers stand for.
use Rattle.std.specs.Prelude.{◌≡◌, ℕ, List, Option, Some, None, Bool, true, false, if◌then◌else◌}
use Rattle.actx_data.specs.declared.value.Value.{Value}
use Rattle.actx_rules.specs.Operators as op
use Rattle.actx_rules.specs.Printing.{is_line, line_of}
use Rattle.actx_rules.specs.State.{Thing, Plain}
use Rattle.actx_rules.specs.Properties as p
use Rattle.actx_target.specs.declared.property.Setting.{Setting}
use Rattle.actx_target.specs.declared.property.Setting.TheVariants as w
use Rattle.actx_target.specs.declared.operators.Answer.{Answer}
use Rattle.actx_target.specs.declared.operators.Answer.TheVariants as a
use Rattle.actx_target.specs.declared.scope.Reading.{Reading}
use Rattle.actx_target.specs.declared.scope.Reading.TheVariants as r
use Rattle.actx_target.specs.declared.scope.Slot.{Slot}
use Rattle.actx_target.specs.declared.scope.Standing.{Standing}
use Rattle.actx_target.specs.declared.scope.Standing.TheVariants as t

-- nothing for a name that isn't declared, else the value that its slot has or has not
abbrev pub found_value : Option Slot → Option (Option Value)
found_value None = None
found_value (Some s) = Some s.value

abbrev pub reading_of : Reading → Option (Option Value)
reading_of r.Unbound = None
reading_of r.Unset = Some None
reading_of (r.Value v) = Some (Some v)

abbrev pub standing_of : Option Slot → Standing
standing_of None = t.Fixed
standing_of (Some s) = stands s.value s.constant
  where
    stands : Option Value → Bool → Standing
    stands None constant = t.Open constant
    stands (Some v) true = t.Fixed
    stands (Some v) false = t.Open false

abbrev pub answer_view : Answer → op.Answer
answer_view (a.Gives v) = op.Gives v
answer_view (a.Throws name) = op.Throws name
answer_view a.Leaves = op.Leaves

-- the line, where the values make one
abbrev pub line_found : List Thing → List Value → Option (List ℕ)
line_found heap vs = if is_line heap vs then Some (line_of heap vs) else None

-- how a property was set, with the heap that is then
abbrev pub put_view : Setting → List Thing → p.Put
put_view w.Done heap = p.PutDone heap
put_view w.Throws heap = p.PutThrows
put_view w.Leaves heap = p.PutLeaves

-- a thing with a property set, where that can be
abbrev pub with_put : Thing → List ℕ → Value → Option Thing
with_put (Plain ps) key v = Some (Plain (p.with_prop key v ps))
with_put _ key v = None

abbrev pub put_is : Bool → Thing → Option Thing
put_is true thing = Some thing
put_is false thing = None

abbrev pub put_answer : Bool → List Thing → p.Put
put_answer true heap = p.PutDone heap
put_answer false heap = p.PutLeaves

-- the heap stays as it was where an error is to be thrown
abbrev pub KeptAtThrow : Setting → List Thing → List Thing → Type 0
KeptAtThrow w.Throws old new = new ≡ old
KeptAtThrow w.Done old new = Unit {0}
KeptAtThrow w.Leaves old new = Unit {0}
