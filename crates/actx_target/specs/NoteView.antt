-- What the code of notes takes of values.
use Rattle.std.specs.Prelude.{ℕ, pos, Option, Some, None}
use Rattle.actx_data.specs.declared.value.Value.{Value}
use Rattle.actx_data.specs.declared.value.Value.TheVariants as v

-- the number of a value that is one from 0 up
abbrev pub counted : Value → Option ℕ
counted (v.Num (pos n)) = Some n
counted _ = None
