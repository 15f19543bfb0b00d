-- Values of the profile.
use Rattle.std.specs.Prelude.{Bool, true}
use Rattle.actx_data.specs.Number.{is_whole}
use Rattle.actx_data.specs.declared.value.Value.{Value}
use Rattle.actx_data.specs.declared.value.Value.TheVariants.{Num}

-- a number is within the range; every other value is sound
abbrev pub is_sound : Value → Bool
is_sound (Num z) = is_whole z
is_sound _ = true
