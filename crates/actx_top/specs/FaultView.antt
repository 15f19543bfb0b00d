-- What the code's faults stand for.
use Rattle.actx_top.specs.Answers as f
use Rattle.actx_top.specs.declared.fault.Fault.{Fault}
use Rattle.actx_top.specs.declared.fault.Fault.TheVariants as v

abbrev pub fault_view : Fault → f.Fault
fault_view v.BadWords = f.BadWords
fault_view (v.Refused name number place) = f.Refused name.now number place.line place.column
fault_view (v.ThrewValue shown) = f.ThrewValue shown.now
fault_view v.LeftProfile = f.LeftProfile
fault_view v.StillGoing = f.StillGoing
fault_view (v.CannotRead name) = f.CannotRead name.now
fault_view v.CannotWrite = f.CannotWrite
fault_view v.OutOfMemory = f.OutOfMemory
