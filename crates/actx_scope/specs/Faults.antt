-- What a list of offences is answered by: its first.
use Rattle.std.specs.Prelude.{ℕ, List, [], ◌∷◌, Option, Some, None}
use Rattle.actx_grammar.specs.Static.{Offence, Kind, undeclared, twice, reserved, misplaced}
use Rattle.actx_scope.specs.declared.fault.CheckFault.{CheckFault}
use Rattle.actx_scope.specs.declared.fault.CheckFault.TheVariants.{Undeclared, Twice, Reserved, Misplaced}

abbrev pub fault_of_kind : Kind → ℕ → CheckFault
fault_of_kind undeclared n = Undeclared n
fault_of_kind twice n = Twice n
fault_of_kind reserved n = Reserved n
fault_of_kind misplaced n = Misplaced n

abbrev pub fault_of : Offence → CheckFault
fault_of o = fault_of_kind o.kind o.node

-- the fault that answers some offences
abbrev pub first_fault : List Offence → Option CheckFault
first_fault [] = None
first_fault (o ∷ os) = Some (fault_of o)

-- the first of two
abbrev pub first_some : Option CheckFault → Option CheckFault → Option CheckFault
first_some None b = b
first_some (Some f) b = Some f
