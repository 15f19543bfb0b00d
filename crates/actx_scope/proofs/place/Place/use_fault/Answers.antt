use Rattle.std.proofs.Common.{◌∙◌, ap, sym}
use Rattle.actx_scope.specs.Faults.{first_fault}
use Rattle.actx_scope.specs.Places.{seen}
use Rattle.actx_scope.proofs.NameLists.{used_found, used_lost}
use Rattle.actx_scope.proofs.place.Place.use_fault.Goals as goal

pub returns-in-Some : goal.returns-in-Some
returns-in-Some c = sym (ap first_fault (used_found (seen c.args.self.now) c.args.at c.args.name.now c.in-Some.field-0 (sym c.is_unusable.ensures ∙ c.if-is_unusable.false) (sym c.in-Some.ensures)))

pub returns-in-None : goal.returns-in-None
returns-in-None c = sym (ap first_fault (used_lost (seen c.args.self.now) c.args.at c.args.name.now (sym c.is_unusable.ensures ∙ c.if-is_unusable.false) (sym c.in-None.ensures)))
