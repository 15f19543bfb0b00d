use Rattle.std.proofs.Common.{◌∙◌, ap}
use Rattle.actx_target.specs.View.{standing_of}
use Rattle.actx_target.proofs.Outcomes.{on_ok}
use Rattle.actx_target.proofs.Cells.{set_fixed, set_open}
use Rattle.actx_target.proofs.scope.Scope.set.Goals as goal

pub returns-in-Fixed : goal.returns-in-Fixed
returns-in-Fixed c = set_fixed c.args.self.now c.args.name.now c.args.value (c.in-Fixed.ensures ∙ ap standing_of c.slot.ensures)

pub returns-in-Open : goal.returns-in-Open
returns-in-Open c = on_ok _ _ c.put.result (λ e. e ∙ set_open c.args.self.now c.args.name.now c.args.value _ (c.in-Open.ensures ∙ ap standing_of c.slot.ensures)) c.put.ensures
