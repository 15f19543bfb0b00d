use Rattle.actx_target.proofs.Heaps.{get_at, freeze_is}
use Rattle.actx_target.proofs.machine.forms.freeze_at.Goals as goal

pub returns-in-Some : goal.returns-in-Some
returns-in-Some c =
    let ts = c.args.heap.now.items in
    let here = c.in-Some.ensures.item.3 in
    freeze_is ts c.args.number c.in-Some.thing.now c.freeze.new.thing c.freeze.result (get_at ts c.args.number c.in-Some.thing.now here.0 here.1) c.freeze.ensures
