use Rattle.actx_target.proofs.Heaps.{get_at, put_is_done}
use Rattle.actx_target.proofs.property.put_thing.Goals as goal

pub returns-in_ok-done-in-Some : goal.returns-in_ok-done-in-Some
returns-in_ok-done-in-Some c =
    let ts = c.args.heap.now.items in
    let here = c.in-Some.ensures.item.3 in
    put_is_done ts c.args.number c.in-Some.thing.now c.put_in.new.thing c.args.key.now c.args.value _ (get_at ts c.args.number c.in-Some.thing.now here.0 here.1) c.in_ok-done-in-Some.ensures
