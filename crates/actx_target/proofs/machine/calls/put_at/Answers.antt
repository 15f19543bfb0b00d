use Rattle.actx_target.proofs.Heaps.{get_at, weak_put_is, kept_in}
use Rattle.actx_target.proofs.machine.calls.put_at.Goals as goal

pub returns-in_ok-done-in-Some-clause-done : goal.returns-in_ok-done-in-Some-clause-done
returns-in_ok-done-in-Some-clause-done c =
    let ts = c.args.heap.now.items in
    let here = c.in-Some.ensures.item.3 in
    weak_put_is ts c.args.number c.in-Some.thing.now c.put_entry.new.thing c.args.key c.args.value _ (get_at ts c.args.number c.in-Some.thing.now here.0 here.1) c.in_ok-done-in-Some.ensures.done

pub returns-in_ok-done-in-Some-clause-kept : goal.returns-in_ok-done-in-Some-clause-kept
returns-in_ok-done-in-Some-clause-kept c =
    let ts = c.args.heap.now.items in
    let here = c.in-Some.ensures.item.3 in
    kept_in ts c.args.number c.in-Some.thing.now c.put_entry.new.thing _ (get_at ts c.args.number c.in-Some.thing.now here.0 here.1) c.in_ok-done-in-Some.ensures.kept
