use Rattle.std.proofs.lemmas.Result.{IfOk-weaker}
use Rattle.actx_heap.proofs.Heaps.{get_at, put_placed}
use Rattle.actx_heap.proofs.write.put_at.Goals as goal

pub returns-in-Some-clause-answer : goal.returns-in-Some-clause-answer
returns-in-Some-clause-answer g c =
    let ts = c.args.things.now.items in
    let here = c.in-Some.ensures.item.3 in
    let old = c.in-Some.thing.now in
    let at = get_at ts c.args.number old here.0 here.1 in
    IfOk-weaker c.put_thing.result _ _ (λ r. put_placed ts c.args.number old c.put_thing.new.thing c.args.key c.args.value r at) c.put_thing.ensures.answer
