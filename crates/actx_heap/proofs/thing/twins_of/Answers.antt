use Rattle.std.proofs.Common.{rules, ◌≡◌, ◌<◌, length, take, subst}
use Rattle.std.proofs.lemmas.List.{take_all}
use Rattle.actx_heap.specs.Things.{HeapSame}
use Rattle.actx_heap.specs.Views.{things_of}
use Rattle.actx_heap.proofs.Twins.{twin_more}
use Rattle.actx_heap.proofs.thing.twins_of.Goals as goal

pub loop-thing-preserved : goal.loop-thing-preserved
loop-thing-preserved g c =
    let fits : c.loop-thing.thing-index < length c.args.things.now = search rules in
    twin_more g.C.Twin.same c.args.things.now c.loop-thing.twins.items c.push.new.self.items c.loop-thing.thing-index c.thing-item.result c.in_ok-twin.twin fits c.thing-item.is c.loop-thing.invariant c.in_ok-twin.ensures c.in_ok-push.ensures.items

pub returns : goal.returns
returns g c =
    let all : take c.loop-thing.thing-index c.args.things.now ≡ c.args.things.now = take_all c.loop-thing.thing-index c.args.things.now c.loop-thing-test.false in
    subst (λ z. HeapSame g.C.Twin.same (things_of c.loop-thing.twins.items) (things_of z)) all c.loop-thing.invariant
