use Rattle.actx_heap.proofs.Heaps.{get_here, frozen_placed}
use Rattle.actx_heap.proofs.thing.freeze_at.Goals as goal

pub returns : goal.returns
returns g c =
    let ts = c.args.things.now.items in
    let old = c.index_mut.result.now in
    frozen_placed ts c.args.number old c.freeze.new.thing (get_here ts c.args.number old c.requires c.index_mut.ensures.value) c.freeze.ensures
