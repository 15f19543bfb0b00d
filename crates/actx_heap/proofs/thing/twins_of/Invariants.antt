use Rattle.std.proofs.Common.{take}
use Rattle.actx_heap.specs.Things.{HeapSame}
use Rattle.actx_heap.specs.Views.{things_of}
use Rattle.actx_heap.proofs.thing.twins_of.Given as goal

abbrev pub invariant-loop-thing : goal.invariant-loop-thing
invariant-loop-thing g l = HeapSame g.C.Twin.same (things_of l.twins.items) (things_of (take l.thing-index l.things))
