use Rattle.std.proofs.Common.{◌≡◌, List, Result, subst}
use Rattle.std.specs.Prelude.{OnOk}
use Rattle.actx_places.specs.declared.places.Item.{Item}
use Rattle.actx_places.specs.Walk.{Walk}
use Rattle.actx_places.specs.WalkWork.{acts}
use Rattle.actx_places.proofs.WalkForms.{nothing_called, callee_called}
use Rattle.actx_places.proofs.places.calls.call_with.Goals as goal

-- what an answer says of a walk, it says of one that is the same
on_walk : {T E : Type 0} (a : Walk) (r : Result T E) (work : List Item) (x y : Walk) → OnOk r (a ≡ acts work x) → x ≡ y → OnOk r (a ≡ acts work y)
on_walk a r work x y h e = subst (λ z. OnOk r (a ≡ acts work z)) e h

pub returns-in-empty-clause-walk : goal.returns-in-empty-clause-walk
returns-in-empty-clause-walk c = on_walk (acts c.words.new.work.items c.words.new.walk) c.words.result c.args.work.now.items _ _ c.words.ensures.walk (nothing_called c.args.parts.now c.in-empty.len_below c.args.walk.now)

pub returns-in-len1-up-clause-walk : goal.returns-in-len1-up-clause-walk
returns-in-len1-up-clause-walk c = on_walk (acts c.call.new.work.items c.call.new.walk) c.call.result c.args.work.now.items _ _ c.call.ensures.walk (callee_called c.args.parts.now c.callee-item.result c.in-len1-up.len_at_least c.callee-item.is c.args.walk.now)
