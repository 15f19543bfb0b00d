-- What the code's walk stands for.
use Rattle.actx_scope.specs.declared.walk.state.Walk.{Walk}
use Rattle.actx_scope.specs.Machine.{State}
use Rattle.actx_scope.specs.Places.{seen}

unfoldable pub state : Walk → State
state w = record { place = seen w.place; at = w.at; links = w.links.items; fault = w.fault }
