-- A property along a walk.
use Rattle.actx_grammar.specs.Tree.{Expr, PropKey}
use Rattle.actx_places.specs.Walk.{Walk, at, rest, pass_if, has_head, prop_key, value}

abbrev pub property : PropKey → Expr → Walk → Walk
property key e w = value e (at w) (prop_key key (pass_if (has_head e (rest w)) w))
