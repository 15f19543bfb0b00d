-- What the code's things stand for.
use Rattle.std.specs.Prelude.{List, map}
use Rattle.actx_ast.specs.View.{stmts_view}
use Rattle.actx_target.specs.Chains.{chain_of}
use Rattle.actx_rules.specs.State as m
use Rattle.actx_target.specs.declared.thing.Method.{Method}
use Rattle.actx_target.specs.declared.thing.Method.TheVariants as d
use Rattle.actx_target.specs.declared.thing.Thing.{Thing}
use Rattle.actx_target.specs.declared.thing.Thing.TheVariants as h

abbrev pub method_of : Method → m.Method
method_of d.WeakMapGet = m.WeakMapGet
method_of d.WeakMapSet = m.WeakMapSet

abbrev pub thing_of : Thing → m.Thing
thing_of (h.Plain ps) = m.Plain ps
thing_of (h.Listed ps) = m.Listed ps
thing_of (h.Failure name message) = m.Failure name message
thing_of (h.Closure f scope receiver) = m.Closure f.now.kind f.now.params.items (stmts_view f.now.body.items) (chain_of scope) receiver
thing_of (h.Native method) = m.Native (method_of method)
thing_of (h.Weak es) = m.Weak es

abbrev pub things_of : List Thing → List m.Thing
things_of ts = map thing_of ts
