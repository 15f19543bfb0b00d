use Rattle.std.proofs.Common.{rules, ◌<◌, ◌≤◌, length, subst}
use Rattle.std.specs.List.{AllZip}
use Rattle.std.proofs.lemmas.List.{take_all}
use Rattle.actx_agent.proofs.Twins.{twin_more}
use Rattle.actx_agent.proofs.line.twins_of.Goals as goal

pub loop-i-preserved : goal.loop-i-preserved
loop-i-preserved g c =
    let xs = c.args.items.now.items in
    let fits : c.loop-i.i < length xs = search rules in
    twin_more g.T.Twin.same xs c.loop-i.twins.items c.push_back.new.self.items c.loop-i.i c.index.result.now c.in_ok-twin.twin fits c.index.ensures c.loop-i.invariant c.in_ok-twin.ensures c.in_ok-push_back.ensures.items

pub returns : goal.returns
returns g c =
    let xs = c.args.items.now.items in
    let fits : length xs ≤ c.loop-i.i = search rules in
    subst (λ z. AllZip g.T.Twin.same c.loop-i.twins.items z) (take_all c.loop-i.i xs fits) c.loop-i.invariant
