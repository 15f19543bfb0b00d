use Rattle.std.proofs.Common.{rules, ◌≡◌, subst, ap, ◌∙◌, map, drop, reverse, length}
use Rattle.actx_nodes.specs.Forest.{Stands, forest}
use Rattle.actx_nodes.specs.Node.{nth}
use Rattle.actx_nodes.proofs.Joined.{stands_popped, stands_roots}
use Rattle.actx_nodes.proofs.Places.{taken}
use Rattle.actx_nodes.proofs.join.table.Goals as goal

pub loop-head-preserved : goal.loop-head-preserved
loop-head-preserved c =
    let all = c.args.heads.items in
    let old = c.loop-head.heads.items in
    let new = c.pop.new.self.items in (
      stands_popped all old new c.in-Some.head c.loop-head.rows.items (reverse c.join.new.rows.items) (reverse c.loop-head.places.items) (reverse c.join.new.places.items) c.loop-head.invariant.0 c.in-Some.ensures.items c.loop-head.invariant.1 c.in_ok-join.ensures.rows c.in_ok-join.ensures.places,
      taken all old new c.in-Some.head c.in-Some.ensures.items c.loop-head.invariant.1,
    )

pub returns-clause-roots : goal.returns-clause-roots
returns-clause-roots c =
    let rows = c.loop-head.rows.items in
    let places = reverse c.loop-head.places.items in
    let ended : length c.loop-head.heads.items ≡ 0 = search rules in
    let stands = subst (λ n. Stands (drop n c.args.heads.items) (reverse rows) places) ended c.loop-head.invariant.0 in
    ap (λ es. map (nth (forest es)) c.in_ok-roots.roots.items) c.reverse.ensures.items
    ∙ ap (map (nth (forest (reverse rows)))) (c.in_ok-roots.ensures ∙ search rules)
    ∙ stands_roots c.args.heads.items rows places stands
