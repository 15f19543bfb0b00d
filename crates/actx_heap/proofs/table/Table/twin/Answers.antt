use Rattle.std.proofs.Common.{rules, ◌≡◌, [], ap, sym, ◌∙◌}
use Rattle.actx_heap.specs.Properties.{with_props}
use Rattle.actx_heap.proofs.Tables.{props_again}
use Rattle.actx_heap.proofs.table.Table.twin.Goals as goal

pub returns : goal.returns
returns c =
    let es = c.self.inside.entries.entries in
    let ended : c.loop-key.key-iterator ≡ [] = search rules in
    let all : c.into_iter-key-iterator.result ≡ es = search rules in
    sym (ap (λ z. with_props z c.loop-key.table) ended) ∙ sym c.loop-key.invariant ∙ ap (λ z. with_props z []) all ∙ props_again es c.iter-key-items.ensures.unique ∙ c.self.view_is
