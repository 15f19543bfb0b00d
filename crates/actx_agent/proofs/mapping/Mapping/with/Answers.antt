use Rattle.std.proofs.Common.{◌≡◌, ◌∙◌, ap, sym, subst, map, nat_eq}
use Rattle.std.specs.List.{IsDistinct}
use Rattle.actx_agent.specs.Mapping.{with_mapped}
use Rattle.actx_agent.proofs.Mappings.{still_distinct}
use Rattle.actx_agent.proofs.mapping.Mapping.with.Goals as goal

pub invariant_of-result : goal.invariant_of-result
invariant_of-result c =
    let n = c.args.variable in
    let v = c.args.value in
    let made : c.set.new.entries.items ≡ with_mapped n v c.self.inside.entries.items = c.in_ok-set.ensures ∙ ap (with_mapped n v) (c.in_ok-entries.ensures ∙ c.as_slice.ensures.value) in
    subst (λ z. IsDistinct nat_eq (map (λ e. e.0) z)) (sym made) (still_distinct c.self.inside.entries.items n v c.self.invariant)
