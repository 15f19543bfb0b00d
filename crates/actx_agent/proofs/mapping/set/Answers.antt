use Rattle.std.proofs.Common.{◌∙◌, ap, position, nat_eq}
use Rattle.actx_agent.proofs.Mappings.{set_there, set_last}
use Rattle.actx_agent.proofs.mapping.set.Goals as goal

pub returns-in-Some : goal.returns-in-Some
returns-in-Some c =
    set_there c.args.entries.now.items c.args.variable c.args.value c.in-Some.place (c.in-Some.ensures ∙ ap (λ es. position (λ e. nat_eq e.0 c.args.variable) es) c.as_slice.ensures.value)

pub returns-in_ok-push-in-None : goal.returns-in_ok-push-in-None
returns-in_ok-push-in-None c =
    c.in_ok-push-in-None.ensures.items ∙ set_last c.args.entries.now.items c.args.variable c.args.value (c.in-None.ensures ∙ ap (λ es. position (λ e. nat_eq e.0 c.args.variable) es) c.as_slice.ensures.value)
