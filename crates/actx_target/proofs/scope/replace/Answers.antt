use Rattle.std.proofs.Common.{◌∙◌, ap, position}
use Rattle.actx_rules.specs.Texts.{same_text}
use Rattle.actx_target.proofs.Cells.{replaced_placed, replaced_behind}
use Rattle.actx_target.proofs.scope.replace.Goals as goal

pub returns-in-None : goal.returns-in-None
returns-in-None c =
    replaced_behind c.args.name.now c.args.slot c.args.names.now.items (c.in-None.ensures ∙ ap (λ es. position (λ n. same_text c.args.name.now n.name) es) c.deref.ensures.value)

pub returns-in-Some-get_mut : goal.returns-in-Some-get_mut
returns-in-Some-get_mut c =
    replaced_placed c.args.name.now c.args.slot c.args.names.now.items c.in-Some.place c.in-Some-get_mut.named.now c.give.new.self (c.in-Some.ensures ∙ ap (λ es. position (λ n. same_text c.args.name.now n.name) es) c.deref.ensures.value) c.in-Some-get_mut.ensures.value c.give.ensures
