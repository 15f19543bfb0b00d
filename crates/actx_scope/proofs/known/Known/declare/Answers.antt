use Rattle.std.proofs.Common.{◌≡◌, ◌∷◌, ◌++◌, [], List, ℕ, Some, ap, ◌∙◌, subst, sym}
use Rattle.std.specs.HashMap.{Updates}
use Rattle.actx_grammar.specs.Static as spec
use Rattle.actx_scope.specs.Tables.{Fits, stacked}
use Rattle.actx_scope.specs.declared.known.Hidden.{Hidden}
use Rattle.actx_scope.proofs.Tables.{fits_pushed, stacked_push}
use Rattle.actx_scope.proofs.known.Known.declare.Goals as goal

pub invariant_of-self-2 : goal.invariant_of-self-2
invariant_of-self-2 c =
    let h : Hidden = record { name = c.declared.inside.name; node = c.declared.inside.node; before = c.look_up-before.result } in
    let pushed = c.in_ok-push.ensures.items in
    let reserved = c.reserve.ensures.items in
    let logged : c.push.new.self.items ≡ c.self.inside.log.items ++ h ∷ [] = cc in
    let set : Updates spec.same_name c.self.inside.table c.insert.new.self h.name (Some (Some h.node)) =
    subst (λ (x : List ℕ). Updates spec.same_name c.self.inside.table c.insert.new.self x (Some (Some h.node))) c.in_ok-key.ensures c.in_ok-insert.ensures.updates in
    subst (Fits c.insert.new.self) (sym logged) (fits_pushed c.self.inside.table c.insert.new.self c.self.inside.log.items h c.self.invariant c.look_up-before.ensures set)

pub returns : goal.returns
returns c =
    let h : Hidden = record { name = c.declared.inside.name; node = c.declared.inside.node; before = c.look_up-before.result } in
    let pushed = c.in_ok-push.ensures.items in
    let reserved = c.reserve.ensures.items in
    let logged : c.push.new.self.items ≡ c.self.inside.log.items ++ h ∷ [] = cc in
    let own : spec.declared c.declared.inside.name c.declared.inside.node ≡ c.args.declared = c.declared.view_is in
    let old : stacked [] c.self.inside.log.items ≡ c.args.self.now = c.self.view_is in
    ap (stacked []) logged ∙ stacked_push [] c.self.inside.log.items h ∙ cc
