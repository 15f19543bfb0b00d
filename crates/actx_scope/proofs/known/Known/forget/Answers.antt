use Rattle.std.proofs.Common.{◌≡◌, ◌∷◌, ◌++◌, [], List, drop, ap, ◌∙◌, subst, sym}
use Rattle.actx_grammar.specs.Static.{Declared}
use Rattle.actx_scope.specs.Tables.{Fits, stacked}
use Rattle.actx_scope.proofs.Tables.{fits_popped, stacked_push}
use Rattle.actx_scope.proofs.known.Known.forget.Goals as goal

pub invariant_of-self : goal.invariant_of-self
invariant_of-self c =
    let logged : c.self.inside.log.items ≡ c.pop.new.self.items ++ c.in-Some.hidden ∷ [] = c.in-Some.ensures.items in
    fits_popped c.self.inside.table c.put_back.new.table c.pop.new.self.items c.in-Some.hidden (subst (Fits c.self.inside.table) logged c.self.invariant) c.put_back.ensures

pub returns-in-Some : goal.returns-in-Some
returns-in-Some c =
    let logged : c.self.inside.log.items ≡ c.pop.new.self.items ++ c.in-Some.hidden ∷ [] = c.in-Some.ensures.items in
    let old : stacked [] c.self.inside.log.items ≡ c.args.self.now = c.self.view_is in
    ap (λ (ks : List Declared). drop 1 ks) (sym (stacked_push [] c.pop.new.self.items c.in-Some.hidden) ∙ ap (stacked []) (sym logged) ∙ old)
