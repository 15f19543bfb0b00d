use Rattle.std.proofs.Common.{◌≡◌, List, ℕ, ◌∙◌, ap, sym, not, reverse}
use Rattle.std.specs.List.{list_any}
use Rattle.indexmap.specs.IndexSet.{insert_key}
use Rattle.actx_grammar.specs.Static.{is_among, same_name}
use Rattle.actx_scope.specs.Found.{grown}
use Rattle.actx_scope.proofs.NameLists.{among_reverse, grown_reverse}
use Rattle.actx_scope.proofs.bound.Bound.add.Goals as goal

pub returns-clause-new : goal.returns-clause-new
returns-clause-new c =
    let x = c.args.name.now in
    let ks = c.self.inside.names.keys in
    let old : reverse ks ≡ c.args.self.now = c.self.view_is in
    c.in_ok-new.ensures.added
    ∙ ap (λ (z : List ℕ). not (list_any (same_name z) ks)) c.in_ok-copy.ensures
    ∙ ap not (sym (among_reverse ks x))
    ∙ ap (λ (l : List (List ℕ)). not (is_among l x)) old

pub returns-clause-added : goal.returns-clause-added
returns-clause-added c =
    let x = c.args.name.now in
    let ks = c.self.inside.names.keys in
    let old : reverse ks ≡ c.args.self.now = c.self.view_is in
    ap reverse c.in_ok-new.ensures.keys
    ∙ ap (λ (z : List ℕ). reverse (insert_key same_name ks z)) c.in_ok-copy.ensures
    ∙ grown_reverse ks x
    ∙ ap (λ (l : List (List ℕ)). grown l x) old
