use Rattle.std.proofs.Common.{List, [], ◌∷◌, ℕ, ◌∙◌, ap, sym}
use Rattle.indexmap.specs.IndexSet.{insert_key}
use Rattle.actx_grammar.specs.Static.{same_name}
use Rattle.actx_scope.specs.declared.link.Link.{Link}
use Rattle.actx_scope.specs.Links.{free_of, with_names}
use Rattle.actx_scope.proofs.FreeNames.{set_with_name}
use Rattle.actx_scope.proofs.free.add.Goals as goal

pub returns-in_ok-insert-in-Free : goal.returns-in_ok-insert-in-Free
returns-in_ok-insert-in-Free c =
    c.in_ok-insert-in-Free.ensures.keys
    ∙ ap (λ (z : List ℕ). insert_key same_name c.args.names.now.keys z) c.in_ok-copy-in-Free.ensures
    ∙ set_with_name c.args.names.now.keys c.in-Free.name
    ∙ ap (λ (l : Link). with_names c.args.names.now.keys (free_of (l ∷ []))) (sym c.in-Free.is)
