-- Names gathered one after the other, each once.
use Rattle.std.proofs.Common.{◌≡◌, ℕ, ◌||◌, List, [], ◌∷◌, ◌++◌, if◌then◌else◌, refl, ap}
use Rattle.std.specs.List.{list_any}
use Rattle.indexmap.specs.IndexSet.{insert_key}
use Rattle.actx_grammar.specs.Static.{same_name, is_among}
use Rattle.actx_scope.specs.declared.link.Link.{Link}
use Rattle.actx_scope.specs.declared.link.Link.TheVariants.{Nothing, To, Free}
use Rattle.actx_scope.specs.Links.{free_of, with_name, with_names}

among_any : (ks : List (List ℕ)) (x : List ℕ) → list_any (same_name x) ks ≡ is_among ks x
among_any [] x = refl
among_any (k ∷ ks) x = ap (λ b. same_name x k || b) (among_any ks x)

-- what a set is with one more name
pub set_with_name : (ks : List (List ℕ)) (x : List ℕ) → insert_key same_name ks x ≡ with_name ks x
set_with_name ks x = ap (λ b. if b then ks else ks ++ x ∷ []) (among_any ks x)

pub names_with_link : (ks : List (List ℕ)) (link : Link) (rest : List Link) → with_names (with_names ks (free_of (link ∷ []))) (free_of rest) ≡ with_names ks (free_of (link ∷ rest))
names_with_link ks Nothing rest = refl
names_with_link ks (To n) rest = refl
names_with_link ks (Free x) rest = refl
