-- What is kept of the declarations that are known: a table of the innermost node of each name, and behind each name that was
-- declared what the table had for it before.
use Rattle.std.specs.Prelude.{◌≡◌, ℕ, List, [], ◌∷◌, Option}
use Rattle.std.specs.HashMap.{HashMap, get}
use Rattle.actx_grammar.specs.Static.{Declared, declared, same_name}
use Rattle.actx_scope.specs.declared.known.Hidden.{Hidden}
use Rattle.actx_scope.specs.Found.{found, joined}

-- some declarations behind others, which become known one after the other
abbrev pub stacked : List Declared → List Hidden → List Declared
stacked ks [] = ks
stacked ks (h ∷ hs) = stacked (declared h.name h.node ∷ ks) hs

-- each has what its name was before
abbrev pub AreHidden : List Declared → List Hidden → Type 0
AreHidden ks [] = Unit {0}
AreHidden ks (h ∷ hs) = (h.before ≡ found ks h.name) × AreHidden (declared h.name h.node ∷ ks) hs

module _ {S : Type 0} where
  abbrev pub looked_up : HashMap (List ℕ) (Option ℕ) S → List ℕ → Option ℕ
  looked_up m x = joined (get same_name m x)

  -- a table and the names that were declared, in order, fit
  pub record Fits (m : HashMap (List ℕ) (Option ℕ) S) (hs : List Hidden) : Type 0 where
    pub agree : (x : List ℕ) → looked_up m x ≡ found (stacked [] hs) x
    pub hidden : AreHidden [] hs
