-- Which declaration a name refers to where some are known.
use Rattle.std.specs.Prelude.{ℕ, ◌-◌, List, [], ◌∷◌, drop, length, Option, Some, None, if◌then◌else◌}
use Rattle.actx_grammar.specs.Static.{Declared, is_among, same_name}

-- the node of the first declaration of the name: the innermost one
abbrev pub found : List Declared → List ℕ → Option ℕ
found [] x = None
found (d ∷ ds) x = if same_name d.name x then Some d.node else found ds x

-- the outermost ones, so many of them
abbrev pub outer_part : {X : Type 0} → ℕ → List X → List X
outer_part count xs = drop (length xs - count) xs

-- what a list or a table has at a place, where it may have nothing
abbrev pub joined : Option (Option ℕ) → Option ℕ
joined None = None
joined (Some o) = o

-- the names that a scope binds, the last first, with one more; one that stands before isn't added
abbrev pub grown : List (List ℕ) → List ℕ → List (List ℕ)
grown bound x = if is_among bound x then bound else x ∷ bound
