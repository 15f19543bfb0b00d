-- Names in chains of scopes.
use Rattle.std.proofs.Common.{◌≡◌, ℕ, List, ◌∷◌, Option, Some, None, refl}
use Rattle.actx_data.specs.declared.value.Value.{Value}
use Rattle.actx_target.specs.Cells.{found_cell}
use Rattle.actx_rules.specs.State.{Cell, cell_of, cells_at, find, or_else}

-- a name that the innermost scope has
pub found_here : (scopes : List (List Cell)) (k : ℕ) (ks : List ℕ) (x : List ℕ) (r : Option Value) → Some r ≡ found_cell (cell_of x (cells_at scopes k)) → Some r ≡ found_cell (find scopes (k ∷ ks) x)
found_here scopes k ks x r h = by_cell (cell_of x (cells_at scopes k)) h
  where
    by_cell : (o : Option Cell) → Some r ≡ found_cell o → Some r ≡ found_cell (or_else o (find scopes ks x))
    by_cell None g = absurd cc
    by_cell (Some c) g = g

-- and one that it hasn't
pub found_outside : (scopes : List (List Cell)) (k : ℕ) (ks : List ℕ) (x : List ℕ) → None ≡ found_cell (cell_of x (cells_at scopes k)) → found_cell (find scopes ks x) ≡ found_cell (find scopes (k ∷ ks) x)
found_outside scopes k ks x h = by_cell (cell_of x (cells_at scopes k)) h
  where
    by_cell : (o : Option Cell) → None ≡ found_cell o → found_cell (find scopes ks x) ≡ found_cell (or_else o (find scopes ks x))
    by_cell None g = refl
    by_cell (Some c) g = absurd cc
