-- Runs of a deterministic machine, which is a step of its states and what is seen of a state.
use Rattle.std.specs.Prelude.{◌≡◌, ℕ, zero, suc, ◌+◌, ◌⊎◌}

-- the state after this many steps
abbrev pub run : {S : Type 0} → (S → S) → ℕ → S → S
run f zero s = s
run f (suc n) s = run f n (f s)

-- the weights of the states that these steps leave, together
abbrev pub cost : {S : Type 0} → (S → S) → (S → ℕ) → ℕ → S → ℕ
cost f weight zero s = 0
cost f weight (suc n) s = weight s + cost f weight n (f s)

-- a step leaves what is seen, or moves it one rank up
abbrev pub IsOrderly : {S O : Type 0} → (O → ℕ) → (S → S) → (S → O) → Type 0
IsOrderly {S} rank f see = (s : S) → (see (f s) ≡ see s) ⊎ (rank (see (f s)) ≡ rank (see s) + 1)

-- this many steps lead from one state to the other; a record, so that a proof of it names both
pub record Reaches {S : Type 0} (f : S → S) (n : ℕ) (s t : S) : Type 0 where
  pub by : run f n s ≡ t
