-- Bounds on work that is paid ahead: a step may leave a credit, from which later steps of the target are paid.
use Rattle.std.specs.Prelude.{◌≡◌, ℕ, ◌+◌, ◌*◌, ◌≤◌}
use Rattle.actx_match.specs.Runs.{run, cost}
use Rattle.actx_match.specs.Matching.{GoesOn}

-- one step of the source, where this much credit is there, is matched by some steps of the target
pub record SteppedOn {S T : Type 0} (f : S → S) (g : T → T) (R : ℕ → S → T → Type 0) (measure : S → T → ℕ) (factor : ℕ) (weight : S → ℕ) (price : T → ℕ) (credit : ℕ) (s : S) (t : T) : Type 0 where
  pub count : ℕ
  pub left : ℕ
  pub kept : R left (f s) (run g count t)
  pub goes_on : GoesOn count (measure (f s) t) (measure s t) (g t ≡ t)
  pub within : cost g price count t + left ≤ factor * weight s + credit

-- states that are related with a credit show the same, and each step from them is matched and paid for
pub record SimulatesOn {O S T : Type 0} (f : S → S) (g : T → T) (see : S → O) (look : T → O) (R : ℕ → S → T → Type 0) (measure : S → T → ℕ) (factor : ℕ) (weight : S → ℕ) (price : T → ℕ) : Type 0 where
  pub same : (credit : ℕ) (s : S) (t : T) → R credit s t → look t ≡ see s
  pub steps : (credit : ℕ) (s : S) (t : T) → R credit s t → SteppedOn f g R measure factor weight price credit s t
