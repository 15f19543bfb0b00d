-- Both the match and the bound of a simulation with credit.
use Rattle.std.proofs.Common.{◌≡◌, ℕ, zero, suc, ◌+◌, ◌*◌, ◌≤◌, ap, ◌∙◌, arith}
use Rattle.actx_match.specs.Runs.{run, cost, IsOrderly}
use Rattle.actx_match.specs.Matching.{Match, WithinFactor}
use Rattle.actx_match.specs.Credit.{SimulatesOn}
use Rattle.actx_match.proofs.Runs.{run_add, cost_add}
use Rattle.actx_match.proofs.Simulations.{simulation_match}

module _ {O S T : Type 0} (f : S → S) (g : T → T) (see : S → O) (look : T → O) (R : ℕ → S → T → Type 0) (measure : S → T → ℕ) (factor : ℕ) (weight : S → ℕ) (price : T → ℕ) (simulates : SimulatesOn f g see look R measure factor weight price) where
  -- a run is paid for by its weights and the credit before it
  paid : (n credit : ℕ) (s : S) (t : T) → R credit s t → (m : ℕ) × (look (run g m t) ≡ see (run f n s)) × (cost g price m t ≤ factor * cost f weight n s + credit)
  paid zero credit s t r = (0, simulates.same credit s t r, omega arith)
  paid (suc n) credit s t r =
      let b = simulates.steps credit s t r in
      let rest = paid n b.left (f s) (run g b.count t) b.kept in
      (b.count + rest.0, ap look (run_add g b.count rest.0 t) ∙ rest.1, omega (arith, b.within, rest.2, cost_add g price b.count rest.0 t))

  pub credit_within : (s : S) (t : T) → R 0 s t → WithinFactor factor (λ n. see (run f n s)) (λ m. look (run g m t)) (λ n. cost f weight n s) (λ m. cost g price m t)
  credit_within s t r n = let p = paid n 0 s t r in (p.0, p.1, omega (arith, p.2))

  pub credit_match : (rank : O → ℕ) → IsOrderly rank f see → IsOrderly rank g look → (s : S) (t : T) → R 0 s t → Match (λ n. see (run f n s)) (λ m. look (run g m t)) × WithinFactor factor (λ n. see (run f n s)) (λ m. look (run g m t)) (λ n. cost f weight n s) (λ m. cost g price m t)
  credit_match rank source_orderly target_orderly s t r = (
    simulation_match rank f g see look (λ x y. (credit : ℕ) × R credit x y) measure source_orderly target_orderly (record { same = λ x y h. simulates.same h.0 x y h.1; steps = λ x y h. let b = simulates.steps h.0 x y h.1 in record { count = b.count; kept = (b.left, b.kept); goes_on = b.goes_on } }) s t (0, r),
    credit_within s t r,
  )
