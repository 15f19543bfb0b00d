-- The bound of a simulation whose steps carry their cost.
use Rattle.std.proofs.Common.{◌≡◌, ℕ, zero, suc, ◌+◌, ◌*◌, ◌≤◌, sym, subst, arith}
use Rattle.actx_match.specs.Runs.{run, cost, IsOrderly}
use Rattle.actx_match.specs.Matching.{Match, WithinFactor, Costed, SimulatesWithin}
use Rattle.actx_match.proofs.Runs.{run_add, cost_add}
use Rattle.actx_match.proofs.Simulations.{simulation_match}

-- the related state that a run is matched by, and what it costs to come there
pub costed_runs : {S T : Type 0} (f : S → S) (g : T → T) (R : S → T → Type 0) (factor : ℕ) (weight : S → ℕ) (price : T → ℕ) → ((s : S) (t : T) → R s t → Costed f g R factor weight price s t) → (n : ℕ) (s : S) (t : T) → R s t → (m : ℕ) × R (run f n s) (run g m t) × (cost g price m t ≤ factor * cost f weight n s)
costed_runs f g R factor weight price each zero s t r = (0, r, omega arith)
costed_runs f g R factor weight price each (suc n) s t r =
    let b = each s t r in
    let rest = costed_runs f g R factor weight price each n (f s) (run g b.count t) b.kept in
    (b.count + rest.0, subst (R (run f n (f s))) (sym (run_add g b.count rest.0 t)) rest.1, omega (arith, b.within, rest.2, cost_add g price b.count rest.0 t))

pub costed_within : {O S T : Type 0} (f : S → S) (g : T → T) (see : S → O) (look : T → O) (R : S → T → Type 0) (factor : ℕ) (weight : S → ℕ) (price : T → ℕ) → ((s : S) (t : T) → R s t → look t ≡ see s) → ((s : S) (t : T) → R s t → Costed f g R factor weight price s t) → (s : S) (t : T) → R s t → WithinFactor factor (λ n. see (run f n s)) (λ m. look (run g m t)) (λ n. cost f weight n s) (λ m. cost g price m t)
costed_within f g see look R factor weight price same each s t r n =
    let k = costed_runs f g R factor weight price each n s t r in
    (k.0, same _ _ k.1, k.2)

-- both the match and the bound
pub within_match : {O S T : Type 0} (rank : O → ℕ) (f : S → S) (g : T → T) (see : S → O) (look : T → O) (R : S → T → Type 0) (measure : S → T → ℕ) (factor : ℕ) (weight : S → ℕ) (price : T → ℕ) → IsOrderly rank f see → IsOrderly rank g look → SimulatesWithin f g see look R measure factor weight price → (s : S) (t : T) → R s t → Match (λ n. see (run f n s)) (λ m. look (run g m t)) × WithinFactor factor (λ n. see (run f n s)) (λ m. look (run g m t)) (λ n. cost f weight n s) (λ m. cost g price m t)
within_match rank f g see look R measure factor weight price source_orderly target_orderly h s t r = (
  simulation_match rank f g see look R measure source_orderly target_orderly (record { same = h.same; steps = λ s' t' r'. let b = h.steps s' t' r' in record { count = b.count; kept = b.kept; goes_on = b.goes_on } }) s t r,
  costed_within f g see look R factor weight price h.same (λ s' t' r'. let b = h.steps s' t' r' in record { count = b.count; kept = b.kept; within = b.within }) s t r,
)
