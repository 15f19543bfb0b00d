-- Laws of runs.
use Rattle.std.proofs.Common.{◌≡◌, ℕ, zero, suc, ◌+◌, ◌-◌, ◌<◌, ◌≤◌, refl, sym, ap, ◌∙◌, subst, arith, ◌⊎◌, inl, inr, ⊎_elim}
use Rattle.actx_match.specs.Runs.{run, cost, IsOrderly, Reaches}

-- a run is its first part, and then the rest
pub run_add : {S : Type 0} (f : S → S) (j n : ℕ) (s : S) → run f (j + n) s ≡ run f n (run f j s)
run_add f zero n s = let e : 0 + n ≡ n = omega arith in ap (λ k. run f k s) e
run_add f (suc j) n s =
    let e : suc j + n ≡ suc (j + n) = omega arith in
    ap (λ k. run f k s) e ∙ run_add f j n (f s)

-- and so is its cost
pub cost_add : {S : Type 0} (f : S → S) (weight : S → ℕ) (j n : ℕ) (s : S) → cost f weight (j + n) s ≡ cost f weight j s + cost f weight n (run f j s)
cost_add f weight zero n s =
    let e : 0 + n ≡ n = omega arith in
    let z : cost f weight n s ≡ 0 + cost f weight n s = omega arith in
    ap (λ k. cost f weight k s) e ∙ z
cost_add f weight (suc j) n s =
    let e : suc j + n ≡ suc (j + n) = omega arith in
    let whole : cost f weight (suc j + n) s ≡ cost f weight (suc (j + n)) s = ap (λ k. cost f weight k s) e in
    let rest = cost_add f weight j n (f s) in
    whole ∙ omega (arith, rest)

-- where each state weighs one, the cost is the number of steps
pub cost_ones : {S : Type 0} (f : S → S) (n : ℕ) (s : S) → cost f (λ _. 1) n s ≡ n
cost_ones f zero s = refl
cost_ones f (suc n) s = let rest = cost_ones f n (f s) in omega (arith, rest)

-- a state that a step leaves alone is left alone by every run
pub run_fixed : {S : Type 0} (f : S → S) (n : ℕ) (s : S) → f s ≡ s → run f n s ≡ s
run_fixed f zero s e = refl
run_fixed f (suc n) s e = ap (run f n) e ∙ run_fixed f n s e

-- runs one behind another
pub run_on : {S : Type 0} (f : S → S) (j k : ℕ) (s t u : S) → run f j s ≡ t → run f k t ≡ u → run f (j + k) s ≡ u
run_on f j k s t u h g = run_add f j k s ∙ ap (run f k) h ∙ g

pub reaches_on : {S : Type 0} {f : S → S} {s t u : S} (j k : ℕ) → Reaches f j s t → Reaches f k t u → Reaches f (j + k) s u
reaches_on {f = f} {s = s} {t = t} {u = u} j k h g = record { by = run_on f j k s t u h.by g.by }

module _ {S O : Type 0} (rank : O → ℕ) (f : S → S) (see : S → O) (orderly : IsOrderly rank f see) where
  -- the rank never falls, and where it stands still so does what is seen
  pub rises : (n : ℕ) (s : S) → (see (run f n s) ≡ see s) ⊎ (rank (see s) < rank (see (run f n s)))
  rises zero s = inl refl
  rises (suc n) s =
      ⊎_elim
      (λ e. ⊎_elim (λ h. inl (h ∙ e)) (λ h. inr (subst (λ o. rank o < rank (see (run f n (f s)))) e h)) (rises n (f s)))
      (λ e. ⊎_elim (λ h. let r = ap rank h in inr (omega arith)) (λ h. inr (omega arith)) (rises n (f s)))
      (orderly s)

  -- in a stretch where the rank rises by one at most, what is seen is what is seen at one of its ends
  pub between : (i j : ℕ) (s : S) → i ≤ j → rank (see (run f j s)) ≤ rank (see s) + 1 → (see (run f i s) ≡ see s) ⊎ (see (run f i s) ≡ see (run f j s))
  between i j s le top =
      let e : i + (j - i) ≡ j = omega arith in
      let whole : run f (j - i) (run f i s) ≡ run f j s = sym (run_add f i (j - i) s) ∙ ap (λ k. run f k s) e in
      ⊎_elim
      (λ h. inl h)
      (λ h. ⊎_elim
      (λ k. inr (sym k ∙ ap see whole))
      (λ k. let r = ap (λ t. rank (see t)) whole in absurd (omega arith))
      (rises (j - i) (run f i s)))
      (rises i s)
