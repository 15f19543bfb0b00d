-- Matches and bounds, one behind another.
use Rattle.std.proofs.Common.{◌≡◌, ℕ, ◌+◌, ◌-◌, ◌*◌, ◌≤◌, refl, sym, ap, ◌∙◌, arith, ⊎_elim}
use Rattle.std.proofs.lemmas.Bool.{cases_lt}
use Rattle.std.proofs.Math.Nat.{mul-le-mul_left, mul-le-mul_right}
use Rattle.actx_match.specs.Runs.{run, IsOrderly}
use Rattle.actx_match.specs.Matching.{Match, WithinFactor}
use Rattle.actx_match.proofs.Runs.{run_add, between}

pub match_same : {O : Type 0} (a : ℕ → O) → Match a a
match_same a = record { onward = λ n. (n, refl); back = λ m. (m, refl) }

pub match_back : {O : Type 0} (a b : ℕ → O) → Match a b → Match b a
match_back a b h = record { onward = h.back; back = h.onward }

pub match_on : {O : Type 0} (a b c : ℕ → O) → Match a b → Match b c → Match a c
match_on a b c h k =
    record {
      onward = λ n. let x = h.onward n in let y = k.onward x.0 in (y.0, y.1 ∙ x.1);
      back = λ m. let y = k.back m in let x = h.back y.0 in (x.0, x.1 ∙ y.1);
    }

-- machines that show the same at each step match
pub match_equal : {O : Type 0} (a b : ℕ → O) → ((n : ℕ) → b n ≡ a n) → Match a b
match_equal a b e = record { onward = λ n. (n, e n); back = λ m. (m, sym (e m)) }

-- a machine whose first steps show nothing new matches what it matches from there
module _ {O S : Type 0} (rank : O → ℕ) (f : S → S) (see : S → O) (orderly : IsOrderly rank f see) where
  pub match_later : (a : ℕ → O) (k : ℕ) (s : S) → see (run f k s) ≡ see s → Match a (λ n. see (run f n (run f k s))) → Match a (λ n. see (run f n s))
  match_later a k s quiet h =
      record {
        onward = λ n. let p = h.onward n in (k + p.0, ap see (run_add f k p.0 s) ∙ p.1);
        back = λ m. ⊎_elim
            (λ early.
            let r = ap rank quiet in
            let start = h.back 0 in
            ⊎_elim (λ e. (start.0, start.1 ∙ quiet ∙ sym e)) (λ e. (start.0, start.1 ∙ sym e)) (between rank f see orderly m k s (omega arith) (omega arith)))
            (λ late.
            let e : k + (m - k) ≡ m = omega arith in
            let p = h.back (m - k) in
            (p.0, p.1 ∙ ap see (sym (run_add f k (m - k) s)) ∙ ap (λ i. see (run f i s)) e))
            (cases_lt m k);
      }

factors : (x y a b c : ℕ) → b ≤ x * a → c ≤ y * b → c ≤ y * x * a
factors x y a b c h k =
    let scaled = mul-le-mul_left y h in
    omega (arith, scaled)

-- the factors of two bounds multiply
pub within_on : {O : Type 0} (x y : ℕ) (a b c : ℕ → O) (cost_a cost_b cost_c : ℕ → ℕ) → WithinFactor x a b cost_a cost_b → WithinFactor y b c cost_b cost_c → WithinFactor (y * x) a c cost_a cost_c
within_on x y a b c cost_a cost_b cost_c h k n =
    let p = h n in
    let q = k p.0 in
    (q.0, q.1 ∙ p.1, factors x y (cost_a n) (cost_b p.0) (cost_c q.0) p.2 q.2)

-- a greater factor bounds too
pub within_more : {O : Type 0} (x y : ℕ) (a b : ℕ → O) (cost_a cost_b : ℕ → ℕ) → x ≤ y → WithinFactor x a b cost_a cost_b → WithinFactor y a b cost_a cost_b
within_more x y a b cost_a cost_b le h n =
    let p = h n in
    let scaled = mul-le-mul_right (cost_a n) le in
    (p.0, p.1, omega (arith, p.2, scaled))
