-- Two machines that show the same in both directions, and the relations between their states that prove it.
use Rattle.std.specs.Prelude.{◌≡◌, ℕ, ◌+◌, ◌*◌, ◌<◌, ◌≤◌}
use Rattle.actx_match.specs.Runs.{run, cost}

-- MATCHES
-- what each shows after some number of steps, the other shows after some number of steps
pub record Match {O : Type 0} (a b : ℕ → O) : Type 0 where
  pub onward : (n : ℕ) → (m : ℕ) × (b m ≡ a n)
  pub back : (m : ℕ) → (n : ℕ) × (a n ≡ b m)

-- the same at every input
abbrev pub MatchAll : {O I : Type 0} → (a b : I → ℕ → O) → Type 0
MatchAll {O} {I} a b = (input : I) → Match (a input) (b input)

-- what the first shows, the second shows too, at a cost of at most the factor times the first's
abbrev pub WithinFactor : {O : Type 0} → ℕ → (a b : ℕ → O) → (cost_a cost_b : ℕ → ℕ) → Type 0
WithinFactor factor a b cost_a cost_b = (n : ℕ) → (m : ℕ) × (b m ≡ a n) × (cost_b m ≤ factor * cost_a n)

-- SIMULATIONS BY STEPS
-- how a stretch of the source goes on that took this many steps of the target: the target moved, or the measure fell, or the target is at its end
pub data GoesOn (count after before : ℕ) (at_end : Type 0) : Type 0 where
  Moved : 0 < count → GoesOn count after before at_end
  Fell : after < before → GoesOn count after before at_end
  AtEnd : at_end → GoesOn count after before at_end

-- one step of the source is matched by some steps of the target
pub record Stepped {S T : Type 0} (f : S → S) (g : T → T) (R : S → T → Type 0) (measure : S → T → ℕ) (s : S) (t : T) : Type 0 where
  pub count : ℕ
  pub kept : R (f s) (run g count t)
  pub goes_on : GoesOn count (measure (f s) t) (measure s t) (g t ≡ t)

-- related states show the same, and each step from them is matched
pub record Simulates {O S T : Type 0} (f : S → S) (g : T → T) (see : S → O) (look : T → O) (R : S → T → Type 0) (measure : S → T → ℕ) : Type 0 where
  pub same : (s : S) (t : T) → R s t → look t ≡ see s
  pub steps : (s : S) (t : T) → R s t → Stepped f g R measure s t

-- SIMULATIONS BY BLOCKS
-- one step of the source and this many more are matched by some steps of the target, and what is seen moves once at most
pub record Blocked {O S T : Type 0} (rank : O → ℕ) (see : S → O) (f : S → S) (g : T → T) (R : S → T → Type 0) (measure : S → T → ℕ) (s : S) (t : T) : Type 0 where
  pub more : ℕ
  pub count : ℕ
  pub kept : R (run f (more + 1) s) (run g count t)
  pub once : rank (see (run f (more + 1) s)) ≤ rank (see s) + 1
  pub goes_on : GoesOn count (measure (run f (more + 1) s) t) (measure s t) (g t ≡ t)

-- related states show the same, and a block from them is matched
pub record SimulatesInBlocks {O S T : Type 0} (rank : O → ℕ) (f : S → S) (g : T → T) (see : S → O) (look : T → O) (R : S → T → Type 0) (measure : S → T → ℕ) : Type 0 where
  pub same : (s : S) (t : T) → R s t → look t ≡ see s
  pub blocks : (s : S) (t : T) → R s t → Blocked rank see f g R measure s t

-- SIMULATIONS WITHIN A BOUND
-- one step of the source is matched by steps that cost at most the factor times its weight
pub record Costed {S T : Type 0} (f : S → S) (g : T → T) (R : S → T → Type 0) (factor : ℕ) (weight : S → ℕ) (price : T → ℕ) (s : S) (t : T) : Type 0 where
  pub count : ℕ
  pub kept : R (f s) (run g count t)
  pub within : cost g price count t ≤ factor * weight s

-- a matched step with its cost, so that one walk through the rows shows both the match and the bound
pub record SteppedWithin {S T : Type 0} (f : S → S) (g : T → T) (R : S → T → Type 0) (measure : S → T → ℕ) (factor : ℕ) (weight : S → ℕ) (price : T → ℕ) (s : S) (t : T) : Type 0 where
  pub count : ℕ
  pub kept : R (f s) (run g count t)
  pub goes_on : GoesOn count (measure (f s) t) (measure s t) (g t ≡ t)
  pub within : cost g price count t ≤ factor * weight s

-- related states show the same, and each step from them is matched within its bound
pub record SimulatesWithin {O S T : Type 0} (f : S → S) (g : T → T) (see : S → O) (look : T → O) (R : S → T → Type 0) (measure : S → T → ℕ) (factor : ℕ) (weight : S → ℕ) (price : T → ℕ) : Type 0 where
  pub same : (s : S) (t : T) → R s t → look t ≡ see s
  pub steps : (s : S) (t : T) → R s t → SteppedWithin f g R measure factor weight price s t
