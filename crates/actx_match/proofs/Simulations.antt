-- From a simulation to a match in both directions.
use Rattle.std.proofs.Common.{◌≡◌, ℕ, zero, suc, ◌+◌, ◌-◌, ◌<◌, ◌≤◌, sym, ap, ◌∙◌, subst, arith, ⊎_elim}
use Rattle.std.proofs.lemmas.Bool.{cases_lt}
use Rattle.actx_match.specs.Runs.{run, IsOrderly}
use Rattle.actx_match.specs.Matching.{Match, GoesOn, Moved, Fell, AtEnd, Stepped, Simulates, Blocked, SimulatesInBlocks}
use Rattle.actx_match.proofs.Runs.{run_add, run_fixed, between}

module _ {O S T : Type 0} (rank : O → ℕ) (f : S → S) (g : T → T) (see : S → O) (look : T → O) (R : S → T → Type 0) (measure : S → T → ℕ) (source_orderly : IsOrderly rank f see) (target_orderly : IsOrderly rank g look) (simulates : SimulatesInBlocks rank f g see look R measure) where
  -- what so many steps of the source show, some number of the target's shows
  abbrev OnTarget : ℕ → S → T → Type 0
  OnTarget n s t = (m : ℕ) × (look (run g m t) ≡ see (run f n s))

  -- what so many steps of the target show, some number of the source's shows
  abbrev OnSource : ℕ → S → T → Type 0
  OnSource m s t = (n : ℕ) × (see (run f n s) ≡ look (run g m t))

  -- the number lies in this block, or behind it
  onward_block : (n : ℕ) (s : S) (t : T) → R s t → (b : Blocked rank see f g R measure s t) → ((k : ℕ) (s' : S) (t' : T) → k < n → R s' t' → OnTarget k s' t') → OnTarget n s t
  onward_block n s t r b rest =
      ⊎_elim
      (λ le. ⊎_elim
      (λ h. (0, simulates.same s t r ∙ sym h))
      (λ h. (b.count, simulates.same _ _ b.kept ∙ sym h))
      (between rank f see source_orderly n (b.more + 1) s (omega arith) b.once))
      (λ ge.
      let k = n - (b.more + 1) in
      let later = rest k (run f (b.more + 1) s) (run g b.count t) (omega arith) b.kept in
      let e : b.more + 1 + k ≡ n = omega arith in
      (b.count + later.0, ap look (run_add g b.count later.0 t) ∙ later.1 ∙ ap see (sym (run_add f (b.more + 1) k s)) ∙ ap (λ i. see (run f i s)) e))
      (cases_lt n (b.more + 1))

  -- forwards, with fuel for the steps that are left
  onward_by : (fuel n : ℕ) (s : S) (t : T) → n ≤ fuel → R s t → OnTarget n s t
  onward_by zero n s t le r =
      let e : n ≡ 0 = omega arith in
      (0, simulates.same s t r ∙ ap (λ k. see (run f k s)) (sym e))
  onward_by (suc fuel) n s t le r =
      onward_block n s t r (simulates.blocks s t r) (λ k s' t' le' r'. onward_by fuel k s' t' (omega arith) r')

  -- backwards over a block in which the target moved
  back_moved : (m : ℕ) (s : S) (t : T) → R s t → (b : Blocked rank see f g R measure s t) → 0 < b.count → ((k : ℕ) (s' : S) (t' : T) → k < m → R s' t' → OnSource k s' t') → OnSource m s t
  back_moved m s t r b moved rest =
      let once : rank (look (run g b.count t)) ≤ rank (look t) + 1 = omega (arith, b.once, ap rank (simulates.same _ _ b.kept), ap rank (simulates.same s t r)) in
      ⊎_elim
      (λ le. ⊎_elim
      (λ h. (0, sym (simulates.same s t r) ∙ sym h))
      (λ h. (b.more + 1, sym (simulates.same _ _ b.kept) ∙ sym h))
      (between rank g look target_orderly m b.count t (omega arith) once))
      (λ ge.
      let k = m - b.count in
      let later = rest k (run f (b.more + 1) s) (run g b.count t) (omega arith) b.kept in
      let e : b.count + k ≡ m = omega arith in
      (b.more + 1 + later.0, ap see (run_add f (b.more + 1) later.0 s) ∙ later.1 ∙ ap look (sym (run_add g b.count k t)) ∙ ap (λ i. look (run g i t)) e))
      (cases_lt m b.count)

  -- and over one in which it stood still
  back_stood : (m : ℕ) (s : S) (t : T) → R s t → (b : Blocked rank see f g R measure s t) → b.count ≡ 0 → ((s' : S) → measure s' t < measure s t → R s' t → OnSource m s' t) → GoesOn b.count (measure (run f (b.more + 1) s) t) (measure s t) (g t ≡ t) → OnSource m s t
  back_stood m s t r b stood lower (Moved h) = absurd (omega arith)
  back_stood m s t r b stood lower (Fell h) =
      let kept : R (run f (b.more + 1) s) t = subst (λ k. R (run f (b.more + 1) s) (run g k t)) stood b.kept in
      let later = lower (run f (b.more + 1) s) h kept in
      (b.more + 1 + later.0, ap see (run_add f (b.more + 1) later.0 s) ∙ later.1)
  back_stood m s t r b stood lower (AtEnd h) = (0, sym (simulates.same s t r) ∙ ap look (sym (run_fixed g m t h)))

  -- with fuel for the measure, where fewer steps of the target are dealt with
  back_low : (m low : ℕ) (s : S) (t : T) → ((k : ℕ) (s' : S) (t' : T) → k < m → R s' t' → OnSource k s' t') → measure s t < low → R s t → OnSource m s t
  back_low m zero s t rest le r = absurd (omega arith)
  back_low m (suc low) s t rest le r =
      let b = simulates.blocks s t r in
      ⊎_elim
      (λ h. back_stood m s t r b (omega arith) (λ s' le' r'. back_low m low s' t rest (omega arith) r') b.goes_on)
      (λ h. back_moved m s t r b (omega arith) rest)
      (cases_lt b.count 1)

  back_by : (fuel m : ℕ) (s : S) (t : T) → m < fuel → R s t → OnSource m s t
  back_by zero m s t le r = absurd (omega arith)
  back_by (suc fuel) m s t le r =
      back_low m (measure s t + 1) s t (λ k s' t' le' r'. back_by fuel k s' t' (omega arith) r') (omega arith) r

  -- related states match
  pub blocks_match : (s : S) (t : T) → R s t → Match (λ n. see (run f n s)) (λ m. look (run g m t))
  blocks_match s t r =
      record {
        onward = λ n. onward_by n n s t (omega arith) r;
        back = λ m. back_by (m + 1) m s t (omega arith) r;
      }

-- a step is a block of one
block_of : {O S T : Type 0} (rank : O → ℕ) (f : S → S) (g : T → T) (see : S → O) (R : S → T → Type 0) (measure : S → T → ℕ) → IsOrderly rank f see → (s : S) (t : T) → Stepped f g R measure s t → Blocked rank see f g R measure s t
block_of rank f g see R measure orderly s t b =
    record {
      more = 0;
      count = b.count;
      kept = b.kept;
      once = ⊎_elim (λ e. let r = ap rank e in omega arith) (λ e. omega arith) (orderly s);
      goes_on = b.goes_on;
    }

pub blocks_of : {O S T : Type 0} (rank : O → ℕ) (f : S → S) (g : T → T) (see : S → O) (look : T → O) (R : S → T → Type 0) (measure : S → T → ℕ) → IsOrderly rank f see → Simulates f g see look R measure → SimulatesInBlocks rank f g see look R measure
blocks_of rank f g see look R measure orderly h =
    record { same = h.same; blocks = λ s t r. block_of rank f g see R measure orderly s t (h.steps s t r) }

-- THE THEOREM: related states of a simulation show the same, in both directions
pub simulation_match : {O S T : Type 0} (rank : O → ℕ) (f : S → S) (g : T → T) (see : S → O) (look : T → O) (R : S → T → Type 0) (measure : S → T → ℕ) → IsOrderly rank f see → IsOrderly rank g look → Simulates f g see look R measure → (s : S) (t : T) → R s t → Match (λ n. see (run f n s)) (λ m. look (run g m t))
simulation_match rank f g see look R measure source_orderly target_orderly h =
    blocks_match rank f g see look R measure source_orderly target_orderly (blocks_of rank f g see look R measure source_orderly h)
