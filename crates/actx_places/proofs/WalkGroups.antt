-- The groups of the code's walk, the innermost last.
use Rattle.std.proofs.Common.{◌≡◌, ℕ, zero, suc, ◌≤◌, ◌<◌, ◌-◌, nat_lt, Bool, true, false, List, [], ◌∷◌, ◌++◌, length, slice_set, refl, ap, arith}
use Rattle.actx_places.specs.declared.places.groups.Group.{Group}
use Rattle.actx_grammar.specs.declared.token.Sign.TheVariants as g
use Rattle.actx_places.specs.Walk as spec
use Rattle.actx_places.specs.WalkView.{onto, close_to, groups}
use Rattle.actx_places.proofs.WalkSteps.{lt_true, lt_false, not_closed}

pub onto_last : (gs : List Group) (g : Group) (r : List Group) → onto (gs ++ g ∷ []) r ≡ g ∷ onto gs r
onto_last [] g r = refl
onto_last (h ∷ gs) g r = onto_last gs g (h ∷ r)

-- beyond the end nothing is set
pub beyond : (ps : List ℕ) (i m : ℕ) → length ps ≤ i → slice_set ps i m ≡ ps
beyond [] i m h = refl
beyond (p ∷ ps) zero m h = absurd (omega (arith, h))
beyond (p ∷ ps) (suc i) m h = ap (λ z. p ∷ z) (beyond ps i m (omega (arith, h)))

-- one more parenthesis ends, or none does
pub close_on : (c o : ℕ) (w : spec.Walk) → c < o → spec.starts_with g.CloseParen (spec.rest w) ≡ true → close_to c o w ≡ close_to c (o - 1) (spec.step w)
close_on c o (spec.walk n [] ps gs) h e = absurd (cc)
close_on c o (spec.walk n (t ∷ ts) ps gs) h e = let i : nat_lt c o ≡ true = lt_true c o h in cc

pub close_all : (c o : ℕ) (w : spec.Walk) → o ≤ c → close_to c o w ≡ spec.walk (spec.at w) (spec.rest w) (spec.places w) (spec.group c o ∷ groups w)
close_all c o (spec.walk n [] ps gs) h = refl
close_all c o (spec.walk n (t ∷ ts) ps gs) h = let i : nat_lt c o ≡ false = lt_false c o h in cc

pub close_off : (c o : ℕ) (w : spec.Walk) → spec.starts_with g.CloseParen (spec.rest w) ≡ false → close_to c o w ≡ spec.walk (spec.at w) (spec.rest w) (spec.places w) (spec.group c o ∷ groups w)
close_off c o (spec.walk n [] ps gs) e = refl
close_off c o (spec.walk n (t ∷ ts) ps gs) e = not_closed c n o t ts ps gs e
