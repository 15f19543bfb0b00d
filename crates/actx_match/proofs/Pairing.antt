-- Laws of tables, and of tables that are paired.
use Rattle.std.proofs.Common.{◌≡◌, ℕ, zero, suc, List, [], ◌∷◌, ◌++◌, length, Some, refl, sym, ap, ◌∙◌, subst, arith, ◌⊎◌, inl, inr, ⊎_elim, length-append, length-set}
use Rattle.std.specs.Prelude.{◌≢◌, slice_get, slice_set}
use Rattle.std.proofs.lemmas.Bool.{cases_eq}
use Rattle.std.proofs.lemmas.Option.{slice_get_within}
use Rattle.actx_match.specs.Pairing.{Paired, Extends, IsOwned}

-- TABLES
pub get_front : {A : Type 0} (xs ys : List A) (i : ℕ) (a : A) → slice_get xs i ≡ Some a → slice_get (xs ++ ys) i ≡ Some a
get_front [] ys i a h = cc
get_front (x ∷ xs) ys zero a h = h
get_front (x ∷ xs) ys (suc i) a h = get_front xs ys i a h

pub get_last : {A : Type 0} (xs : List A) (a : A) → slice_get (xs ++ a ∷ []) (length xs) ≡ Some a
get_last [] a = refl
get_last (x ∷ xs) a = get_last xs a

pub set_last : {A : Type 0} (xs : List A) (a b : A) → slice_set (xs ++ a ∷ []) (length xs) b ≡ xs ++ b ∷ []
set_last [] a b = refl
set_last (x ∷ xs) a b = ap (λ ys. x ∷ ys) (set_last xs a b)

-- a place in a table with one entry more is an old place, or the new one
pub get_cases : {A : Type 0} (xs : List A) (a b : A) (i : ℕ) → slice_get (xs ++ a ∷ []) i ≡ Some b → (slice_get xs i ≡ Some b) ⊎ ((i ≡ length xs) × (a ≡ b))
get_cases [] a b zero h = inr (refl, cc)
get_cases [] a b (suc i) h = absurd (cc)
get_cases (x ∷ xs) a b zero h = inl h
get_cases (x ∷ xs) a b (suc i) h = ⊎_elim (λ k. inl k) (λ k. inr (ap suc k.0, k.1)) (get_cases xs a b i h)

pub get_set_same : {A : Type 0} (xs : List A) (i : ℕ) (a b : A) → slice_get xs i ≡ Some a → slice_get (slice_set xs i b) i ≡ Some b
get_set_same [] i a b h = absurd (cc)
get_set_same (x ∷ xs) zero a b h = refl
get_set_same (x ∷ xs) (suc i) a b h = get_set_same xs i a b h

pub get_set_other : {A : Type 0} (xs : List A) (i j : ℕ) (b : A) → j ≢ i → slice_get (slice_set xs i b) j ≡ slice_get xs j
get_set_other [] i j b h = refl
get_set_other (x ∷ xs) zero zero b h = absurd (h refl)
get_set_other (x ∷ xs) zero (suc j) b h = refl
get_set_other (x ∷ xs) (suc i) zero b h = refl
get_set_other (x ∷ xs) (suc i) (suc j) b h = get_set_other xs i j b (λ e. h (ap suc e))

pub append_nil : {A : Type 0} (xs : List A) → xs ++ [] ≡ xs
append_nil [] = refl
append_nil (x ∷ xs) = ap (λ ys. x ∷ ys) (append_nil xs)

-- LISTS OF PLACES
pub extends_same : (places : List ℕ) → Extends places places
extends_same places = record { says = λ i k h. h }

pub extends_more : (places : List ℕ) (place : ℕ) → Extends places (places ++ place ∷ [])
extends_more places place = record { says = λ i k h. get_front places (place ∷ []) i k h }

pub extends_on : (a b c : List ℕ) → Extends a b → Extends b c → Extends a c
extends_on a b c h g = record { says = λ i k e. g.says i k (h.says i k e) }

-- PAIRED TABLES
module _ {A B : Type 0} (P : A → B → Type 0) where
  pub paired_none : (ys : List B) → Paired P [] [] ys
  paired_none ys = record { long = refl; apart = λ i j k e f. absurd (cc); pair = λ i k e. absurd (cc) }

  pub paired_weaker : (Q : A → B → Type 0) (places : List ℕ) (xs : List A) (ys : List B) → ((a : A) (b : B) → P a b → Q a b) → Paired P places xs ys → Paired Q places xs ys
  paired_weaker Q places xs ys f h =
      record {
        long = h.long;
        apart = h.apart;
        pair = λ i k e. let p = h.pair i k e in (p.0, p.1, p.2, p.3, f p.0 p.1 p.4);
      }

  -- the second table gets entries that the first has not
  pub paired_extra : (places : List ℕ) (xs : List A) (ys zs : List B) → Paired P places xs ys → Paired P places xs (ys ++ zs)
  paired_extra places xs ys zs h =
      record {
        long = h.long;
        apart = h.apart;
        pair = λ i k e. let p = h.pair i k e in (p.0, p.1, p.2, get_front ys zs k p.1 p.3, p.4);
      }

  -- the second table gets another entry at a place of its own
  pub paired_owned : (places : List ℕ) (xs : List A) (ys : List B) (m : ℕ) (b : B) → IsOwned places m → Paired P places xs ys → Paired P places xs (slice_set ys m b)
  paired_owned places xs ys m b own h =
      record {
        long = h.long;
        apart = h.apart;
        pair = λ i k e. let p = h.pair i k e in (p.0, p.1, p.2, get_set_other ys m k b (λ same. own i (e ∙ ap Some same)) ∙ p.3, p.4);
      }

  -- a new place of the second table is its own
  pub paired_fresh : (places : List ℕ) (xs : List A) (ys : List B) → Paired P places xs ys → IsOwned places (length ys)
  paired_fresh places xs ys h i e =
      let p = h.pair i (length ys) e in
      let within = slice_get_within ys (length ys) p.1 p.3 in
      omega arith

  -- both get an entry
  pub paired_more : (places : List ℕ) (xs : List A) (ys : List B) (a : A) (b : B) → P a b → Paired P places xs ys → Paired P (places ++ length ys ∷ []) (xs ++ a ∷ []) (ys ++ b ∷ [])
  paired_more places xs ys a b here h =
      record {
        long = omega (arith, h.long, length-append places (length ys ∷ []), length-append xs (a ∷ []));
        apart = λ i j k e f. ⊎_elim
            (λ old. ⊎_elim (λ old2. h.apart i j k old old2) (λ new2. absurd (fresh k i old new2.1)) (get_cases places (length ys) k j f))
            (λ new. ⊎_elim (λ old2. absurd (fresh k j old2 new.1)) (λ new2. new.0 ∙ sym new2.0) (get_cases places (length ys) k j f))
            (get_cases places (length ys) k i e);
        pair = λ i k e. ⊎_elim
            (λ old. let p = h.pair i k old in (p.0, p.1, get_front xs (a ∷ []) i p.0 p.2, get_front ys (b ∷ []) k p.1 p.3, p.4))
            (λ new. (a, b, subst (λ n. slice_get (xs ++ a ∷ []) n ≡ Some a) (sym (new.0 ∙ h.long)) (get_last xs a), subst (λ n. slice_get (ys ++ b ∷ []) n ≡ Some b) new.1 (get_last ys b), here))
            (get_cases places (length ys) k i e);
      }
    where
      fresh : (k i : ℕ) → slice_get places i ≡ Some k → length ys ≡ k → ⊥
      fresh k i e n = let p = h.pair i k e in let within = slice_get_within ys k p.1 p.3 in omega arith

  -- where the first table's next entry will stand among the places
  pub paired_place : (places : List ℕ) (xs : List A) (ys : List B) → Paired P places xs ys → slice_get (places ++ length ys ∷ []) (length xs) ≡ Some (length ys)
  paired_place places xs ys h = subst (λ n. slice_get (places ++ length ys ∷ []) n ≡ Some (length ys)) h.long (get_last places (length ys))

  -- both get another entry at places that correspond
  pub paired_set : (places : List ℕ) (xs : List A) (ys : List B) (n m : ℕ) (a : A) (b : B) → slice_get places n ≡ Some m → P a b → Paired P places xs ys → Paired P places (slice_set xs n a) (slice_set ys m b)
  paired_set places xs ys n m a b at here h =
      record {
        long = h.long ∙ sym (length-set xs n a);
        apart = h.apart;
        pair = λ i k e. ⊎_elim
            (λ same.
            let p = h.pair n m at in
            let k_is : k ≡ m = some_same k m (sym e ∙ ap (slice_get places) same ∙ at) in
            (a, b, subst (λ x. slice_get (slice_set xs n a) x ≡ Some a) (sym same) (get_set_same xs n p.0 a p.2), subst (λ x. slice_get (slice_set ys m b) x ≡ Some b) (sym k_is) (get_set_same ys m p.1 b p.3), here))
            (λ other.
            let p = h.pair i k e in
            (p.0, p.1, get_set_other xs n i a other ∙ p.2, get_set_other ys m k b (λ k_is. other (h.apart i n k e (at ∙ ap Some (sym k_is)))) ∙ p.3, p.4))
            (cases_eq i n);
      }
    where
      some_same : (x y : ℕ) → Some x ≡ Some y → x ≡ y
      some_same x y e = cc
