-- Names that are the same, names among others, and parts of lists.
use Rattle.std.proofs.Common.{◌≡◌, ℕ, suc, ◌-◌, ◌<◌, Bool, true, false, ◌||◌, List, [], ◌∷◌, ◌++◌, length, drop, take, Some, None, is_some, if◌then◌else◌, reverse, refl, sym, ◌∙◌, ap, arith, length-append}
use Rattle.std.proofs.Math.Seq.{drop-append_seam}
use Rattle.std.proofs.lemmas.Bool.Decides.{Decides-eqb}
use Rattle.std.proofs.lemmas.List.{reverse-append, length-reverse, length-drop, take-append-drop}
use Rattle.std.proofs.lemmas.Slice.Eq.{slice_eq-Decides}
use Rattle.std.specs.List.{list_any}
use Rattle.indexmap.specs.IndexSet.{insert_key}
use Rattle.actx_grammar.specs.Static.{Declared, Place, undeclared, reserved, same_name, is_among, names_of, unusable, offends_if, use_offences}
use Rattle.actx_scope.specs.Found.{found, grown, outer_part}

-- THE SAME
pub same_is : (x y : List ℕ) → same_name x y ≡ true → x ≡ y
same_is x y h = (slice_eq-Decides Decides-eqb x y (same_name x y) refl).0 h

pub same_self : (x : List ℕ) → same_name x x ≡ true
same_self x = (slice_eq-Decides Decides-eqb x x (same_name x x) refl).1 refl

pub same_sym : (x y : List ℕ) → same_name x y ≡ same_name y x
same_sym x y = by (same_name x y) refl (same_name y x) refl
  where
    by : (a : Bool) → same_name x y ≡ a → (b : Bool) → same_name y x ≡ b → same_name x y ≡ same_name y x
    by true e true f = e ∙ sym f
    by false e false f = e ∙ sym f
    by true e false f = ap (λ (z : List ℕ). same_name x z) (sym (same_is x y e)) ∙ same_self x ∙ sym (ap (λ (z : List ℕ). same_name z x) (sym (same_is x y e)) ∙ same_self x)
    by false e true f = ap (λ (z : List ℕ). same_name x z) (same_is y x f) ∙ same_self x ∙ sym (ap (λ (z : List ℕ). same_name z x) (same_is y x f) ∙ same_self x)

-- AMONG
among_append : (xs ys : List (List ℕ)) (x : List ℕ) → is_among (xs ++ ys) x ≡ (is_among xs x || is_among ys x)
among_append [] ys x = refl
among_append (y ∷ xs) ys x = by (same_name x y) (among_append xs ys x)
  where
    by : (b : Bool) → is_among (xs ++ ys) x ≡ (is_among xs x || is_among ys x) → (b || is_among (xs ++ ys) x) ≡ ((b || is_among xs x) || is_among ys x)
    by true e = refl
    by false e = e

-- a set's names, the last one first
pub among_reverse : (ks : List (List ℕ)) (x : List ℕ) → is_among (reverse ks) x ≡ list_any (same_name x) ks
among_reverse [] x = refl
among_reverse (k ∷ ks) x =
    ap (λ (l : List (List ℕ)). is_among l x) (reverse-append (k ∷ []) ks)
    ∙ among_append (reverse ks) (k ∷ []) x
    ∙ ap (λ b. b || (same_name x k || false)) (among_reverse ks x)
    ∙ swap (list_any (same_name x) ks) (same_name x k)
  where
    swap : (a b : Bool) → (a || (b || false)) ≡ (b || a)
    swap true true = refl
    swap true false = refl
    swap false true = refl
    swap false false = refl

-- and with one more
pub grown_reverse : (ks : List (List ℕ)) (x : List ℕ) → reverse (insert_key same_name ks x) ≡ grown (reverse ks) x
grown_reverse ks x = by (list_any (same_name x) ks) refl
  where
    by : (b : Bool) → list_any (same_name x) ks ≡ b → reverse (insert_key same_name ks x) ≡ grown (reverse ks) x
    by true e =
        ap (λ c. reverse (if c then ks else ks ++ x ∷ [])) e
        ∙ sym (ap (λ c. if c then reverse ks else x ∷ reverse ks) (among_reverse ks x ∙ e))
    by false e =
        ap (λ c. reverse (if c then ks else ks ++ x ∷ [])) e
        ∙ reverse-append ks (x ∷ [])
        ∙ sym (ap (λ c. if c then reverse ks else x ∷ reverse ks) (among_reverse ks x ∙ e))

-- a name is found exactly where it is among those that are known
pub among_known : (ks : List Declared) (x : List ℕ) → is_among (names_of ks) x ≡ is_some (found ks x)
among_known [] x = refl
among_known (d ∷ ds) x = ap (λ b. b || is_among (names_of ds) x) (same_sym x d.name) ∙ by (same_name d.name x) (among_known ds x)
  where
    by : (b : Bool) → is_among (names_of ds) x ≡ is_some (found ds x) → (b || is_among (names_of ds) x) ≡ is_some (if b then Some d.node else found ds x)
    by true e = refl
    by false e = e

module _ (p : Place) (n : ℕ) (x : List ℕ) where
  -- a name that may be used offends where it isn't found
  used : (b c : Bool) → is_among unusable x ≡ b → is_among (names_of p.known) x ≡ c → use_offences p n x ≡ (if b then offends_if true n reserved else offends_if (if c then false else true) n undeclared)
  used b c e f = ap (λ z. if z then offends_if true n reserved else offends_if (if is_among (names_of p.known) x then false else true) n undeclared) e ∙ ap (λ z. if b then offends_if true n reserved else offends_if (if z then false else true) n undeclared) f

  pub used_found : (k : ℕ) → is_among unusable x ≡ false → found p.known x ≡ Some k → use_offences p n x ≡ []
  used_found k e f = used false true e (among_known p.known x ∙ ap is_some f)

  pub used_lost : is_among unusable x ≡ false → found p.known x ≡ None → use_offences p n x ≡ offends_if true n undeclared
  used_lost e f = used false false e (among_known p.known x ∙ ap is_some f)

-- PARTS
-- the outermost part of a list is that of the list without its first item, where there is more
pub outer_less : {X : Type 0} (count : ℕ) (xs : List X) → count < length xs → outer_part count (drop 1 xs) ≡ outer_part count xs
outer_less count [] h = absurd (omega arith)
outer_less count (x ∷ xs) h =
    let e : length (x ∷ xs) - count ≡ suc (length xs - count) = omega arith in
    rw e refl

-- the outermost part is what stood behind some others
pub outer_behind : {X : Type 0} (ys xs : List X) → outer_part (length xs) (ys ++ xs) ≡ xs
outer_behind [] xs =
    let e : length xs - length xs ≡ 0 = omega arith in
    rw e refl
outer_behind (y ∷ ys) xs = sym (outer_less (length xs) (y ∷ (ys ++ xs)) (omega (arith, length-append ys xs))) ∙ outer_behind ys xs

-- the first names of a set are the outermost of its list
pub outer_first : {X : Type 0} (count : ℕ) (xs : List X) → reverse (take count xs) ≡ outer_part count (reverse xs)
outer_first count xs =
    let parts = ap reverse (sym (take-append-drop count xs)) ∙ reverse-append (take count xs) (drop count xs) in
    let e : length (reverse xs) - count ≡ length (reverse (drop count xs)) = omega (arith, length-reverse xs, length-reverse (drop count xs), length-drop count xs) in
    sym (ap (λ n. drop n (reverse xs)) e ∙ ap (drop (length (reverse (drop count xs)))) parts ∙ drop-append_seam (reverse (drop count xs)) (reverse (take count xs)))
