-- Lines and columns, as they are counted a character at a time.
use Rattle.std.proofs.Common.{◌≡◌, inl, inr, ℕ, ◌+◌, ◌≤◌, Bool, true, false, not, cond, ◌&&◌, List, [], ◌∷◌, ◌++◌, length, refl, sym, ◌∙◌, ap, subst, arith, eqb}
use Rattle.std.proofs.lemmas.Bool.{cond_both, eqb-true}
use Rattle.std.proofs.lemmas.List.{append_assoc, append-nil, length-append}
use Rattle.actx_lex.specs.declared.lines.Place.{Place}
use Rattle.actx_lex.specs.Characters.{is_line_end}
use Rattle.actx_lex.specs.Places.{feeds, is_last, line_ends, IsLine, StandsAt}
use Rattle.actx_lex.specs.Counting.{next_line, settled, next_place}

abbrev one_if : Bool → ℕ
one_if b = cond b 1 0

feeds_append : (lf : Bool) (ys zs : List ℕ) → feeds (feeds lf zs) ys ≡ feeds lf (ys ++ zs)
feeds_append lf [] zs = refl
feeds_append lf (y ∷ ys) zs = refl

ends_append : (lf : Bool) (ys zs : List ℕ) → line_ends lf (ys ++ zs) ≡ line_ends (feeds lf zs) ys + line_ends lf zs
ends_append lf [] zs = omega arith
ends_append lf (y ∷ ys) zs =
    let same : one_if (is_last y (feeds lf (ys ++ zs))) ≡ one_if (is_last y (feeds (feeds lf zs) ys)) = ap (λ b. one_if (is_last y b)) (sym (feeds_append lf ys zs)) in
    let more = ends_append lf ys zs in
    omega arith

-- one character more
ends_push : (lf : Bool) (ys : List ℕ) (c : ℕ) → line_ends lf (ys ++ c ∷ []) ≡ line_ends (eqb c 10) ys + one_if (is_last c lf)
ends_push lf ys c = let e = ends_append lf ys (c ∷ []) in omega arith

line_on : (lf : Bool) (ys line : List ℕ) (c : ℕ) → is_last c lf ≡ false → IsLine (eqb c 10) ys line → IsLine lf (ys ++ c ∷ []) (line ++ c ∷ [])
line_on lf ys line c n l = record {
  before = l.before;
  is = ap (λ v. v ++ c ∷ []) l.is ∙ append_assoc l.before line (c ∷ []);
  unbroken = let e = ends_push lf line c in let z = l.unbroken in let k : one_if (is_last c lf) ≡ 0 = ap one_if n in omega arith;
  begins = elim l.begins [
    | inl e ↦ inl e
    | inr b ↦ inr (b.0, b.1, b.2, subst (λ f. is_last b.1 f ≡ true) (feeds_append lf line (c ∷ [])) b.3)
  ];
}

line_new : (lf : Bool) (ys : List ℕ) (c : ℕ) → is_last c lf ≡ true → IsLine lf (ys ++ c ∷ []) []
line_new lf ys c h = record { before = ys ++ c ∷ []; is = sym (append-nil (ys ++ c ∷ [])); unbroken = refl; begins = inr (ys, c, refl, h) }

abbrev pushed : Bool → Place → Place
pushed b p = cond b (next_line p) (record { line = p.line; column = p.column + 1 })

abbrev Stands : Bool → List ℕ → Place → Type 0
Stands lf cs p = StandsAt lf cs p.line p.column

stands_pushed : (lf : Bool) (ys : List ℕ) (c : ℕ) (p : Place) → Stands (eqb c 10) ys p → Stands lf (ys ++ c ∷ []) (pushed (is_last c lf) p)
stands_pushed lf ys c p s =
    let lines = s.lines in
    let ends = ends_push lf ys c in
    cond_both (is_last c lf) (next_line p) (record { line = p.line; column = p.column + 1 }) (Stands lf (ys ++ c ∷ []))
    (λ e. record { lines = let k : one_if (is_last c lf) ≡ 1 = ap one_if e in omega arith; text = []; is_line = line_new lf ys c e; columns = refl })
    (λ e. record {
      lines = let k : one_if (is_last c lf) ≡ 0 = ap one_if e in omega arith;
      text = s.text ++ c ∷ [];
      is_line = line_on lf ys s.text c e s.is_line;
      columns = let k = s.columns in omega (arith, length-append s.text (c ∷ []));
    })

-- the place that is counted, once it is known whether a LF follows
pub record Counted (ys : List ℕ) (p : Place) (returned : Bool) : Type 0 where
  pub stands : (lf : Bool) → Stands lf ys (settled p returned lf)

pub counted_none : Counted [] (record { line = 1; column = 1 }) false
counted_none = record { stands = λ lf. record { lines = refl; text = []; is_line = record { before = []; is = refl; unbroken = refl; begins = inl refl }; columns = refl } }

all_true : (b : Bool) → (b && true) ≡ b
all_true true = refl
all_true false = refl

at_return : (q : Place) (lf : Bool) → settled (next_place q 13) true lf ≡ pushed (is_last 13 lf) q
at_return q true = refl
at_return q false = refl

-- what is settled behind one character more
settled_push : (q : Place) (c : ℕ) (lf returned : Bool) → eqb c 13 ≡ returned → settled (next_place q c) returned lf ≡ pushed (is_last c lf) q
settled_push q c lf true e =
    let is : c ≡ 13 = eqb-true c 13 e in
    subst (λ v. settled (next_place q v) true lf ≡ pushed (is_last v lf) q) (sym is) (at_return q lf)
settled_push q c lf false e =
    let plain : is_last c lf ≡ is_line_end c = ap (λ b. is_line_end c && not (b && lf)) e ∙ all_true (is_line_end c) in
    let other : next_place q c ≡ pushed (is_line_end c) q = ap (λ b. pushed (not b && is_line_end c) q) e in
    other ∙ ap (λ b. pushed b q) (sym plain)

pub counted_push : (ys : List ℕ) (p : Place) (returned : Bool) (c : ℕ) → Counted ys p returned → Counted (ys ++ c ∷ []) (next_place (settled p returned (eqb c 10)) c) (eqb c 13)
counted_push ys p returned c h = record {
  stands = λ lf. subst (Stands lf (ys ++ c ∷ [])) (sym (settled_push (settled p returned (eqb c 10)) c lf (eqb c 13) refl)) (stands_pushed lf ys c (settled p returned (eqb c 10)) (h.stands (eqb c 10)));
}

-- BOUNDS
ends_most : (lf : Bool) (cs : List ℕ) → line_ends lf cs ≤ length cs
ends_most lf [] = omega arith
ends_most lf (c ∷ cs) =
    let more = ends_most lf cs in
    cond_both (is_last c (feeds lf cs)) 1 0 (λ n. n + line_ends lf cs ≤ length (c ∷ cs)) (λ _. omega arith) (λ _. omega arith)

settled_stays : (p : Place) (returned : Bool) → settled p returned true ≡ p
settled_stays p true = refl
settled_stays p false = refl

pub counted_most : (ys : List ℕ) (p : Place) (returned : Bool) → Counted ys p returned → (p.line ≤ length ys + 1) × (p.column ≤ length ys + 1)
counted_most ys p returned h =
    let s = subst (Stands true ys) (settled_stays p returned) (h.stands true) in
    let lines = s.lines in
    let columns = s.columns in
    let most = ends_most true ys in
    let whole = ap length s.is_line.is in
    let parts = length-append s.is_line.before s.text in
    (omega arith, omega arith)

pub settled_most : (p : Place) (returned lf : Bool) → ((settled p returned lf).line ≤ p.line + 1) × ((settled p returned lf).column ≤ p.column + 1)
settled_most p true true = (omega arith, omega arith)
settled_most p true false = (omega arith, omega arith)
settled_most p false lf = (omega arith, omega arith)
