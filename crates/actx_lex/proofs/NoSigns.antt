-- Where the code finds no sign, none begins there.
use Rattle.std.proofs.Common.{◌≡◌, inl, inr, ℕ, ◌+◌, ◌<◌, Bool, true, false, not, ◌&&◌, List, [], ◌∷◌, ◌++◌, Some, None, get_or, take, drop, refl, sym, ◌∙◌, ap, subst, arith, eqb, lit<}
use Rattle.std.proofs.lemmas.Bool.{cond_both, eqb-true, and_parts, and_from, not-true}
use Rattle.std.proofs.lemmas.List.{take-append-drop, drop-drop, get_or-drop}
use Rattle.actx_grammar.specs.declared.token.Sign.{Sign}
use Rattle.actx_grammar.specs.declared.token.Sign.TheVariants as s
use Rattle.actx_grammar.specs.declared.token.TokenKind.{TokenKind}
use Rattle.actx_grammar.specs.Words.{is_name_start, sign_text}
use Rattle.actx_lex.specs.Characters.{is_digit}
use Rattle.actx_lex.specs.Lexical.{IsLongest}
use Rattle.actx_lex.specs.Lexeme.{Begins}
use Rattle.actx_lex.proofs.Classes.{is_quote, other_class}
use Rattle.actx_lex.proofs.Tokens.{reading, mark_reading}
use Rattle.actx_lex.proofs.Beginnings.{begins_class, no_blank_kind}
use Rattle.actx_lex.proofs.SignsFound.{sign_of}
use Rattle.actx_lex.proofs.SignsLongest.{next_digit}

first_is : (rest : List ℕ) (x : ℕ) → 0 < x → eqb (get_or rest 0 0) x ≡ true → rest ≡ (x ∷ []) ++ drop 1 rest
first_is [] x pos h = let e = eqb-true 0 x h in absurd (omega arith)
first_is (c ∷ cs) x pos h = ap (λ v. v ∷ cs) (eqb-true c x h)

second_is : (rest : List ℕ) (x y : ℕ) → 0 < x → 0 < y → (eqb (get_or rest 0 0) x && eqb (get_or rest 1 0) y) ≡ true → rest ≡ (x ∷ y ∷ []) ++ drop 2 rest
second_is [] x y pos some h = let e = eqb-true 0 x (and_parts (eqb 0 x) (eqb 0 y) h).0 in absurd (omega arith)
second_is (c ∷ []) x y pos some h = let e = eqb-true 0 y (and_parts (eqb c x) (eqb 0 y) h).1 in absurd (omega arith)
second_is (c ∷ d ∷ cs) x y pos some h =
    let e = eqb-true c x (and_parts (eqb c x) (eqb d y) h).0 in
    let f = eqb-true d y (and_parts (eqb c x) (eqb d y) h).1 in
    cc

third_is : (rest : List ℕ) (x y z : ℕ) → 0 < x → 0 < y → 0 < z → (eqb (get_or rest 0 0) x && (eqb (get_or rest 1 0) y && eqb (get_or rest 2 0) z)) ≡ true → rest ≡ (x ∷ y ∷ z ∷ []) ++ drop 3 rest
third_is rest x y z p q r h =
    let one = and_parts (eqb (get_or rest 0 0) x) (eqb (get_or rest 1 0) y && eqb (get_or rest 2 0) z) h in
    let f = first_is rest x p one.0 in
    let g : drop 1 rest ≡ (y ∷ z ∷ []) ++ drop 2 (drop 1 rest) = second_is (drop 1 rest) y z q r (and_from _ _ (ap (λ v. eqb v y) (later rest 0) ∙ (and_parts _ _ one.1).0) (ap (λ v. eqb v z) (later rest 1) ∙ (and_parts _ _ one.1).1)) in
    f ∙ ap (λ v. x ∷ v) g ∙ ap (λ v. x ∷ y ∷ z ∷ v) (drop-drop 2 1 rest)
  where
    later : (rest : List ℕ) (i : ℕ) → get_or (drop 1 rest) i 0 ≡ get_or rest (1 + i) 0
    later rest i = get_or-drop 1 rest i 0

none_absurd : (s : Sign) → Some s ≡ None → ⊥
none_absurd s e = cc

-- `?.` with no digit behind it
chain : (rest : List ℕ) → IsLongest (63 ∷ []) rest → (eqb (get_or rest 0 0) 46 && not (is_digit (get_or rest 1 0))) ≡ true → ⊥
chain rest l f =
    let p = and_parts (eqb (get_or rest 0 0) 46) (not (is_digit (get_or rest 1 0))) f in
    l (46 ∷ []) (drop 1 rest) (first_is rest 46 (lit< tt) p.0) (λ z. cc) (inr ((1, lit< tt, refl), λ _. next_digit rest ∙ not-true (is_digit (get_or rest 1 0)) p.1))

-- a sign that stands here is found, unless a punctuator that is no sign is longer
none_longer : (s : Sign) (rest : List ℕ) → sign_of (sign_text s ++ rest) ≡ None → IsLongest (sign_text s) rest → ⊥
none_longer s.OpenBrace rest e l = cc
none_longer s.CloseBrace rest e l = cc
none_longer s.OpenParen rest e l = cc
none_longer s.CloseParen rest e l = cc
none_longer s.OpenBracket rest e l = cc
none_longer s.CloseBracket rest e l = cc
none_longer s.Dot rest e l = (cond_both (eqb (get_or rest 0 0) 46 && eqb (get_or rest 1 0) 46) None _ (λ o. o ≡ None → ⊥) (λ f. λ _. l (46 ∷ 46 ∷ []) (drop 2 rest) (second_is rest 46 46 (lit< tt) (lit< tt) f) (λ z. cc) (inr ((0, lit< tt, refl), λ z. cc))) (λ _. none_absurd s.Dot)) e
none_longer s.Comma rest e l = cc
none_longer s.Semicolon rest e l = cc
none_longer s.Colon rest e l = cc
none_longer s.Question rest e l = (cond_both (eqb (get_or rest 0 0) 46 && not (is_digit (get_or rest 1 0))) None _ (λ o. o ≡ None → ⊥) (λ f. λ _. chain rest l f) (λ _. cond_both (eqb (get_or rest 0 0) 63 && eqb (get_or rest 1 0) 61) None _ (λ o. o ≡ None → ⊥) (λ f. λ _. l (63 ∷ 61 ∷ []) (drop 2 rest) (second_is rest 63 61 (lit< tt) (lit< tt) f) (λ z. cc) (inr ((25, lit< tt, refl), λ z. cc))) (λ _. cond_both (eqb (get_or rest 0 0) 63) (Some s.Coalesce) _ (λ o. o ≡ None → ⊥) (λ _. none_absurd s.Coalesce) (λ _. none_absurd s.Question)))) e
none_longer s.Arrow rest e l = cc
none_longer s.Assign rest e l = (cond_both (eqb (get_or rest 0 0) 61 && eqb (get_or rest 1 0) 61) (Some s.Same) _ (λ o. o ≡ None → ⊥) (λ _. none_absurd s.Same) (λ _. cond_both (eqb (get_or rest 0 0) 61) None _ (λ o. o ≡ None → ⊥) (λ f. λ _. l (61 ∷ []) (drop 1 rest) (first_is rest 61 (lit< tt) f) (λ z. cc) (inr ((2, lit< tt, refl), λ z. cc))) (λ _. cond_both (eqb (get_or rest 0 0) 62) (Some s.Arrow) _ (λ o. o ≡ None → ⊥) (λ _. none_absurd s.Arrow) (λ _. none_absurd s.Assign)))) e
none_longer s.AddAssign rest e l = cc
none_longer s.SubAssign rest e l = cc
none_longer s.MulAssign rest e l = cc
none_longer s.Increment rest e l = cc
none_longer s.Decrement rest e l = cc
none_longer s.Plus rest e l = (cond_both (eqb (get_or rest 0 0) 61) (Some s.AddAssign) _ (λ o. o ≡ None → ⊥) (λ _. none_absurd s.AddAssign) (λ _. cond_both (eqb (get_or rest 0 0) 43) (Some s.Increment) _ (λ o. o ≡ None → ⊥) (λ _. none_absurd s.Increment) (λ _. none_absurd s.Plus))) e
none_longer s.Minus rest e l = (cond_both (eqb (get_or rest 0 0) 61) (Some s.SubAssign) _ (λ o. o ≡ None → ⊥) (λ _. none_absurd s.SubAssign) (λ _. cond_both (eqb (get_or rest 0 0) 45) (Some s.Decrement) _ (λ o. o ≡ None → ⊥) (λ _. none_absurd s.Decrement) (λ _. none_absurd s.Minus))) e
none_longer s.Star rest e l = (cond_both (eqb (get_or rest 0 0) 61) (Some s.MulAssign) _ (λ o. o ≡ None → ⊥) (λ _. none_absurd s.MulAssign) (λ _. cond_both (eqb (get_or rest 0 0) 42) None _ (λ o. o ≡ None → ⊥) (λ f. λ _. l (42 ∷ []) (drop 1 rest) (first_is rest 42 (lit< tt) f) (λ z. cc) (inr ((4, lit< tt, refl), λ z. cc))) (λ _. none_absurd s.Star))) e
none_longer s.Not rest e l = (cond_both (eqb (get_or rest 0 0) 61 && eqb (get_or rest 1 0) 61) (Some s.NotSame) _ (λ o. o ≡ None → ⊥) (λ _. none_absurd s.NotSame) (λ _. cond_both (eqb (get_or rest 0 0) 61) None _ (λ o. o ≡ None → ⊥) (λ f. λ _. l (61 ∷ []) (drop 1 rest) (first_is rest 61 (lit< tt) f) (λ z. cc) (inr ((3, lit< tt, refl), λ z. cc))) (λ _. none_absurd s.Not))) e
none_longer s.Less rest e l = (cond_both (eqb (get_or rest 0 0) 60) None _ (λ o. o ≡ None → ⊥) (λ f. λ _. l (60 ∷ []) (drop 1 rest) (first_is rest 60 (lit< tt) f) (λ z. cc) (inr ((10, lit< tt, refl), λ z. cc))) (λ _. cond_both (eqb (get_or rest 0 0) 33 && (eqb (get_or rest 1 0) 45 && eqb (get_or rest 2 0) 45)) None _ (λ o. o ≡ None → ⊥) (λ f. λ _. l (33 ∷ 45 ∷ 45 ∷ []) (drop 3 rest) (third_is rest 33 45 45 (lit< tt) (lit< tt) (lit< tt) f) (λ z. cc) (inr ((29, lit< tt, refl), λ z. cc))) (λ _. cond_both (eqb (get_or rest 0 0) 61) (Some s.LessSame) _ (λ o. o ≡ None → ⊥) (λ _. none_absurd s.LessSame) (λ _. none_absurd s.Less)))) e
none_longer s.LessSame rest e l = cc
none_longer s.More rest e l = (cond_both (eqb (get_or rest 0 0) 62) None _ (λ o. o ≡ None → ⊥) (λ f. λ _. l (62 ∷ []) (drop 1 rest) (first_is rest 62 (lit< tt) f) (λ z. cc) (inr ((11, lit< tt, refl), λ z. cc))) (λ _. cond_both (eqb (get_or rest 0 0) 61) (Some s.MoreSame) _ (λ o. o ≡ None → ⊥) (λ _. none_absurd s.MoreSame) (λ _. none_absurd s.More))) e
none_longer s.MoreSame rest e l = cc
none_longer s.Same rest e l = cc
none_longer s.NotSame rest e l = cc
none_longer s.And rest e l = (cond_both (eqb (get_or rest 0 0) 61) None _ (λ o. o ≡ None → ⊥) (λ f. λ _. l (61 ∷ []) (drop 1 rest) (first_is rest 61 (lit< tt) f) (λ z. cc) (inr ((23, lit< tt, refl), λ z. cc))) (λ _. none_absurd s.And)) e
none_longer s.Or rest e l = (cond_both (eqb (get_or rest 0 0) 61) None _ (λ o. o ≡ None → ⊥) (λ f. λ _. l (61 ∷ []) (drop 1 rest) (first_is rest 61 (lit< tt) f) (λ z. cc) (inr ((24, lit< tt, refl), λ z. cc))) (λ _. none_absurd s.Or)) e
none_longer s.Coalesce rest e l = (cond_both (eqb (get_or rest 0 0) 61) None _ (λ o. o ≡ None → ⊥) (λ f. λ _. l (61 ∷ []) (drop 1 rest) (first_is rest 61 (lit< tt) f) (λ z. cc) (inr ((25, lit< tt, refl), λ z. cc))) (λ _. none_absurd s.Coalesce)) e

pub sign_refused : (fresh : Bool) (text : List ℕ) (k : TokenKind) (n : ℕ) → sign_of text ≡ None → is_name_start (get_or text 0 0) ≡ false → is_digit (get_or text 0 0) ≡ false → is_quote (get_or text 0 0) ≡ false → Begins fresh text k n → ⊥
sign_refused fresh text k n e h g q b =
    elim (other_class (get_or text 0 0) h g q) [
      | inl c ↦ no_blank_kind k (sym (begins_class fresh text k n b) ∙ c)
      | inr c ↦
          let r = mark_reading k (take n text) (sym (begins_class fresh text k n b) ∙ c) (reading b.token) in
          let whole : sign_text r.0 ++ drop n text ≡ text = ap (λ v. v ++ drop n text) (sym r.2) ∙ take-append-drop n text in
          none_longer r.0 (drop n text) (ap sign_of whole ∙ e) (subst (λ v. IsLongest v (drop n text)) r.2 b.longest)
    ]
