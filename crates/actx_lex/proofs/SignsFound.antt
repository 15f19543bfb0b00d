-- The sign that the code finds stands where it is found.
use Rattle.std.proofs.Common.{◌≡◌, inl, inr, ℕ, zero, suc, ◌-◌, ◌<◌, ◌≤◌, true, ◌&&◌, not, List, [], ◌∷◌, Option, Some, None, length, get_or, take, refl, sym, ◌∙◌, ap, subst, arith, eqb}
use Rattle.std.proofs.lemmas.Bool.{cond_both, eqb-true, and_parts, cases_lt}
use Rattle.std.proofs.lemmas.List.{get_or-take, get_or_past}
use Rattle.actx_grammar.specs.declared.token.Sign.{Sign}
use Rattle.actx_grammar.specs.declared.token.Sign.TheVariants as s
use Rattle.actx_grammar.specs.Words.{sign_text}
use Rattle.actx_lex.specs.Characters.{is_digit}
use Rattle.actx_lex.specs.Lexeme.{longest_sign, dot_sign, question_sign, equals_sign, plus_sign, minus_sign, star_sign, not_sign, less_sign, more_sign, and_sign, or_sign}
use Rattle.actx_lex.proofs.SignTexts.{sign_some, sign_small, sign_last}

-- the sign that a text begins with
abbrev pub sign_of : List ℕ → Option Sign
sign_of text = longest_sign (get_or text 0 0) (get_or text 1 0) (get_or text 2 0) (get_or text 3 0)

-- WHAT IS FOUND STANDS THERE
abbrev Reads : ℕ → ℕ → ℕ → Option Sign → Type 0
Reads a b c None = Unit {0}
Reads a b c (Some s) = sign_text s ≡ take (length (sign_text s)) (a ∷ b ∷ c ∷ [])

one : (x a : ℕ) → eqb a x ≡ true → x ∷ [] ≡ a ∷ []
one x a e = ap (λ v. v ∷ []) (sym (eqb-true a x e))

two : (x y a b : ℕ) → eqb a x ≡ true → eqb b y ≡ true → x ∷ y ∷ [] ≡ a ∷ b ∷ []
two x y a b e f = let p = eqb-true a x e in let q = eqb-true b y f in cc

three : (x y z a b c : ℕ) → eqb a x ≡ true → (eqb b y && eqb c z) ≡ true → x ∷ y ∷ z ∷ [] ≡ a ∷ b ∷ c ∷ []
three x y z a b c e f = let p = eqb-true a x e in let q = eqb-true b y (and_parts (eqb b y) (eqb c z) f).0 in let r = eqb-true c z (and_parts (eqb b y) (eqb c z) f).1 in cc

dot_reads : (a b c : ℕ) → eqb a 46 ≡ true → Reads a b c (dot_sign b c)
dot_reads a b c e = cond_both (eqb b 46 && eqb c 46) None _ (Reads a b c) (λ f. tt) (λ _. one 46 a e)

question_reads : (a b c : ℕ) → eqb a 63 ≡ true → Reads a b c (question_sign b c)
question_reads a b c e = cond_both (eqb b 46 && not (is_digit c)) None _ (Reads a b c) (λ f. tt) (λ _. cond_both (eqb b 63 && eqb c 61) None _ (Reads a b c) (λ f. tt) (λ _. cond_both (eqb b 63) (Some s.Coalesce) _ (Reads a b c) (λ f. two 63 63 a b e f) (λ _. one 63 a e)))

equals_reads : (a b c : ℕ) → eqb a 61 ≡ true → Reads a b c (equals_sign b c)
equals_reads a b c e = cond_both (eqb b 61 && eqb c 61) (Some s.Same) _ (Reads a b c) (λ f. three 61 61 61 a b c e f) (λ _. cond_both (eqb b 61) None _ (Reads a b c) (λ f. tt) (λ _. cond_both (eqb b 62) (Some s.Arrow) _ (Reads a b c) (λ f. two 61 62 a b e f) (λ _. one 61 a e)))

plus_reads : (a b c : ℕ) → eqb a 43 ≡ true → Reads a b c (plus_sign b)
plus_reads a b c e = cond_both (eqb b 61) (Some s.AddAssign) _ (Reads a b c) (λ f. two 43 61 a b e f) (λ _. cond_both (eqb b 43) (Some s.Increment) _ (Reads a b c) (λ f. two 43 43 a b e f) (λ _. one 43 a e))

minus_reads : (a b c : ℕ) → eqb a 45 ≡ true → Reads a b c (minus_sign b)
minus_reads a b c e = cond_both (eqb b 61) (Some s.SubAssign) _ (Reads a b c) (λ f. two 45 61 a b e f) (λ _. cond_both (eqb b 45) (Some s.Decrement) _ (Reads a b c) (λ f. two 45 45 a b e f) (λ _. one 45 a e))

star_reads : (a b c : ℕ) → eqb a 42 ≡ true → Reads a b c (star_sign b)
star_reads a b c e = cond_both (eqb b 61) (Some s.MulAssign) _ (Reads a b c) (λ f. two 42 61 a b e f) (λ _. cond_both (eqb b 42) None _ (Reads a b c) (λ f. tt) (λ _. one 42 a e))

not_reads : (a b c : ℕ) → eqb a 33 ≡ true → Reads a b c (not_sign b c)
not_reads a b c e = cond_both (eqb b 61 && eqb c 61) (Some s.NotSame) _ (Reads a b c) (λ f. three 33 61 61 a b c e f) (λ _. cond_both (eqb b 61) None _ (Reads a b c) (λ f. tt) (λ _. one 33 a e))

less_reads : (a b c d : ℕ) → eqb a 60 ≡ true → Reads a b c (less_sign b c d)
less_reads a b c d e = cond_both (eqb b 60) None _ (Reads a b c) (λ f. tt) (λ _. cond_both (eqb b 33 && (eqb c 45 && eqb d 45)) None _ (Reads a b c) (λ f. tt) (λ _. cond_both (eqb b 61) (Some s.LessSame) _ (Reads a b c) (λ f. two 60 61 a b e f) (λ _. one 60 a e)))

more_reads : (a b c : ℕ) → eqb a 62 ≡ true → Reads a b c (more_sign b)
more_reads a b c e = cond_both (eqb b 62) None _ (Reads a b c) (λ f. tt) (λ _. cond_both (eqb b 61) (Some s.MoreSame) _ (Reads a b c) (λ f. two 62 61 a b e f) (λ _. one 62 a e))

and_reads : (a b c : ℕ) → eqb a 38 ≡ true → Reads a b c (and_sign b c)
and_reads a b c e = cond_both (eqb b 38 && eqb c 61) None _ (Reads a b c) (λ f. tt) (λ _. cond_both (eqb b 38) (Some s.And) _ (Reads a b c) (λ f. two 38 38 a b e f) (λ _. tt))

or_reads : (a b c : ℕ) → eqb a 124 ≡ true → Reads a b c (or_sign b c)
or_reads a b c e = cond_both (eqb b 124 && eqb c 61) None _ (Reads a b c) (λ f. tt) (λ _. cond_both (eqb b 124) (Some s.Or) _ (Reads a b c) (λ f. two 124 124 a b e f) (λ _. tt))

reads : (a b c d : ℕ) → Reads a b c (longest_sign a b c d)
reads a b c d =
    cond_both (eqb a 123) (Some s.OpenBrace) _ (Reads a b c) (λ e. one 123 a e) (λ _.
    cond_both (eqb a 125) (Some s.CloseBrace) _ (Reads a b c) (λ e. one 125 a e) (λ _.
    cond_both (eqb a 40) (Some s.OpenParen) _ (Reads a b c) (λ e. one 40 a e) (λ _.
    cond_both (eqb a 41) (Some s.CloseParen) _ (Reads a b c) (λ e. one 41 a e) (λ _.
    cond_both (eqb a 91) (Some s.OpenBracket) _ (Reads a b c) (λ e. one 91 a e) (λ _.
    cond_both (eqb a 93) (Some s.CloseBracket) _ (Reads a b c) (λ e. one 93 a e) (λ _.
    cond_both (eqb a 44) (Some s.Comma) _ (Reads a b c) (λ e. one 44 a e) (λ _.
    cond_both (eqb a 59) (Some s.Semicolon) _ (Reads a b c) (λ e. one 59 a e) (λ _.
    cond_both (eqb a 58) (Some s.Colon) _ (Reads a b c) (λ e. one 58 a e) (λ _.
    cond_both (eqb a 46) (dot_sign b c) _ (Reads a b c) (λ e. dot_reads a b c e) (λ _.
    cond_both (eqb a 63) (question_sign b c) _ (Reads a b c) (λ e. question_reads a b c e) (λ _.
    cond_both (eqb a 61) (equals_sign b c) _ (Reads a b c) (λ e. equals_reads a b c e) (λ _.
    cond_both (eqb a 43) (plus_sign b) _ (Reads a b c) (λ e. plus_reads a b c e) (λ _.
    cond_both (eqb a 45) (minus_sign b) _ (Reads a b c) (λ e. minus_reads a b c e) (λ _.
    cond_both (eqb a 42) (star_sign b) _ (Reads a b c) (λ e. star_reads a b c e) (λ _.
    cond_both (eqb a 33) (not_sign b c) _ (Reads a b c) (λ e. not_reads a b c e) (λ _.
    cond_both (eqb a 60) (less_sign b c d) _ (Reads a b c) (λ e. less_reads a b c d e) (λ _.
    cond_both (eqb a 62) (more_sign b) _ (Reads a b c) (λ e. more_reads a b c e) (λ _.
    cond_both (eqb a 38) (and_sign b c) _ (Reads a b c) (λ e. and_reads a b c e) (λ _.
    cond_both (eqb a 124) (or_sign b c) _ (Reads a b c) (λ e. or_reads a b c e) (λ _.
    tt))))))))))))))))))))

pub reads_some : (a b c d : ℕ) (s : Sign) → longest_sign a b c d ≡ Some s → sign_text s ≡ take (length (sign_text s)) (a ∷ b ∷ c ∷ [])
reads_some a b c d s e = subst (Reads a b c) e (reads a b c d)

pub front_of : (text : List ℕ) (n : ℕ) → n ≤ 3 → n ≤ length text → take n (get_or text 0 0 ∷ get_or text 1 0 ∷ get_or text 2 0 ∷ []) ≡ take n text
front_of text zero small fits = refl
front_of [] (suc n) small fits = absurd (omega arith)
front_of (a ∷ text) (suc zero) small fits = refl
front_of (a ∷ []) (suc (suc n)) small fits = absurd (omega arith)
front_of (a ∷ b ∷ text) (suc (suc zero)) small fits = refl
front_of (a ∷ b ∷ []) (suc (suc (suc n))) small fits = absurd (omega arith)
front_of (a ∷ b ∷ c ∷ text) (suc (suc (suc zero))) small fits = refl
front_of (a ∷ b ∷ c ∷ text) (suc (suc (suc (suc n)))) small fits = absurd (omega arith)

at_three : (text : List ℕ) (i : ℕ) → i < 3 → get_or (get_or text 0 0 ∷ get_or text 1 0 ∷ get_or text 2 0 ∷ []) i 0 ≡ get_or text i 0
at_three text zero lt = refl
at_three text (suc zero) lt = refl
at_three text (suc (suc zero)) lt = refl
at_three text (suc (suc (suc i))) lt = absurd (omega arith)

within : (text : List ℕ) (i : ℕ) → 0 < get_or text i 0 → i < length text
within text i h =
    elim (cases_lt i (length text)) [ inl lt ↦ lt | inr le ↦ absurd (let e = get_or_past text i 0 le in omega arith) ]

pub sign_within : (text : List ℕ) (s : Sign) → sign_of text ≡ Some s → length (sign_text s) ≤ length text
sign_within text s e =
    let w = reads_some (get_or text 0 0) (get_or text 1 0) (get_or text 2 0) (get_or text 3 0) s e in
    let n = length (sign_text s) in
    let pos = sign_some s in
    let small = sign_small s in
    let last = sign_last s in
    let same : get_or (sign_text s) (n - 1) 0 ≡ get_or text (n - 1) 0 =
    ap (λ v. get_or v (n - 1) 0) w
    ∙ get_or-take n (get_or text 0 0 ∷ get_or text 1 0 ∷ get_or text 2 0 ∷ []) (n - 1) 0 (omega arith)
    ∙ at_three text (n - 1) (omega arith) in
    let lt = within text (n - 1) (omega arith) in
    omega arith

-- the sign stands at the front
pub sign_front : (text : List ℕ) (s : Sign) → sign_of text ≡ Some s → sign_text s ≡ take (length (sign_text s)) text
sign_front text s e = reads_some (get_or text 0 0) (get_or text 1 0) (get_or text 2 0) (get_or text 3 0) s e ∙ front_of text (length (sign_text s)) (sign_small s) (sign_within text s e)
