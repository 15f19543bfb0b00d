-- Walks put together: what a walk passes and which places it notes, wherever it begins.
use Rattle.std.proofs.Common.{◌≡◌, ℕ, zero, suc, ◌+◌, ◌-◌, ◌≤◌, ◌<◌, nat_lt, slice_set, List, [], ◌∷◌, ◌++◌, length, Bool, true, false, ◌&&◌, if◌then◌else◌, refl, sym, ◌∙◌, ap, subst, arith, append_assoc}
use Rattle.std.proofs.lemmas.Bool.Decides.{nat_tests}
use Rattle.std.proofs.lemmas.List.{append-nil, length-append}
use Rattle.actx_grammar.specs.declared.token.Sign.TheVariants as s
use Rattle.actx_grammar.specs.Lexemes.{Lexeme, sign}
use Rattle.actx_places.specs.Walk.{Group, group, Walk, walk, at, rest, places, is_sign, step, pass, mark, later, settle, begin, leave, close_some, close, open_more, open_all, own}

-- the walk passes these tokens and notes these places, which depend on where it begins
pub record Goes (f : Walk → Walk) (x : List Lexeme) (p : ℕ → List ℕ) : Type 0 where
  pub passes : (n : ℕ) (ts : List Lexeme) (ps : List ℕ) (gs : List Group) → f (walk n (x ++ ts) ps gs) ≡ walk (n + length x) ts (ps ++ p n) gs

same : {m n : ℕ} {ts us : List Lexeme} {ps qs : List ℕ} {gs : List Group} → m ≡ n → ts ≡ us → ps ≡ qs → walk m ts ps gs ≡ walk n us qs gs
same a b c = cc

pub goes_end : Goes (λ w. w) [] (λ n. [])
goes_end = record { passes = λ n ts ps gs. same (omega arith) refl (sym (append-nil ps)) }

pub goes_step : {f : Walk → Walk} {y : List Lexeme} {q : ℕ → List ℕ} (t : Lexeme) → Goes f y q → Goes (λ w. f (step w)) (t ∷ y) (λ n. q (suc n))
goes_step {f = f} {y = y} {q = q} t h = record { passes = λ n ts ps gs. h.passes (suc n) ts ps gs ∙ same (omega arith) refl refl }

pub goes_mark : {f : Walk → Walk} {y : List Lexeme} {q : ℕ → List ℕ} → Goes f y q → Goes (λ w. f (mark w)) y (λ n. n ∷ q n)
goes_mark {y = y} {q = q} h = record { passes = λ n ts ps gs. h.passes n ts (ps ++ n ∷ []) gs ∙ same refl refl (append_assoc ps (n ∷ []) (q n)) }

pub goes_before : {f g : Walk → Walk} {x y : List Lexeme} {p q : ℕ → List ℕ} → Goes f x p → Goes g y q → Goes (λ w. g (f w)) (x ++ y) (λ n. p n ++ q (n + length x))
goes_before {f = f} {g = g} {x = x} {y = y} {p = p} {q = q} a b = record {
  passes = λ n ts ps gs.
      ap (λ z. g (f (walk n z ps gs))) (append_assoc x y ts)
      ∙ ap g (a.passes n (y ++ ts) ps gs)
      ∙ b.passes (n + length x) ts (ps ++ p n) gs
      ∙ same (let e : length (x ++ y) ≡ length x + length y = length-append x y in omega arith) refl (append_assoc ps (p n) (q (n + length x)));
}

-- a last token
pub goes_last : {f : Walk → Walk} {x : List Lexeme} {p : ℕ → List ℕ} (t : Lexeme) → Goes f x p → Goes (λ w. step (f w)) (x ++ t ∷ []) p
goes_last {f = f} {x = x} {p = p} t a = record {
  passes = λ n ts ps gs.
      ap (λ z. step (f (walk n z ps gs))) (append_assoc x (t ∷ []) ts)
      ∙ ap step (a.passes n (t ∷ ts) ps gs)
      ∙ same (let e : length (x ++ t ∷ []) ≡ length x + 1 = length-append x (t ∷ []) in omega arith) refl refl;
}

-- the same tokens and places, said otherwise
pub goes_as : {f : Walk → Walk} {x y : List Lexeme} {p q : ℕ → List ℕ} → Goes f x p → x ≡ y → ((n : ℕ) → p n ≡ q n) → Goes f y q
goes_as {f = f} {x = x} {p = p} a e h = record { passes = λ n ts ps gs. subst (λ z. f (walk n (z ++ ts) ps gs) ≡ walk (n + length z) ts (ps ++ p n) gs) e (a.passes n ts ps gs) ∙ same refl refl (ap (λ z. ps ++ z) (h n)) }

-- PARENTHESES
abbrev pub opens : List Bool → List Lexeme
opens [] = []
opens (b ∷ bs) = sign s.OpenParen b ∷ opens bs

pub opens_more : (bs : List Bool) (b : Bool) (ts : List Lexeme) → opens (bs ++ b ∷ []) ++ ts ≡ opens bs ++ sign s.OpenParen b ∷ ts
opens_more [] b ts = refl
opens_more (c ∷ bs) b ts = ap (λ z. sign s.OpenParen c ∷ z) (opens_more bs b ts)

-- behind some parentheses an expression begins, and leaves them open
pub record Row (f : Walk → Walk) (x : List Lexeme) (p : ℕ → List ℕ) : Type 0 where
  pub leads : (bs : List Bool) (c n : ℕ) (ts : List Lexeme) (ps : List ℕ) (gs : List Group) → c + length bs ≡ n → f (walk c (opens bs ++ (x ++ ts)) ps (group c c ∷ gs)) ≡ walk (n + length x) ts (ps ++ p n) (group c n ∷ gs)

-- and passes those that close behind it
pub record Spine (f : Walk → Walk) (x : List Lexeme) (p : ℕ → List ℕ) : Type 0 where
  pub closes : (bs : List Bool) (c n : ℕ) (ts : List Lexeme) (ps : List ℕ) (gs : List Group) → c + length bs ≡ n → f (walk c (opens bs ++ (x ++ ts)) ps (group c c ∷ gs)) ≡ close (walk (n + length x) ts (ps ++ p n) (group c n ∷ gs))

pub closed : {f : Walk → Walk} {x : List Lexeme} {p : ℕ → List ℕ} → Row f x p → Spine (λ w. close (f w)) x p
closed h = record { closes = λ bs c n ts ps gs e. ap close (h.leads bs c n ts ps gs e) }

pub row_before : {f g : Walk → Walk} {x y : List Lexeme} {p q : ℕ → List ℕ} → Row f x p → Goes g y q → Row (λ w. g (f w)) (x ++ y) (λ n. p n ++ q (n + length x))
row_before {f = f} {g = g} {x = x} {y = y} {p = p} {q = q} a b = record {
  leads = λ bs c n ts ps gs i.
      ap (λ z. g (f (walk c (opens bs ++ z) ps (group c c ∷ gs)))) (append_assoc x y ts)
      ∙ ap g (a.leads bs c n (y ++ ts) ps gs i)
      ∙ b.passes (n + length x) ts (ps ++ p n) (group c n ∷ gs)
      ∙ same (let e : length (x ++ y) ≡ length x + length y = length-append x y in omega arith) refl (append_assoc ps (p n) (q (n + length x)));
}

pub row_as : {f : Walk → Walk} {x y : List Lexeme} {p q : ℕ → List ℕ} → Row f x p → x ≡ y → ((n : ℕ) → p n ≡ q n) → Row f y q
row_as {f = f} {x = x} {p = p} a e h = record { leads = λ bs c n ts ps gs i. subst (λ z. f (walk c (opens bs ++ (z ++ ts)) ps (group c c ∷ gs)) ≡ walk (n + length z) ts (ps ++ p n) (group c n ∷ gs)) e (a.leads bs c n ts ps gs i) ∙ same refl refl (ap (λ z. ps ++ z) (h n)) }

pub lt_true : (m n : ℕ) → m < n → nat_lt m n ≡ true
lt_true m n h = grind (arith, nat_tests)

pub lt_false : (m n : ℕ) → n ≤ m → nat_lt m n ≡ false
lt_false m n h = grind (arith, nat_tests)

same_place : (n : ℕ) → nat_lt n n ≡ false
same_place n = lt_false n n (omega arith)

none_open : (n m : ℕ) (ts : List Lexeme) (ps : List ℕ) (gs : List Group) → close_some n n m ts ps gs ≡ walk m ts ps (group n n ∷ gs)
none_open n m [] ps gs = refl
none_open n m (t ∷ ts) ps gs = let e = same_place n in cc

-- an expression of its own
pub goes_expr : {f : Walk → Walk} {x : List Lexeme} {p : ℕ → List ℕ} → Spine f x p → Goes (λ w. leave (f (begin w))) x p
goes_expr {x = x} {p = p} h = record { passes = λ n ts ps gs. ap leave (h.closes [] n n ts ps gs (omega arith) ∙ none_open n (n + length x) ts (ps ++ p n) gs) }

one_closed : (c n m : ℕ) (d : Bool) (ts : List Lexeme) (ps : List ℕ) (gs : List Group) → c ≤ n → close_some c (suc n) m (sign s.CloseParen d ∷ ts) ps gs ≡ close_some c n (suc m) ts ps gs
one_closed c n m d ts ps gs h = let e : nat_lt c (suc n) ≡ true = lt_true c (suc n) (omega (arith, h)) in let i : suc n - 1 ≡ n = omega arith in cc

-- in parentheses
pub in_parens : {f : Walk → Walk} {x : List Lexeme} {p : ℕ → List ℕ} (b d : Bool) → Spine f x p → Spine f (sign s.OpenParen b ∷ (x ++ sign s.CloseParen d ∷ [])) (λ n. p (suc n))
in_parens {f = f} {x = x} {p = p} b d h = record {
  closes = λ bs c n ts ps gs i.
      ap (λ z. f (walk c (opens bs ++ sign s.OpenParen b ∷ z) ps (group c c ∷ gs))) (append_assoc x (sign s.CloseParen d ∷ []) ts)
      ∙ ap (λ z. f (walk c z ps (group c c ∷ gs))) (sym (opens_more bs b (x ++ sign s.CloseParen d ∷ ts)))
      ∙ h.closes (bs ++ b ∷ []) c (suc n) (sign s.CloseParen d ∷ ts) ps gs (let e : length (bs ++ b ∷ []) ≡ length bs + 1 = length-append bs (b ∷ []) in omega arith)
      ∙ one_closed c n (suc n + length x) d ts (ps ++ p (suc n)) gs (omega arith)
      ∙ ap (λ m. close (walk m ts (ps ++ p (suc n)) (group c n ∷ gs))) (let e : length (x ++ sign s.CloseParen d ∷ []) ≡ length x + 1 = length-append x (sign s.CloseParen d ∷ []) in omega arith);
}

-- LEFT OPERANDS
put_last : (ps qs : List ℕ) (m : ℕ) → slice_set ((ps ++ 0 ∷ []) ++ qs) (length ps) m ≡ ps ++ m ∷ qs
put_last [] qs m = refl
put_last (p ∷ ps) qs m = ap (λ z. p ∷ z) (put_last ps qs m)

and_false : (b : Bool) → (b && false) ≡ false
and_false true = refl
and_false false = refl

pub not_closed : (c n o : ℕ) (t : Lexeme) (ts : List Lexeme) (ps : List ℕ) (gs : List Group) → is_sign s.CloseParen t.kind ≡ false → close_some c o n (t ∷ ts) ps gs ≡ walk n (t ∷ ts) ps (group c o ∷ gs)
not_closed c n o t ts ps gs e = let i : (nat_lt c o && is_sign s.CloseParen t.kind) ≡ false = ap (λ b. nat_lt c o && b) e ∙ and_false (nat_lt c o) in cc

-- the expression that a left operand begins, and what stands behind that operand
pub left : {f g : Walk → Walk} {x y : List Lexeme} {p q : ℕ → List ℕ} (t : Lexeme) → is_sign s.CloseParen t.kind ≡ false → Spine f x p → Goes g (t ∷ y) q → Row (λ w. g (settle (length (places w)) (f (later w)))) (x ++ t ∷ y) (λ n. n ∷ (p n ++ q (n + length x)))
left {f = f} {g = g} {x = x} {y = y} {p = p} {q = q} t e a b = record {
  leads = λ bs c n ts ps gs i.
      ap (λ z. g (settle (length ps) (f (walk c (opens bs ++ z) (ps ++ 0 ∷ []) (group c c ∷ gs))))) (append_assoc x (t ∷ y) ts)
      ∙ ap (λ z. g (settle (length ps) z)) (a.closes bs c n (t ∷ (y ++ ts)) (ps ++ 0 ∷ []) gs i ∙ not_closed c (n + length x) n t (y ++ ts) ((ps ++ 0 ∷ []) ++ p n) gs e)
      ∙ ap (λ z. g (walk (n + length x) (t ∷ (y ++ ts)) z (group c n ∷ gs))) (put_last ps (p n) n)
      ∙ b.passes (n + length x) ts (ps ++ n ∷ p n) (group c n ∷ gs)
      ∙ same (let u : length (x ++ t ∷ y) ≡ length x + suc (length y) = length-append x (t ∷ y) in omega arith) refl (append_assoc ps (n ∷ p n) (q (n + length x)));
}

-- LEAVES
opened : (bs : List Bool) (t : Lexeme) (ts : List Lexeme) (m c : ℕ) (ps : List ℕ) (gs : List Group) → is_sign s.OpenParen t.kind ≡ false → open_all (opens bs ++ t ∷ ts) (walk m (opens bs ++ t ∷ ts) ps (group c m ∷ gs)) ≡ walk (m + length bs) (t ∷ ts) ps (group c (m + length bs) ∷ gs)
opened [] t ts m c ps gs e = let a : m ≡ m + 0 = omega arith in cc
opened (b ∷ bs) t ts m c ps gs e = opened bs t ts (suc m) c ps gs e ∙ (let a : suc m + length bs ≡ m + suc (length bs) = omega arith in cc)

-- an expression that begins with a token of its own
pub leaf : {g : Walk → Walk} {y : List Lexeme} {q : ℕ → List ℕ} (t : Lexeme) → is_sign s.OpenParen t.kind ≡ false → Goes g (t ∷ y) q → Row (λ w. g (own w)) (t ∷ y) (λ n. n ∷ q n)
leaf {g = g} {y = y} {q = q} t e h = record {
  leads = λ bs c n ts ps gs i.
      ap (λ w. g (mark w)) (opened bs t (y ++ ts) c c ps gs e)
      ∙ ap (λ m. g (walk m (t ∷ (y ++ ts)) (ps ++ m ∷ []) (group c m ∷ gs))) i
      ∙ h.passes n ts (ps ++ n ∷ []) (group c n ∷ gs)
      ∙ same refl refl (append_assoc ps (n ∷ []) (q n));
}
