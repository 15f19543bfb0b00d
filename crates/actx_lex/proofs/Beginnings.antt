-- A text begins with one token at most.
use Rattle.std.proofs.Common.{◌≡◌, inl, inr, ℕ, ◌+◌, ◌-◌, ◌<◌, ◌≤◌, Bool, List, ◌++◌, length, get_or, take, drop, sym, ◌∙◌, ap, subst, arith}
use Rattle.std.proofs.lemmas.Bool.{cases_order}
use Rattle.std.proofs.lemmas.List.{take-append-drop, length-take, length-drop, drop-drop, take-take, drop-take, get_or-take}
use Rattle.actx_grammar.specs.declared.token.TokenKind.{TokenKind}
use Rattle.actx_grammar.specs.declared.token.TokenKind.TheVariants as t
use Rattle.actx_lex.specs.Lexical.{IsToken, IsLongest}
use Rattle.actx_lex.specs.Lexeme.{Begins}
use Rattle.actx_lex.proofs.Classes.{blank, class_of}
use Rattle.actx_lex.proofs.Tokens.{kind_class, token_class, one_kind, nonempty_token}

-- CUTS
pub front_grows : (n d : ℕ) (text : List ℕ) → take n text ++ take d (drop n text) ≡ take (n + d) text
front_grows n d text =
    let one : take n (take (n + d) text) ≡ take n text = take-take n (n + d) text (omega arith) in
    let two = drop-take n d text in
    let three = take-append-drop n (take (n + d) text) in
    cc

pub rest_cut : (n d : ℕ) (text : List ℕ) → drop n text ≡ take d (drop n text) ++ drop (n + d) text
rest_cut n d text =
    let one = take-append-drop d (drop n text) in
    let two = drop-drop d n text in
    cc

-- ONE BEGINNING
-- a beginning, whatever follows it
pub record Starts (text : List ℕ) (k : TokenKind) (n : ℕ) : Type 0 where
  pub fits : n ≤ length text
  pub token : IsToken k (take n text)
  pub longest : IsLongest (take n text) (drop n text)

pub starts : {fresh : Bool} {text : List ℕ} {k : TokenKind} {n : ℕ} → Begins fresh text k n → Starts text k n
starts b = record { fits = b.fits; token = b.token; longest = b.longest }

pub begins_some : (fresh : Bool) (text : List ℕ) (k : TokenKind) (n : ℕ) → Begins fresh text k n → 0 < n
begins_some fresh text k n b = omega (arith, nonempty_token k (take n text) b.token, length-take n text)

pub begins_class : (fresh : Bool) (text : List ℕ) (k : TokenKind) (n : ℕ) → Begins fresh text k n → class_of (get_or text 0 0) ≡ kind_class k
begins_class fresh text k n b =
    let e : get_or (take n text) 0 0 ≡ get_or text 0 0 = get_or-take n text 0 0 (begins_some fresh text k n b) in
    ap class_of (sym e) ∙ token_class b.token

pub no_blank_kind : (k : TokenKind) → kind_class k ≡ blank → ⊥
no_blank_kind (t.Name x) e = cc
no_blank_kind (t.Keyword q) e = cc
no_blank_kind (t.Number n) e = cc
no_blank_kind (t.Text u) e = cc
no_blank_kind (t.Sign s) e = cc

-- a longer token leaves no room for a shorter one
no_longer : (text : List ℕ) (k j : TokenKind) (n d : ℕ) → 0 < d → Starts text k n → Starts text j (n + d) → ⊥
no_longer text k j n d pos a b =
    let fits = b.fits in
    let long : 0 < length (take d (drop n text)) = omega (arith, length-take d (drop n text), length-drop n text) in
    a.longest (take d (drop n text)) (drop (n + d) text) (rest_cut n d text)
    (λ e. let z = ap length e in omega arith)
    (inl (j, subst (IsToken j) (sym (front_grows n d text)) b.token))

same_place : (text : List ℕ) (k j : TokenKind) (n m : ℕ) → n ≡ m → Starts text k n → Starts text j m → k ≡ j
same_place text k j n m e a b = one_kind a.token (subst (λ i. IsToken j (take i text)) (sym e) b.token)

apart : (text : List ℕ) (k j : TokenKind) (n m : ℕ) → n < m → Starts text k n → Starts text j m → ⊥
apart text k j n m lt a b =
    let e : m ≡ n + (m - n) = omega arith in
    no_longer text k j n (m - n) (omega arith) a (subst (Starts text j) e b)

pub starts_once : (text : List ℕ) (k j : TokenKind) (n m : ℕ) → Starts text k n → Starts text j m → (k ≡ j) × (n ≡ m)
starts_once text k j n m a b =
    elim (cases_order n m) [
      | inl e ↦ (same_place text k j n m e a b, e)
      | inr o ↦ elim o [ inl lt ↦ absurd (apart text k j n m lt a b) | inr gt ↦ absurd (apart text j k m n gt b a) ]
    ]

pub begins_once : {fresh first : Bool} (text : List ℕ) (k j : TokenKind) (n m : ℕ) → Begins fresh text k n → Begins first text j m → (k ≡ j) × (n ≡ m)
begins_once text k j n m a b = starts_once text k j n m (starts a) (starts b)
