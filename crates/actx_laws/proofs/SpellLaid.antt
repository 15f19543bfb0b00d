-- Tokens in lines, one part behind another.
use Rattle.std.proofs.Common.{◌≡◌, ℕ, suc, ◌≤◌, Bool, true, false, List, [], ◌∷◌, ◌++◌, Option, refl, ap, arith, nat_lt}
use Rattle.std.proofs.lemmas.Bool.Decides.{nat_tests}
use Rattle.actx_grammar.specs.declared.side.Side.{Side}
use Rattle.actx_grammar.specs.declared.token.Sign.TheVariants as g
use Rattle.actx_grammar.specs.declared.token.TokenKind.{TokenKind}
use Rattle.actx_grammar.specs.declared.token.TokenKind.TheVariants as t
use Rattle.actx_grammar.specs.Layout.{ends_line, laid_from}
use Rattle.actx_grammar.specs.Lexemes.{sign, lexeme, kinds, SameLine}
use Rattle.actx_grammar.specs.Tree.{Expr}
use Rattle.actx_grammar.specs.Grammar.{Spells, sp_paren}
use Rattle.actx_grammar.specs.Spell.{Start, within, round, square, braced, in_parens, inner}
use Rattle.actx_grammar.specs.Depth.{with_parens}

-- whether a line ends behind the last of the tokens, or before them where there are none
abbrev pub after : Bool → List TokenKind → Bool
after b [] = b
after b (u ∷ us) = after (ends_line u) us

pub laid_append : (b : Bool) (x y : List TokenKind) → laid_from b (x ++ y) ≡ laid_from b x ++ laid_from (after b x) y
laid_append b [] y = refl
laid_append b (u ∷ x) y = ap (λ z. lexeme u b ∷ z) (laid_append (ends_line u) x y)

pub after_append : (b : Bool) (x y : List TokenKind) → after b (x ++ y) ≡ after (after b x) y
after_append b [] y = refl
after_append b (u ∷ x) y = after_append (ends_line u) x y

-- the kinds of the tokens stay the same
pub kinds_laid : (b : Bool) (x : List TokenKind) → kinds (laid_from b x) ≡ x
kinds_laid b [] = refl
kinds_laid b (u ∷ x) = ap (λ z. u ∷ z) (kinds_laid (ends_line u) x)

pub same_line : (x : List TokenKind) → SameLine (laid_from false x)
same_line [] = tt
same_line (u ∷ x) = refl

-- between parentheses and brackets
pub laid_round : (b : Bool) (x : List TokenKind) → laid_from b (round x) ≡ sign g.OpenParen b ∷ (laid_from false x ++ sign g.CloseParen (after false x) ∷ [])
laid_round b x = ap (λ z. sign g.OpenParen b ∷ z) (laid_append false x (t.Sign g.CloseParen ∷ []))

pub laid_square : (b : Bool) (x : List TokenKind) → laid_from b (square x) ≡ sign g.OpenBracket b ∷ (laid_from false x ++ sign g.CloseBracket (after false x) ∷ [])
laid_square b x = ap (λ z. sign g.OpenBracket b ∷ z) (laid_append false x (t.Sign g.CloseBracket ∷ []))

pub laid_braced : (b : Bool) (x : List TokenKind) → laid_from b (braced x) ≡ sign g.OpenBrace b ∷ (laid_from true x ++ sign g.CloseBrace (after true x) ∷ [])
laid_braced b x = ap (λ z. sign g.OpenBrace b ∷ z) (laid_append true x (t.Sign g.CloseBrace ∷ []))

-- WITH THE PARENTHESES THAT A LEVEL NEEDS
abbrev pub InLevel : Side → Option ℕ → Expr → ℕ → (Start → List TokenKind) → (Start → ℕ) → Type 0
InLevel side most e k X D = (b : Bool) (st : Start) (m : ℕ) → Spells side most m (with_parens (nat_lt k m) (D (within (nat_lt k m) st))) e (laid_from b (in_parens (nat_lt k m) (X (within (nat_lt k m) st))))

bare_level : (k m : ℕ) → nat_lt k m ≡ false → m ≤ k
bare_level k m h = grind (arith, nat_tests)

enclosed : {side : Side} {most : Option ℕ} {d : ℕ} {e : Expr} (x : List TokenKind) (b : Bool) (m : ℕ) → Spells side most 1 d e (laid_from false x) → Spells side most m (suc d) e (laid_from b (round x))
enclosed x b m p = rw (laid_round b x) (sp_paren b (after false x) p)

pub leveled : {side : Side} {most : Option ℕ} {e : Expr} (k : ℕ) (X : Start → List TokenKind) (D : Start → ℕ) → 1 ≤ k → ((b : Bool) (st : Start) (m : ℕ) → m ≤ k → Spells side most m (D st) e (laid_from b (X st))) → InLevel side most e k X D
leveled {side} {most} {e} k X D some f b st m = pick (nat_lt k m) refl
  where
    pick : (w : Bool) → nat_lt k m ≡ w → Spells side most m (with_parens w (D (within w st))) e (laid_from b (in_parens w (X (within w st))))
    pick true q = enclosed (X inner) b m (f false inner 1 some)
    pick false q = f b st m (bare_level k m q)

-- and where it begins something else
pub parted : {side : Side} {most : Option ℕ} {e : Expr} (x : List TokenKind) (d : ℕ) (w : Bool) → ((b : Bool) (m : ℕ) → Spells side most m d e (laid_from b x)) → (b : Bool) (m : ℕ) → Spells side most m (with_parens w d) e (laid_from b (in_parens w x))
parted x d true f b m = enclosed x b m (f false 1)
parted x d false f b m = f b m
