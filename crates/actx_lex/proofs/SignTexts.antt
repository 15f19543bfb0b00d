-- Signs by their texts.
use Rattle.std.proofs.Common.{◌≡◌, ℕ, ◌<◌, ◌≤◌, ◌-◌, false, cond, List, [], ◌∷◌, ◌++◌, Option, Some, None, length, get_or, refl, sym, ◌∙◌, ap, bytes_eq, eqb, lit<, lit≤}
use Rattle.actx_grammar.specs.declared.token.Sign.{Sign}
use Rattle.actx_grammar.specs.declared.token.Sign.TheVariants as s
use Rattle.actx_grammar.specs.Words.{sign_text}
use Rattle.actx_lex.proofs.Classes.{mark, class_of}

pub sign_class : (s : Sign) → class_of (get_or (sign_text s) 0 0) ≡ mark
sign_class s.OpenBrace = refl
sign_class s.CloseBrace = refl
sign_class s.OpenParen = refl
sign_class s.CloseParen = refl
sign_class s.OpenBracket = refl
sign_class s.CloseBracket = refl
sign_class s.Dot = refl
sign_class s.Comma = refl
sign_class s.Semicolon = refl
sign_class s.Colon = refl
sign_class s.Question = refl
sign_class s.Arrow = refl
sign_class s.Assign = refl
sign_class s.AddAssign = refl
sign_class s.SubAssign = refl
sign_class s.MulAssign = refl
sign_class s.Increment = refl
sign_class s.Decrement = refl
sign_class s.Plus = refl
sign_class s.Minus = refl
sign_class s.Star = refl
sign_class s.Not = refl
sign_class s.Less = refl
sign_class s.LessSame = refl
sign_class s.More = refl
sign_class s.MoreSame = refl
sign_class s.Same = refl
sign_class s.NotSame = refl
sign_class s.And = refl
sign_class s.Or = refl
sign_class s.Coalesce = refl

pub sign_first : (s : Sign) (x : List ℕ) → class_of (get_or (sign_text s ++ x) 0 0) ≡ mark
sign_first s.OpenBrace x = refl
sign_first s.CloseBrace x = refl
sign_first s.OpenParen x = refl
sign_first s.CloseParen x = refl
sign_first s.OpenBracket x = refl
sign_first s.CloseBracket x = refl
sign_first s.Dot x = refl
sign_first s.Comma x = refl
sign_first s.Semicolon x = refl
sign_first s.Colon x = refl
sign_first s.Question x = refl
sign_first s.Arrow x = refl
sign_first s.Assign x = refl
sign_first s.AddAssign x = refl
sign_first s.SubAssign x = refl
sign_first s.MulAssign x = refl
sign_first s.Increment x = refl
sign_first s.Decrement x = refl
sign_first s.Plus x = refl
sign_first s.Minus x = refl
sign_first s.Star x = refl
sign_first s.Not x = refl
sign_first s.Less x = refl
sign_first s.LessSame x = refl
sign_first s.More x = refl
sign_first s.MoreSame x = refl
sign_first s.Same x = refl
sign_first s.NotSame x = refl
sign_first s.And x = refl
sign_first s.Or x = refl
sign_first s.Coalesce x = refl

pub sign_some : (s : Sign) → 0 < length (sign_text s)
sign_some s.OpenBrace = lit< tt
sign_some s.CloseBrace = lit< tt
sign_some s.OpenParen = lit< tt
sign_some s.CloseParen = lit< tt
sign_some s.OpenBracket = lit< tt
sign_some s.CloseBracket = lit< tt
sign_some s.Dot = lit< tt
sign_some s.Comma = lit< tt
sign_some s.Semicolon = lit< tt
sign_some s.Colon = lit< tt
sign_some s.Question = lit< tt
sign_some s.Arrow = lit< tt
sign_some s.Assign = lit< tt
sign_some s.AddAssign = lit< tt
sign_some s.SubAssign = lit< tt
sign_some s.MulAssign = lit< tt
sign_some s.Increment = lit< tt
sign_some s.Decrement = lit< tt
sign_some s.Plus = lit< tt
sign_some s.Minus = lit< tt
sign_some s.Star = lit< tt
sign_some s.Not = lit< tt
sign_some s.Less = lit< tt
sign_some s.LessSame = lit< tt
sign_some s.More = lit< tt
sign_some s.MoreSame = lit< tt
sign_some s.Same = lit< tt
sign_some s.NotSame = lit< tt
sign_some s.And = lit< tt
sign_some s.Or = lit< tt
sign_some s.Coalesce = lit< tt

-- each sign is of three characters at most, and none is 0
pub sign_small : (s : Sign) → length (sign_text s) ≤ 3
sign_small s.OpenBrace = lit≤ tt
sign_small s.CloseBrace = lit≤ tt
sign_small s.OpenParen = lit≤ tt
sign_small s.CloseParen = lit≤ tt
sign_small s.OpenBracket = lit≤ tt
sign_small s.CloseBracket = lit≤ tt
sign_small s.Dot = lit≤ tt
sign_small s.Comma = lit≤ tt
sign_small s.Semicolon = lit≤ tt
sign_small s.Colon = lit≤ tt
sign_small s.Question = lit≤ tt
sign_small s.Arrow = lit≤ tt
sign_small s.Assign = lit≤ tt
sign_small s.AddAssign = lit≤ tt
sign_small s.SubAssign = lit≤ tt
sign_small s.MulAssign = lit≤ tt
sign_small s.Increment = lit≤ tt
sign_small s.Decrement = lit≤ tt
sign_small s.Plus = lit≤ tt
sign_small s.Minus = lit≤ tt
sign_small s.Star = lit≤ tt
sign_small s.Not = lit≤ tt
sign_small s.Less = lit≤ tt
sign_small s.LessSame = lit≤ tt
sign_small s.More = lit≤ tt
sign_small s.MoreSame = lit≤ tt
sign_small s.Same = lit≤ tt
sign_small s.NotSame = lit≤ tt
sign_small s.And = lit≤ tt
sign_small s.Or = lit≤ tt
sign_small s.Coalesce = lit≤ tt

pub sign_last : (s : Sign) → 0 < get_or (sign_text s) (length (sign_text s) - 1) 0
sign_last s.OpenBrace = lit< tt
sign_last s.CloseBrace = lit< tt
sign_last s.OpenParen = lit< tt
sign_last s.CloseParen = lit< tt
sign_last s.OpenBracket = lit< tt
sign_last s.CloseBracket = lit< tt
sign_last s.Dot = lit< tt
sign_last s.Comma = lit< tt
sign_last s.Semicolon = lit< tt
sign_last s.Colon = lit< tt
sign_last s.Question = lit< tt
sign_last s.Arrow = lit< tt
sign_last s.Assign = lit< tt
sign_last s.AddAssign = lit< tt
sign_last s.SubAssign = lit< tt
sign_last s.MulAssign = lit< tt
sign_last s.Increment = lit< tt
sign_last s.Decrement = lit< tt
sign_last s.Plus = lit< tt
sign_last s.Minus = lit< tt
sign_last s.Star = lit< tt
sign_last s.Not = lit< tt
sign_last s.Less = lit< tt
sign_last s.LessSame = lit< tt
sign_last s.More = lit< tt
sign_last s.MoreSame = lit< tt
sign_last s.Same = lit< tt
sign_last s.NotSame = lit< tt
sign_last s.And = lit< tt
sign_last s.Or = lit< tt
sign_last s.Coalesce = lit< tt

abbrev find_sign : List Sign → List ℕ → Option Sign
find_sign [] w = None
find_sign (q ∷ qs) w = cond (bytes_eq (sign_text q) w) (Some q) (find_sign qs w)

abbrev all_signs : List Sign
all_signs = s.OpenBrace ∷ s.CloseBrace ∷ s.OpenParen ∷ s.CloseParen ∷ s.OpenBracket ∷ s.CloseBracket ∷ s.Dot ∷ s.Comma ∷ s.Semicolon ∷ s.Colon ∷ s.Question ∷ s.Arrow ∷ s.Assign ∷ s.AddAssign ∷ s.SubAssign ∷ s.MulAssign ∷ s.Increment ∷ s.Decrement ∷ s.Plus ∷ s.Minus ∷ s.Star ∷ s.Not ∷ s.Less ∷ s.LessSame ∷ s.More ∷ s.MoreSame ∷ s.Same ∷ s.NotSame ∷ s.And ∷ s.Or ∷ s.Coalesce ∷ []

found_sign : (q : Sign) → find_sign all_signs (sign_text q) ≡ Some q
found_sign s.OpenBrace = refl
found_sign s.CloseBrace = refl
found_sign s.OpenParen = refl
found_sign s.CloseParen = refl
found_sign s.OpenBracket = refl
found_sign s.CloseBracket = refl
found_sign s.Dot = refl
found_sign s.Comma = refl
found_sign s.Semicolon = refl
found_sign s.Colon = refl
found_sign s.Question = refl
found_sign s.Arrow = refl
found_sign s.Assign = refl
found_sign s.AddAssign = refl
found_sign s.SubAssign = refl
found_sign s.MulAssign = refl
found_sign s.Increment = refl
found_sign s.Decrement = refl
found_sign s.Plus = refl
found_sign s.Minus = refl
found_sign s.Star = refl
found_sign s.Not = refl
found_sign s.Less = refl
found_sign s.LessSame = refl
found_sign s.More = refl
found_sign s.MoreSame = refl
found_sign s.Same = refl
found_sign s.NotSame = refl
found_sign s.And = refl
found_sign s.Or = refl
found_sign s.Coalesce = refl

pub one_sign : (q r : Sign) → sign_text q ≡ sign_text r → q ≡ r
one_sign q r e = let f : Some q ≡ Some r = sym (found_sign q) ∙ ap (find_sign all_signs) e ∙ found_sign r in cc

-- no sign begins as a comment does
pub no_slash : (s : Sign) → eqb (get_or (sign_text s) 0 0) 47 ≡ false
no_slash s.OpenBrace = refl
no_slash s.CloseBrace = refl
no_slash s.OpenParen = refl
no_slash s.CloseParen = refl
no_slash s.OpenBracket = refl
no_slash s.CloseBracket = refl
no_slash s.Dot = refl
no_slash s.Comma = refl
no_slash s.Semicolon = refl
no_slash s.Colon = refl
no_slash s.Question = refl
no_slash s.Arrow = refl
no_slash s.Assign = refl
no_slash s.AddAssign = refl
no_slash s.SubAssign = refl
no_slash s.MulAssign = refl
no_slash s.Increment = refl
no_slash s.Decrement = refl
no_slash s.Plus = refl
no_slash s.Minus = refl
no_slash s.Star = refl
no_slash s.Not = refl
no_slash s.Less = refl
no_slash s.LessSame = refl
no_slash s.More = refl
no_slash s.MoreSame = refl
no_slash s.Same = refl
no_slash s.NotSame = refl
no_slash s.And = refl
no_slash s.Or = refl
no_slash s.Coalesce = refl
