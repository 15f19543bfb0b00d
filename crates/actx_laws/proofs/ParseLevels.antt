-- How tightly the places of operands bind, and what stands behind them.
use Rattle.std.proofs.Common.{◌≡◌, ℕ, suc, ◌≤◌, List, [], ◌∷◌, refl, arith}
use Rattle.actx_grammar.specs.declared.operators.BinaryOp.{BinaryOp}
use Rattle.actx_grammar.specs.declared.operators.BinaryOp.TheVariants as o
use Rattle.actx_grammar.specs.declared.operators.LogicOp.{LogicOp}
use Rattle.actx_grammar.specs.declared.operators.LogicOp.TheVariants.{And, Or, Coalesce}
use Rattle.actx_grammar.specs.declared.token.Sign.{Sign}
use Rattle.actx_grammar.specs.declared.token.Sign.TheVariants as g
use Rattle.actx_grammar.specs.declared.token.TokenKind.{TokenKind}
use Rattle.actx_grammar.specs.declared.token.TokenKind.TheVariants as t
use Rattle.actx_grammar.specs.Forms.{level_of, sign_of}
use Rattle.actx_grammar.specs.Lexemes.{Lexeme}
use Rattle.actx_grammar.specs.ParserState.{Frame, in_unary, in_await, in_binary, in_logic}

-- the level of the right operand
abbrev pub right_level : LogicOp → ℕ
right_level And = 5
right_level Or = 4
right_level Coalesce = 5

-- the level at which the operand that is wanted stands
abbrev pub level_in : List Frame → ℕ
level_in (in_unary op ∷ s) = 9
level_in (in_await ∷ s) = 9
level_in (in_binary op a r ∷ s) = suc (level_of op)
level_in (in_logic op a r ∷ s) = right_level op
level_in _ = 1

-- how tightly a sign binds what stands before it; none stands behind an expression that binds more tightly than 12
abbrev pub grip_sign : Sign → ℕ
grip_sign g.CloseParen = 0
grip_sign g.CloseBracket = 0
grip_sign g.CloseBrace = 0
grip_sign g.Comma = 0
grip_sign g.Semicolon = 0
grip_sign g.Colon = 0
grip_sign g.Question = 3
grip_sign g.Or = 4
grip_sign g.And = 4
grip_sign g.Coalesce = 5
grip_sign g.Same = 5
grip_sign g.NotSame = 5
grip_sign g.Less = 6
grip_sign g.LessSame = 6
grip_sign g.More = 6
grip_sign g.MoreSame = 6
grip_sign g.Plus = 7
grip_sign g.Minus = 7
grip_sign g.Star = 8
grip_sign g.Dot = 11
grip_sign g.OpenBracket = 11
grip_sign g.OpenParen = 11
grip_sign _ = 13

abbrev pub grip : TokenKind → ℕ
grip (t.Sign s) = grip_sign s
grip _ = 13

abbrev pub binds : List Lexeme → ℕ
binds [] = 0
binds (w ∷ r) = grip w.kind

pub level_small : (op : BinaryOp) → level_of op ≤ 8
level_small o.Same = omega arith
level_small _ = omega arith

pub level_great : (op : BinaryOp) → 5 ≤ level_of op
level_great o.Same = omega arith
level_great _ = omega arith

pub grip_op : (op : BinaryOp) → grip_sign (sign_of op) ≡ level_of op
grip_op o.Same = refl
grip_op _ = refl

-- nothing binds at level 2
low_sign : (w : Sign) → grip_sign w ≤ 2 → grip_sign w ≤ 1
low_sign g.Comma h = omega arith
low_sign _ h = omega arith

low_kind : (w : TokenKind) → grip w ≤ 2 → grip w ≤ 1
low_kind (t.Sign w) h = low_sign w h
low_kind _ h = omega arith

pub low : (r : List Lexeme) → binds r ≤ 2 → binds r ≤ 1
low [] h = omega arith
low (w ∷ r) h = low_kind w.kind h
