-- Tokens as the grammar sees them: their kinds, and where a line ends before them.
use Rattle.std.specs.Prelude.{◌≡◌, Bool, false, List, [], ◌∷◌, map}
use Rattle.actx_grammar.specs.declared.token.Keyword.{Keyword}
use Rattle.actx_grammar.specs.declared.token.Sign.{Sign}
use Rattle.actx_grammar.specs.declared.token.TokenKind.{TokenKind}
use Rattle.actx_grammar.specs.declared.token.TokenKind.TheVariants as t

pub record Lexeme : Type 0 where
  pub kind : TokenKind
  pub line_before : Bool

-- a sign and a reserved word, behind a line end or not
abbrev pub sign : Sign → Bool → Lexeme
sign s b = record { kind = t.Sign s; line_before = b }

abbrev pub keyword : Keyword → Bool → Lexeme
keyword k b = record { kind = t.Keyword k; line_before = b }

abbrev pub lexeme : TokenKind → Bool → Lexeme
lexeme k b = record { kind = k; line_before = b }

abbrev pub kinds : List Lexeme → List TokenKind
kinds ts = map (λ t. t.kind) ts

-- no line ends before the first token
abbrev pub SameLine : List Lexeme → Type 0
SameLine [] = Unit {0}
SameLine (t ∷ ts) = t.line_before ≡ false
