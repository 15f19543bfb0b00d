-- Where the lines of printed tokens end: behind `;`, `{` and `}`.
use Rattle.std.specs.Prelude.{List, [], ◌∷◌, Bool, true, false}
use Rattle.actx_grammar.specs.declared.token.Sign.TheVariants as s
use Rattle.actx_grammar.specs.declared.token.TokenKind.{TokenKind}
use Rattle.actx_grammar.specs.declared.token.TokenKind.TheVariants as t
use Rattle.actx_grammar.specs.Lexemes.{Lexeme}

-- whether a line ends after the token
abbrev pub ends_line : TokenKind → Bool
ends_line (t.Sign s.Semicolon) = true
ends_line (t.Sign s.OpenBrace) = true
ends_line (t.Sign s.CloseBrace) = true
ends_line _ = false

-- the tokens as they are read from their text: a line end stands before each that is behind the end of a line
abbrev pub laid_from : Bool → List TokenKind → List Lexeme
laid_from broken [] = []
laid_from broken (t ∷ ts) = record { kind = t; line_before = broken } ∷ laid_from (ends_line t) ts

abbrev pub laid : List TokenKind → List Lexeme
laid ts = laid_from false ts
