-- Tokens as the grammar sees them.
use Rattle.std.specs.Prelude.{List, map}
use Rattle.actx_grammar.specs.Lexemes.{Lexeme}
use Rattle.actx_lex.specs.declared.token.Token.{Token}

abbrev pub lexeme_of : Token → Lexeme
lexeme_of t = record { kind = t.kind; line_before = t.line_before }

abbrev pub lexemes : List Token → List Lexeme
lexemes ts = map lexeme_of ts
