-- What a printed text is read as.
use Rattle.std.specs.Prelude.{◌≡◌, ℕ, List}
use Rattle.actx_grammar.specs.declared.side.Side.TheVariants.{Plain}
use Rattle.actx_grammar.specs.Grammar.{IsSpelled}
use Rattle.actx_grammar.specs.Layout.{laid}
use Rattle.actx_grammar.specs.Spell.{spell_program}
use Rattle.actx_grammar.specs.Tree.{Stmts}
use Rattle.actx_lex.specs.declared.token.Token.{Token}
use Rattle.actx_lex.specs.Lexemes.{lexemes}
use Rattle.actx_lex.specs.Lexical.{Tokens}

-- the text is cut into the program's own tokens, which spell it within the limits of the plain side
pub record ReadsBack (text : List ℕ) (program : Stmts) : Type 0 where
  pub tokens : List Token
  pub cut : Tokens text tokens
  pub own : lexemes tokens ≡ laid (spell_program program)
  pub spelled : IsSpelled Plain program (lexemes tokens)
