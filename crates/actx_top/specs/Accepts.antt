-- Which texts are programs.
use Rattle.std.specs.Prelude.{ℕ, ◌≤◌, List, length}
use Rattle.actx_grammar.specs.declared.side.Side.TheVariants.{Source, Plain}
use Rattle.actx_grammar.specs.Grammar.{IsSpelled}
use Rattle.actx_grammar.specs.Static.{Clean}
use Rattle.actx_grammar.specs.Tree.{Stmts}
use Rattle.actx_lex.specs.declared.token.Token.{Token}
use Rattle.actx_lex.specs.Lexical.{Tokens}
use Rattle.actx_lex.specs.Lexemes.{lexemes}
use Rattle.actx_rules.specs.Taken.{IsTaken}

-- the greatest number of bytes of a source text
abbrev pub longest_source : ℕ
longest_source = 1048576

-- the text is the program, within all limits
pub record Accepts (text : List ℕ) (p : Stmts) : Type 0 where
  pub short : length text ≤ longest_source
  pub tokens : List Token
  pub cut : Tokens text tokens
  pub spelled : IsSpelled Source p (lexemes tokens)
  pub clean : Clean p

-- and all its forms run
pub record Takes (text : List ℕ) (p : Stmts) : Type 0 where
  pub accepted : Accepts text p
  pub taken : IsTaken p

-- the text is a plain program
pub record ReadsPlain (text : List ℕ) (q : Stmts) : Type 0 where
  pub tokens : List Token
  pub cut : Tokens text tokens
  pub spelled : IsSpelled Plain q (lexemes tokens)
