-- What is spelled is parsed: programs.
use Rattle.std.proofs.Common.{◌≡◌, ℕ, List, [], ◌∷◌, Option, Some, refl, sym, ◌∙◌, ap, arith}
use Rattle.std.proofs.lemmas.List.{append-nil}
use Rattle.actx_grammar.specs.declared.side.Side.{Side}
use Rattle.actx_grammar.specs.declared.side.Side.TheVariants.{Source, Plain}
use Rattle.actx_grammar.specs.Exact.{ParsesWhatIsSpelled}
use Rattle.actx_grammar.specs.Grammar.{deepest, most, SpellsStmts, IsSpelled, OneTree}
use Rattle.actx_grammar.specs.Lexemes.{Lexeme}
use Rattle.actx_grammar.specs.Parser.{limits, parsed}
use Rattle.actx_grammar.specs.ParserState.{start, program, in_list}
use Rattle.actx_grammar.specs.Tree.{Stmts, end}
use Rattle.actx_laws.proofs.ParseComplete.{Free, bounds, complete_stmts}
use Rattle.actx_laws.proofs.ParseNames.{le_true}
use Rattle.actx_laws.proofs.ParseRuns.{runs, counted, Fit, fit_less}

-- whatever the limits are
pub reads_all : (side : Side) (depth most : Option ℕ) (d : ℕ) (p : Stmts) (ts : List Lexeme) → Free most side → Fit (bounds depth most) d → SpellsStmts side most d p ts → runs (bounds depth most) side start (in_list program end 0 ∷ []) ts ≡ Some p
reads_all side depth most d p ts free fit h =
    let a = complete_stmts depth free h program end 0 [] [] tt (fit_less (bounds depth most) fit (omega arith)) in
    ap (runs (bounds depth most) side start (in_list program end 0 ∷ [])) (sym (append-nil ts)) ∙ a.same

limits_free : (side : Side) → Free (most side) side
limits_free Source h = absurd (cc)
limits_free Plain h = refl

-- within the limits of the side
pub reads_within : (side : Side) (p : Stmts) (ts : List Lexeme) → IsSpelled side p ts → runs (limits side) side start (in_list program end 0 ∷ []) ts ≡ Some p
reads_within side p ts h = reads_all side (Some (deepest side)) (most side) (deepest side) p ts (limits_free side) (λ n i. le_true n (deepest side) i) h

-- what is spelled is parsed, as that program
pub parses : ParsesWhatIsSpelled
parses side p ts h = counted side 0 start (in_list program end 0 ∷ []) ts p (reads_within side p ts h)

-- no tokens spell two programs
pub one_program : OneTree
one_program side p q ts a b = let u : parsed p ≡ parsed q = sym (parses side p ts a) ∙ parses side q ts b in cc
