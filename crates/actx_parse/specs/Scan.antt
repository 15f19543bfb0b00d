-- A run within some limits, which tells where it stops and not why.
use Rattle.std.specs.Prelude.{ℕ, suc, List, [], ◌∷◌, Bool, false, Option, Some, None, nat_eq, if◌then◌else◌}
use Rattle.actx_grammar.specs.declared.side.Side.{Side}
use Rattle.actx_grammar.specs.Lexemes.{Lexeme}
use Rattle.actx_grammar.specs.Parser.{step, finish, Reason, unexpected, too_deep, too_many}
use Rattle.actx_grammar.specs.ParserState.{Limits, program, Frame, in_list, Mode, start, Move, refuse, go}
use Rattle.actx_grammar.specs.Tree.{Stmts, end}
use Rattle.actx_ast.specs.View.{program_view}
use Rattle.actx_parse.specs.declared.parse.machine.Outcome.{Outcome}
use Rattle.actx_parse.specs.declared.parse.machine.Outcome.TheVariants as s

pub data Scanned : Type 0 where
  found : (p : Stmts) → Scanned
  stopped : (at : ℕ) → Scanned

abbrev pub scan_of : Outcome → Scanned
scan_of (s.Parsed p) = found (program_view p)
scan_of (s.Refused at) = stopped at

abbrev pub at_the_end : ℕ → Option Stmts → Scanned
at_the_end at None = stopped at
at_the_end at (Some p) = found p

abbrev pub moved : Move → (Mode → List Frame → Scanned) → Scanned → Scanned
moved refuse on other = other
moved (go m s) on other = on m s

-- by what a token leads to
unfoldable pub scan_on : (Mode → List Frame → Lexeme → Move) → ℕ → Mode → List Frame → List Lexeme → Scanned
scan_on leads at m s [] = at_the_end at (finish m s)
scan_on leads at m s (t ∷ ts) = moved (leads m s t) (λ n u. scan_on leads (suc at) n u ts) (stopped at)

unfoldable pub scan : Limits → Side → List Lexeme → Scanned
scan lim side ts = scan_on (step lim side) 0 start (in_list program end 0 ∷ []) ts

-- whether a run stopped at a token
abbrev pub is_stopped : ℕ → Scanned → Bool
is_stopped i (found p) = false
is_stopped i (stopped at) = nat_eq at i

-- the reason, where it is told whether runs without limits and without the bound on lists stopped there too
abbrev pub told : Bool → Bool → Reason
told a b = if a then unexpected else (if b then too_deep else too_many)
