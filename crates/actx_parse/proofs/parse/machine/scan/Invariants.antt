use Rattle.std.proofs.Common.{◌≡◌, drop}
use Rattle.actx_grammar.specs.Parser.{step}
use Rattle.actx_lex.specs.Lexemes.{lexemes}
use Rattle.actx_frames.specs.ParserView.{bounds, mode_view, stack_view}
use Rattle.actx_parse.specs.Scan.{scan, scan_on}
use Rattle.actx_parse.proofs.parse.machine.scan.Given as goal

abbrev pub invariant-loop-at : goal.invariant-loop-at
invariant-loop-at l =
    scan (bounds l.rules) l.rules.side (lexemes l.tokens) ≡ scan_on (step (bounds l.rules) l.rules.side) l.at (mode_view l.mode) (stack_view l.stack) (lexemes (drop l.at l.tokens))
