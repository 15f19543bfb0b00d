use Rattle.std.proofs.Common.{◌≡◌, sym, ◌∙◌, ap}
use Rattle.actx_grammar.specs.Parser.{limits}
use Rattle.actx_ast.specs.View.{program_view}
use Rattle.actx_lex.specs.Lexemes.{lexemes}
use Rattle.actx_parse.specs.Scan.{found, scan, scan_of}
use Rattle.actx_parse.proofs.ParseScan.{parsed_of}
use Rattle.actx_parse.proofs.parse.parse.Goals as goal

pub returns-in-Parsed-clause-found : goal.returns-in-Parsed-clause-found
returns-in-Parsed-clause-found c =
    let e : found (program_view c.in-Parsed.program) ≡ scan (limits c.args.side) c.args.side (lexemes c.args.tokens.now) =
    ap scan_of (sym c.in-Parsed.is) ∙ c.in_ok-program.ensures ∙ ap (λ lim. scan lim c.args.side (lexemes c.args.tokens.now)) c.limits_of-limits.ensures in
    parsed_of c.args.side (lexemes c.args.tokens.now) (program_view c.in-Parsed.program) e
