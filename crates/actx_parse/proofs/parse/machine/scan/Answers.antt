use Rattle.std.proofs.Common.{◌≡◌, ◌<◌, ◌≤◌, [], ◌∷◌, Some, None, length, option_map, sym, ◌∙◌, ap, arith}
use Rattle.actx_grammar.specs.Parser.{step}
use Rattle.actx_grammar.specs.ParserState.{in_list, program, go, refuse}
use Rattle.actx_ast.specs.View.{program_view, stmts_view}
use Rattle.actx_frames.specs.ParserView.{bounds, mode_view, move_of, stack_view}
use Rattle.actx_parse.specs.Scan.{stopped}
use Rattle.actx_parse.proofs.ParseScan.{scan_begins, scan_more, scan_ends}
use Rattle.actx_parse.proofs.parse.machine.scan.Goals as goal

pub loop-at-init : goal.loop-at-init
loop-at-init c =
    scan_begins (bounds c.args.rules) c.args.rules.side c.args.tokens.now (stack_view c.push.new.self)
    (ap stack_view c.in_ok-push.ensures ∙ ap (λ r. in_list program (stmts_view c.new.result.items) 0 ∷ stack_view r) c.new-stack.ensures
    ∙ ap (λ ss. in_list program (stmts_view ss) 0 ∷ []) c.new.ensures.items)

pub loop-at-preserved : goal.loop-at-preserved
loop-at-preserved c =
    let l : c.loop-at.at < length c.args.tokens.now = omega arith in
    c.loop-at.invariant
    ∙ scan_more (step (bounds c.args.rules) c.args.rules.side) c.loop-at.at (mode_view c.loop-at.mode) (stack_view c.loop-at.stack) c.args.tokens.now c.index-tokens-at.result (go (mode_view c.in-Go.next) (stack_view c.step.new.stack)) l c.index-tokens-at.is
    (c.in_ok-next.ensures ∙ ap (λ r. move_of r (stack_view c.step.new.stack)) c.in-Go.is)

pub returns-in-Refused : goal.returns-in-Refused
returns-in-Refused c =
    let l : c.loop-at.at < length c.args.tokens.now = omega arith in
    sym
    (c.loop-at.invariant
    ∙ scan_more (step (bounds c.args.rules) c.args.rules.side) c.loop-at.at (mode_view c.loop-at.mode) (stack_view c.loop-at.stack) c.args.tokens.now c.index-tokens-at.result refuse l c.index-tokens-at.is
    (c.in_ok-next.ensures ∙ ap (λ r. move_of r (stack_view c.step.new.stack)) c.in-Refused.is))

pub returns-in-Some : goal.returns-in-Some
returns-in-Some c =
    let l : length c.args.tokens.now ≤ c.loop-at.at = omega arith in
    sym
    (c.loop-at.invariant
    ∙ scan_ends (step (bounds c.args.rules) c.args.rules.side) c.loop-at.at (mode_view c.loop-at.mode) (stack_view c.loop-at.stack) c.args.tokens.now (Some (program_view c.in-Some.program)) l
    (sym c.in_ok-program.ensures ∙ ap (option_map program_view) c.in-Some.is))

pub returns : goal.returns
returns c =
    let l : length c.args.tokens.now ≤ c.loop-at.at = omega arith in
    let e : length c.args.tokens.now ≡ c.loop-at.at = omega arith in
    ap stopped e
    ∙ sym
    (c.loop-at.invariant
    ∙ scan_ends (step (bounds c.args.rules) c.args.rules.side) c.loop-at.at (mode_view c.loop-at.mode) (stack_view c.loop-at.stack) c.args.tokens.now None l
    (sym c.in_ok-program.ensures ∙ ap (option_map program_view) c.in-None.is))
