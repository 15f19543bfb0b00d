use Rattle.std.proofs.Common.{◌≡◌, ◌+◌, ◌<◌, ◌≤◌, true, false, length, refl, sym, ◌∙◌, ap, arith}
use Rattle.std.specs.Prelude.{take}
use Rattle.actx_grammar.specs.Parser.{unlimited, unlisted}
use Rattle.actx_lex.specs.Lexemes.{lexemes}
use Rattle.actx_parse.specs.Scan.{is_stopped, scan}
use Rattle.actx_parse.proofs.ParseAnswers.{told_of, told_at_end}
use Rattle.actx_parse.proofs.parse.reasons.fault_at.Goals as goal

pub returns-then-at-tokens : goal.returns-then-at-tokens
returns-then-at-tokens c =
    let l : length c.args.tokens.now ≤ c.args.at = omega arith in
    told_at_end c.args.side c.args.tokens.now c.args.at c.requires l

pub returns-then-branch : goal.returns-then-branch
returns-then-branch c =
    let l : c.args.at < length c.args.tokens.now = omega arith in
    let front = take (c.args.at + 1) c.args.tokens.now in
    let a : true ≡ is_stopped c.args.at (scan unlimited c.args.side (lexemes front)) =
    sym c.if-branch.true ∙ c.in_ok-stops_at.ensures ∙ ap (λ lim. is_stopped c.args.at (scan lim c.args.side (lexemes front))) c.unlimited-limits.ensures in
    told_of c.args.side c.args.tokens.now front c.args.at true (is_stopped c.args.at (scan (unlisted c.args.side) c.args.side (lexemes front))) c.requires l refl a refl

pub returns-then-branch-2 : goal.returns-then-branch-2
returns-then-branch-2 c =
    let l : c.args.at < length c.args.tokens.now = omega arith in
    let front = take (c.args.at + 1) c.args.tokens.now in
    let a : false ≡ is_stopped c.args.at (scan unlimited c.args.side (lexemes front)) =
    sym c.if-branch.false ∙ c.in_ok-stops_at.ensures ∙ ap (λ lim. is_stopped c.args.at (scan lim c.args.side (lexemes front))) c.unlimited-limits.ensures in
    let b : true ≡ is_stopped c.args.at (scan (unlisted c.args.side) c.args.side (lexemes front)) =
    sym c.if-branch-2.true ∙ c.in_ok-stops_at-2.ensures ∙ ap (λ lim. is_stopped c.args.at (scan lim c.args.side (lexemes front))) c.unlisted-limits.ensures in
    told_of c.args.side c.args.tokens.now front c.args.at false true c.requires l refl a b

pub returns-else-branch-2 : goal.returns-else-branch-2
returns-else-branch-2 c =
    let l : c.args.at < length c.args.tokens.now = omega arith in
    let front = take (c.args.at + 1) c.args.tokens.now in
    let a : false ≡ is_stopped c.args.at (scan unlimited c.args.side (lexemes front)) =
    sym c.if-branch.false ∙ c.in_ok-stops_at.ensures ∙ ap (λ lim. is_stopped c.args.at (scan lim c.args.side (lexemes front))) c.unlimited-limits.ensures in
    let b : false ≡ is_stopped c.args.at (scan (unlisted c.args.side) c.args.side (lexemes front)) =
    sym c.if-branch-2.false ∙ c.in_ok-stops_at-2.ensures ∙ ap (λ lim. is_stopped c.args.at (scan lim c.args.side (lexemes front))) c.unlisted-limits.ensures in
    told_of c.args.side c.args.tokens.now front c.args.at false false c.requires l refl a b
