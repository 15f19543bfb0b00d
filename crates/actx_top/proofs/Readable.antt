-- The emitted text parses to the emitted program, and so the headline.
use Rattle.std.proofs.Common.{List, ℕ, refl}
use Rattle.actx_grammar.specs.Tree.{Stmts}
use Rattle.actx_emit.proofs.ReadBack.{printed_reads_back}
use Rattle.actx_lex.specs.Lexemes.{lexemes}
use Rattle.actx_top.specs.Accepts.{Takes, ReadsPlain}
use Rattle.actx_top.specs.Headline.{emitted, Headline}
use Rattle.actx_rules.specs.Low.{low}
use Rattle.actx_top.proofs.Emitted.{low_on, low_deep}
use Rattle.actx_rules.proofs.Whole.{same}

pub emitted_reads : (text : List ℕ) (p : Stmts) → Takes text p → ReadsPlain (emitted p) (low p)
emitted_reads text p t =
    let x = lexemes t.accepted.tokens in
    let read = printed_reads_back (low p) (low_on p x t.accepted.spelled t.taken) (low_deep p x t.accepted.spelled t.taken) in
    record { tokens = read.tokens; cut = read.cut; spelled = read.spelled }

pub headline : Headline
headline text p t = record { reads = emitted_reads text p t; same = same p t.taken; own = record { rest = _; begins = refl; own = refl } }
