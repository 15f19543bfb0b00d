use Rattle.std.proofs.Common.{◌≡◌, ℕ, List, [], sym, subst, IfOk}
use Rattle.actx_ast.specs.View.{program_view}
use Rattle.actx_top.specs.Accepts.{ReadsPlain}
use Rattle.actx_top.specs.Answers.{most_steps}
use Rattle.actx_top.specs.Ending.{Ends}
use Rattle.actx_rules.specs.Low.{low}
use Rattle.actx_rules.specs.Meaning.{target_shows}
use Rattle.actx_top.proofs.execute.execute.Goals as goal

pub read_back-requires : goal.read_back-requires
read_back-requires c =
    let p = program_view c.args.program.now in
    (low p, subst (λ t. ReadsPlain t (low p)) (sym c.deref.ensures.value) c.in_ok-text.ensures.reads)

pub returns : goal.returns
returns c =
    let p = program_view c.args.program.now in
    let same : program_view c.in_ok-plain.plain ≡ low p = c.in_ok-plain.ensures (low p) (subst (λ t. ReadsPlain t (low p)) (sym c.deref.ensures.value) c.in_ok-text.ensures.reads) in
    subst (λ q. IfOk c.run_plain.result (λ run. Ends run (target_shows q [] most_steps))) same c.run_plain.ensures
