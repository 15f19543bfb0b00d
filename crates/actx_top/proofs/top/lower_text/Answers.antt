use Rattle.std.proofs.Common.{◌≡◌, IfErr, rules}
use Rattle.actx_ast.specs.View.{program_view}
use Rattle.actx_top.specs.Faults.{Says}
use Rattle.actx_top.proofs.Readable.{headline}
use Rattle.actx_top.proofs.Refusing.{if_refused}
use Rattle.actx_top.proofs.top.lower_text.Goals as goal

pub returns-clause-lowered : goal.returns-clause-lowered
returns-clause-lowered c =
    let takes = c.in_ok-program.ensures.found in
    record {
      program = program_view c.in_ok-program.program;
      takes = takes;
      is = c.in_ok-emitted.ensures.text;
      matches = headline c.args.text.now (program_view c.in_ok-program.program) takes;
    }

pub returns-in_err-program-clause-takes : goal.returns-in_err-program-clause-takes
returns-in_err-program-clause-takes c =
    let refused : IfErr c.from_residual.result (Says c.args.text.now) = search rules in
    if_refused c.args.text.now c.from_residual.result refused
