use Rattle.std.proofs.Common.{◌≡◌, Some, ◌∙◌, ap}
use Rattle.actx_grammar.specs.Static as spec
use Rattle.actx_ast.specs.View.{program_view}
use Rattle.actx_scope.specs.declared.fault.CheckFault.{CheckFault}
use Rattle.actx_scope.specs.declared.fault.CheckFault.TheVariants.{Undeclared, Twice, Reserved, Misplaced}
use Rattle.actx_scope.proofs.Whole.{walk_faults, walk_links, walk_clean, walk_declares, first_is}
use Rattle.actx_scope.proofs.rules.check.Goals as goal

pub returns-in-Some-clause-undeclared : goal.returns-in-Some-clause-undeclared
returns-in-Some-clause-undeclared c = λ n h.
    let e : c.in-Some.fault ≡ Undeclared n = cc in
    first_is (program_view c.args.program.now) spec.undeclared n (walk_faults (program_view c.args.program.now) c.in_ok-walk.walk c.in_ok-walk.ensures (Some (Undeclared n)) (c.in-Some.is ∙ ap (λ (f : CheckFault). Some f) e))

pub returns-in-Some-clause-twice : goal.returns-in-Some-clause-twice
returns-in-Some-clause-twice c = λ n h.
    let e : c.in-Some.fault ≡ Twice n = cc in
    first_is (program_view c.args.program.now) spec.twice n (walk_faults (program_view c.args.program.now) c.in_ok-walk.walk c.in_ok-walk.ensures (Some (Twice n)) (c.in-Some.is ∙ ap (λ (f : CheckFault). Some f) e))

pub returns-in-Some-clause-reserved : goal.returns-in-Some-clause-reserved
returns-in-Some-clause-reserved c = λ n h.
    let e : c.in-Some.fault ≡ Reserved n = cc in
    first_is (program_view c.args.program.now) spec.reserved n (walk_faults (program_view c.args.program.now) c.in_ok-walk.walk c.in_ok-walk.ensures (Some (Reserved n)) (c.in-Some.is ∙ ap (λ (f : CheckFault). Some f) e))

pub returns-in-Some-clause-misplaced : goal.returns-in-Some-clause-misplaced
returns-in-Some-clause-misplaced c = λ n h.
    let e : c.in-Some.fault ≡ Misplaced n = cc in
    first_is (program_view c.args.program.now) spec.misplaced n (walk_faults (program_view c.args.program.now) c.in_ok-walk.walk c.in_ok-walk.ensures (Some (Misplaced n)) (c.in-Some.is ∙ ap (λ (f : CheckFault). Some f) e))

pub returns-in-None-clause-clean : goal.returns-in-None-clause-clean
returns-in-None-clause-clean c = walk_clean (program_view c.args.program.now) c.in_ok-walk.walk c.in_ok-walk.ensures c.in-None.is

pub returns-in-None-clause-uses : goal.returns-in-None-clause-uses
returns-in-None-clause-uses c = walk_links (program_view c.args.program.now) c.in_ok-walk.walk c.in_ok-walk.ensures

pub returns-in-None-clause-declared : goal.returns-in-None-clause-declared
returns-in-None-clause-declared c = walk_declares (program_view c.args.program.now) c.in_ok-walk.walk c.in_ok-walk.ensures c.in-None.is
