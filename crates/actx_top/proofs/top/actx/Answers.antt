use Rattle.std.proofs.Common.{◌≡◌, ◌∙◌, ap, sym, subst, Some}
use Rattle.actx_top.specs.Answers.{Did, TellsRefusal}
use Rattle.actx_top.proofs.Readable.{headline}
use Rattle.actx_top.proofs.top.actx.Goals as goal

pub returns-in-Some-clause-refused : goal.returns-in-Some-clause-refused
returns-in-Some-clause-refused g c = λ bytes h. c.do_file.ensures.refused bytes (ap (λ n. g.C.Cabinet.held c.args.files.now n) c.file_of.ensures ∙ h)

pub returns-in-Some-clause-did : goal.returns-in-Some-clause-did
returns-in-Some-clause-did g c = λ bytes h mode e p t.
    let same : c.in-Some.mode ≡ mode = cc in
    subst (λ m. Did c.do_file.result m p (g.O.Sink.written c.args.out.now) (g.O.Sink.written c.do_file.new.out)) same (c.do_file.ensures.did bytes (ap (λ n. g.C.Cabinet.held c.args.files.now n) c.file_of.ensures ∙ h) p t)

pub returns-in-Some-clause-threw : goal.returns-in-Some-clause-threw
returns-in-Some-clause-threw g c = λ bytes h. c.do_file.ensures.threw bytes (ap (λ n. g.C.Cabinet.held c.args.files.now n) c.file_of.ensures ∙ h)

pub returns-in-Some-clause-refusal : goal.returns-in-Some-clause-refusal
returns-in-Some-clause-refusal g c = λ bytes h three.
    let r = c.do_file.ensures.refusal bytes (ap (λ n. g.C.Cabinet.held c.args.files.now n) c.file_of.ensures ∙ h) three in
    subst (λ name. TellsRefusal name bytes (g.F.Sink.written c.args.faults.now) (g.F.Sink.written c.do_file.new.faults) (g.F.Sink.faults c.args.faults.now) (g.F.Sink.faults c.do_file.new.faults)) c.file_of.ensures r

pub returns-in-Some-clause-matches : goal.returns-in-Some-clause-matches
returns-in-Some-clause-matches g c = λ bytes h. headline bytes

pub returns-in-None-clause-matches : goal.returns-in-None-clause-matches
returns-in-None-clause-matches g c = λ bytes h. headline bytes
