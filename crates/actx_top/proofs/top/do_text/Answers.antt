use Rattle.std.proofs.Common.{◌≡◌, ℕ, List, Option, subst, ⊎_elim, arith}
use Rattle.actx_lex.specs.declared.lines.Place.{Place}
use Rattle.actx_top.specs.Answers.{Did, Refused, Tells, TellsThrow, run_shows}
use Rattle.actx_top.specs.Faults.{Says}
use Rattle.actx_top.proofs.Refusing.{refused_none}
use Rattle.actx_top.proofs.top.do_text.Goals as goal

pub returns-in-Ok-clause-did : goal.returns-in-Ok-clause-did
returns-in-Ok-clause-did g c = λ p a.
    subst (λ q. Did c.do_mode.result c.args.mode q (g.O.Sink.written c.args.out.now) (g.O.Sink.written c.do_mode.new.out)) (c.in-Ok.ensures.only p a) c.do_mode.ensures.did

pub returns-in-Ok-clause-threw : goal.returns-in-Ok-clause-threw
returns-in-Ok-clause-threw g c = λ p a.
    subst (λ q. c.do_mode.result ≡ 1 → TellsThrow (run_shows q).end (g.F.Sink.written c.args.faults.now) (g.F.Sink.written c.do_mode.new.faults) (g.F.Sink.faults c.args.faults.now) (g.F.Sink.faults c.do_mode.new.faults)) (c.in-Ok.ensures.only p a) c.do_mode.ensures.threw

pub returns-in-Ok-clause-says : goal.returns-in-Ok-clause-says
returns-in-Ok-clause-says g c = c.do_mode.ensures.says c.args.name.now

pub returns-in-Err-Refused-clause-refused : goal.returns-in-Err-Refused-clause-refused
returns-in-Err-Refused-clause-refused g c = λ three. refused_none (subst (Says c.args.text.now) c.in-Err-Refused.field-0-is c.in-Err-Refused.ensures.fault)

-- a line is the same line
retold : (file : List ℕ) (n m : ℕ) (p q : Place) (before after : Option (List ℕ)) (k l : ℕ) → n ≡ m → p ≡ q → Tells (Refused file n p.line p.column) before after k l → Tells (Refused file m q.line q.column) before after k l
retold file n m p q before after k l e h t =
    subst (λ z. Tells (Refused file z q.line q.column) before after k l) e
    (subst (λ (z : Place). Tells (Refused file n z.line z.column) before after k l) h t)

pub returns-in-Err-Refused-clause-refusal : goal.returns-in-Err-Refused-clause-refusal
returns-in-Err-Refused-clause-refusal g c = λ three.
    record {
      number = c.in-Err-Refused.number;
      line = c.in-Err-Refused.place.line;
      column = c.in-Err-Refused.place.column;
      refused = subst (Says c.args.text.now) c.in-Err-Refused.field-0-is c.in-Err-Refused.ensures.fault;
      tells =
          retold c.args.name.now _ c.in-Err-Refused.number _ c.in-Err-Refused.place _ _ _ _ c.in-Err-Refused.number-is c.in-Err-Refused.place-is
          (⊎_elim (λ told. told.1) (λ wants. let other = wants.0 in absurd (omega (arith, three, other))) c.tell.ensures);
    }

pub returns-in-Err-Refused-clause-did : goal.returns-in-Err-Refused-clause-did
returns-in-Err-Refused-clause-did g c = λ p a. absurd (refused_none (subst (Says c.args.text.now) c.in-Err-Refused.field-0-is c.in-Err-Refused.ensures.fault) p a)

pub returns-in-Err-Refused-clause-threw : goal.returns-in-Err-Refused-clause-threw
returns-in-Err-Refused-clause-threw g c = λ p a. absurd (refused_none (subst (Says c.args.text.now) c.in-Err-Refused.field-0-is c.in-Err-Refused.ensures.fault) p a)
