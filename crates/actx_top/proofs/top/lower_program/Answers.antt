use Rattle.std.proofs.Common.{◌≡◌, ◌∙◌, ◌≤◌, ◌++◌, ℕ, List, [], length, take, Option, Some, refl, sym, ap, subst, inl, inr, ⊎_elim, arith}
use Rattle.std.proofs.lemmas.List.{append-nil}
use Rattle.actx_grammar.specs.Tree.{Stmts}
use Rattle.actx_ast.specs.View.{program_view}
use Rattle.actx_ports.specs.Ports.{AddsPart}
use Rattle.actx_top.specs.Answers.{Did, Wrote, TellsAs, OutOfMemory}
use Rattle.actx_top.specs.Headline.{emitted}
use Rattle.actx_top.specs.declared.mode.Mode.TheVariants.{Lower}
use Rattle.actx_top.proofs.top.lower_program.Goals as goal

did_write : (answer : ℕ) (p : Stmts) (before after : Option (List ℕ)) → Wrote answer 0 (emitted p) before after → Did answer Lower p before after
did_write answer p before after w = record {
  cause = ⊎_elim (λ zero. inl zero) (λ other. inr (inr other)) w.cause;
  whole = w.whole;
  part = w.part;
}

-- nothing is a first part of anything
adds_nothing : (bytes : List ℕ) (before : Option (List ℕ)) → AddsPart before bytes before
adds_nothing bytes before = λ old h. (0, omega arith, h ∙ ap Some (sym (append-nil old)))

did_nothing : (answer : ℕ) (p : Stmts) (before : Option (List ℕ)) → answer ≡ 70 → Did answer Lower p before before
did_nothing answer p before h = record {
  cause = inr (inr (inr h));
  whole = λ zero. absurd (omega (arith, h, zero));
  part = adds_nothing (emitted p) before;
}

wants : (answer n m : ℕ) (before after : Option (List ℕ)) → TellsAs answer OutOfMemory before after n m → answer ≡ 70
wants answer n m before after t = ⊎_elim (λ a. a.0) (λ b. b.0) t

pub returns-in-Ok-clause-did : goal.returns-in-Ok-clause-did
returns-in-Ok-clause-did g c =
    did_write c.write_text.result (program_view c.args.program.now) (g.O.Sink.written c.args.out.now) (g.O.Sink.written c.write_text.new.out)
    (subst (λ text. Wrote c.write_text.result 0 text (g.O.Sink.written c.args.out.now) (g.O.Sink.written c.write_text.new.out)) (c.deref.ensures.value ∙ c.in-Ok.ensures.text) c.write_text.ensures.wrote)

pub returns-in-Err-clause-did : goal.returns-in-Err-clause-did
returns-in-Err-clause-did g c = did_nothing c.tell.result (program_view c.args.program.now) (g.O.Sink.written c.args.out.now) (wants c.tell.result _ _ _ _ c.tell.ensures)
