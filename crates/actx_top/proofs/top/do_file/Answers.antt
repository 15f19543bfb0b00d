use Rattle.std.proofs.Common.{◌≡◌, ◌∙◌, ℕ, List, take, sym, subst, refl, inl, inr, ⊎_elim}
use Rattle.actx_grammar.specs.Tree.{Stmts}
use Rattle.actx_top.specs.Accepts.{Takes}
use Rattle.actx_top.specs.Answers.{TellsRefusal}
use Rattle.actx_top.specs.Refusals.{RefusedAt}
use Rattle.actx_top.proofs.Reading.{takes_whole, takes_back, refuses_back}
use Rattle.actx_top.proofs.top.do_file.Goals as goal

-- a program is the text that was read of it
read_whole_text : (read : ℕ) (text bytes : List ℕ) (p : Stmts) → read ≡ 1048577 → text ≡ take read bytes → Takes bytes p → Takes text p
read_whole_text read text bytes p e t a = subst (λ z. Takes z p) (sym (t ∙ takes_whole read bytes p e a)) a

read_back_text : (read : ℕ) (text bytes : List ℕ) (p : Stmts) → read ≡ 1048577 → text ≡ take read bytes → Takes text p → Takes bytes p
read_back_text read text bytes p e t a = takes_back read bytes p e (subst (λ z. Takes z p) t a)

refused_back_text : (read : ℕ) (text bytes : List ℕ) (number line column : ℕ) → read ≡ 1048577 → text ≡ take read bytes → RefusedAt text number line column → RefusedAt bytes number line column
refused_back_text read text bytes number line column e t r = refuses_back read bytes number line column e (subst (λ z. RefusedAt z number line column) t r)

pub returns-in-Ok-clause-refused : goal.returns-in-Ok-clause-refused
returns-in-Ok-clause-refused g c = λ bytes h three p a. c.do_text.ensures.refused three p (read_whole_text _ c.deref.result.now bytes p refl (c.deref.ensures.value ∙ c.in-Ok.ensures.bytes bytes h) a)

pub returns-in-Ok-clause-refusal : goal.returns-in-Ok-clause-refusal
returns-in-Ok-clause-refusal g c = λ bytes h three.
    let r = c.do_text.ensures.refusal three in
    record {
      number = r.number;
      line = r.line;
      column = r.column;
      refused = refused_back_text _ c.deref.result.now bytes r.number r.line r.column refl (c.deref.ensures.value ∙ c.in-Ok.ensures.bytes bytes h) r.refused;
      tells = r.tells;
    }

pub returns-in-Ok-clause-did : goal.returns-in-Ok-clause-did
returns-in-Ok-clause-did g c = λ bytes h p a. c.do_text.ensures.did p (read_whole_text _ c.deref.result.now bytes p refl (c.deref.ensures.value ∙ c.in-Ok.ensures.bytes bytes h) a)

pub returns-in-Ok-clause-threw : goal.returns-in-Ok-clause-threw
returns-in-Ok-clause-threw g c = λ bytes h p a. c.do_text.ensures.threw p (read_whole_text _ c.deref.result.now bytes p refl (c.deref.ensures.value ∙ c.in-Ok.ensures.bytes bytes h) a)

pub returns-in-Ok-clause-refuses : goal.returns-in-Ok-clause-refuses
returns-in-Ok-clause-refuses g c = λ bytes h none.
    ⊎_elim (λ three. inl three) (λ wants. inr (inr wants))
    (c.do_text.ensures.refuses (λ p a. none p (read_back_text _ c.deref.result.now bytes p refl (c.deref.ensures.value ∙ c.in-Ok.ensures.bytes bytes h) a)))
