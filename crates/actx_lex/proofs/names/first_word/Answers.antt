use Rattle.std.proofs.Common.{◌≡◌, sym, ◌∙◌, ap, subst, take}
use Rattle.actx_grammar.specs.declared.token.TokenKind.TheVariants as t
use Rattle.actx_grammar.specs.Words.{HasForm}
use Rattle.actx_lex.specs.Lexeme.{Begins}
use Rattle.actx_lex.proofs.NameRuns.{keyword_begins, name_begins, run_name}
use Rattle.actx_lex.proofs.names.first_word.Goals as goal
use Rattle.actx_lex.proofs.names.first_word.Goals.{in-Some, in-None+in_ok-from_list-in-None}

pub returns-clause-found : goal.returns-clause-found
returns-clause-found c = λ fresh.
    let text = c.args.text.now in
    let n = c.name_len-len.result in
    let run = c.name_len-len.ensures.run in
    let within = c.name_len-len.ensures.within in
    elim c.match-keyword_of.branch [
      | in-Some w ↦ subst (λ j. Begins fresh text j n) (sym w.kind-is) (keyword_begins fresh text n w.in-Some.keyword c.requires run within (w.in-Some.ensures))
      | in-None+in_ok-from_list-in-None w ↦
          let named : c.match-keyword_of.kind ≡ t.Name (take n text) = w.kind-is ∙ ap t.Name (w.in_ok-from_list-in-None.ensures) in
          subst (λ j. Begins fresh text j n) (sym named) (name_begins fresh text n c.requires run within (w.in-None.ensures))
    ]

pub returns-clause-form : goal.returns-clause-form
returns-clause-form c =
    let text = c.args.text.now in
    let n = c.name_len-len.result in
    let run = c.name_len-len.ensures.run in
    let within = c.name_len-len.ensures.within in
    elim c.match-keyword_of.branch [
      | in-Some w ↦ subst HasForm (sym w.kind-is) tt
      | in-None+in_ok-from_list-in-None w ↦
          let named : c.match-keyword_of.kind ≡ t.Name (take n text) = w.kind-is ∙ ap t.Name (w.in_ok-from_list-in-None.ensures) in
          subst HasForm (sym named) (run_name text n c.requires run within (w.in-None.ensures))
    ]
