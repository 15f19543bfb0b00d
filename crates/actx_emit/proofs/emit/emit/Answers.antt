use Rattle.std.proofs.Common.{◌≡◌, ℕ, sym, subst, Global}
use Rattle.std.specs.Prelude.{Vec}
use Rattle.std.specs.Str.{encode_utf8_all}
use Rattle.actx_grammar.specs.Spell.{spell_program}
use Rattle.actx_ast.specs.View.{program_view}
use Rattle.actx_emit.specs.Layout.{layout}
use Rattle.actx_emit.specs.Reads.{ReadsBack}
use Rattle.actx_emit.proofs.ReadBack.{printed_reads_back}
use Rattle.actx_emit.proofs.Steps.{if_ok}
use Rattle.actx_emit.proofs.emit.emit.Goals as goal

pub returns-clause-reads_back : goal.returns-clause-reads_back
returns-clause-reads_back c =
    let q = program_view c.args.plain.now in
    let P : Vec ℕ Global → Type 0 = λ v. v.items ≡ encode_utf8_all (layout (spell_program q)) in
    let Q : Vec ℕ Global → Type 0 = λ v. ReadsBack v.items q in
    if_ok P Q c.text_of.result (λ v e. subst (λ w. ReadsBack w q) (sym e) (printed_reads_back q c.requires.side c.requires.depth)) c.text_of.ensures
