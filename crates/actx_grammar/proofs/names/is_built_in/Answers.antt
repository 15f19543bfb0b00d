use Rattle.std.proofs.Common.{◌↔◌, IsTrue, Contains, sym, subst}
use Rattle.actx_grammar.specs.declared.side.Side.TheVariants.{Source, Plain}
use Rattle.actx_grammar.specs.Names.{built_in}
use Rattle.actx_grammar.proofs.SideNames.{is_one}
use Rattle.actx_grammar.proofs.names.is_built_in.Goals as goal

pub returns-in-Source : goal.returns-in-Source
returns-in-Source c =
    let r = c.is_built_in_source.result in
    let word = c.args.word.now in
    subst (λ side. IsTrue r ↔ Contains (built_in side) word) (sym c.in-Source.is) (is_one r (built_in Source) word c.is_built_in_source.ensures)

pub returns-in-Plain : goal.returns-in-Plain
returns-in-Plain c =
    let r = c.is_built_in_plain.result in
    let word = c.args.word.now in
    subst (λ side. IsTrue r ↔ Contains (built_in side) word) (sym c.in-Plain.is) (is_one r (built_in Plain) word c.is_built_in_plain.ensures)
