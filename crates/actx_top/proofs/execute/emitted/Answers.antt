use Rattle.std.proofs.Common.{◌≡◌, IfOk, subst}
use Rattle.std.specs.Str.{encode_utf8_all}
use Rattle.actx_grammar.specs.Spell.{spell_program}
use Rattle.actx_emit.specs.Layout.{layout}
use Rattle.actx_top.proofs.execute.emitted.Goals as goal

pub returns-clause-text : goal.returns-clause-text
returns-clause-text c = subst (λ q. IfOk c.emit.result (λ text. text.items ≡ encode_utf8_all (layout (spell_program q)))) c.in_ok-plain.ensures c.emit.ensures.text
