-- THE LAW of trees on a side: SideReads leads from tokens to the tree, SideSpells from the tree to its own tokens.
use Rattle.std.proofs.Common.{false}
use Rattle.actx_grammar.specs.declared.side.Side.{Side}
use Rattle.actx_grammar.specs.Depth.{depth_program}
use Rattle.actx_grammar.specs.Grammar.{HasSpelling}
use Rattle.actx_grammar.specs.Layout.{laid}
use Rattle.actx_grammar.specs.Sides.{StmtsOn, ToldByTheTree}
use Rattle.actx_grammar.specs.Spell.{spell_program}
use Rattle.actx_grammar.specs.Tree.{Stmts}
use Rattle.actx_laws.proofs.SideReads.{stmts_on}
use Rattle.actx_laws.proofs.SideSpells.{stmts_said}

spelled : (side : Side) (p : Stmts) → StmtsOn side p → HasSpelling side p
spelled side p h = record { depth = depth_program p; tokens = laid (spell_program p); spelled = stmts_said side p h false }

-- what some tokens spell on a side is told by the tree alone
pub told_by_the_tree : ToldByTheTree
told_by_the_tree side p = (spelled side p, λ h. stmts_on h.spelled)
