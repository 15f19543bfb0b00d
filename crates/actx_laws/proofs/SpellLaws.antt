-- THE LAWS of printed trees. SpellAgain: a tree's own tokens spell it within their own depth. SpellDepths: that depth is not
-- greater than any within which some tokens spell the tree. SpellDeeper leads from the one depth to the other.
use Rattle.std.proofs.Common.{ℕ, ◌≤◌, false, Option, subst}
use Rattle.actx_grammar.specs.declared.side.Side.{Side}
use Rattle.actx_grammar.specs.Layout.{laid}
use Rattle.actx_grammar.specs.Tree.{Stmts}
use Rattle.actx_grammar.specs.Grammar.{SpellsStmts}
use Rattle.actx_grammar.specs.Spell.{spell_program, SpelledAgain, SpelledInForm}
use Rattle.actx_grammar.specs.Depth.{depth_program, Shallowest}
use Rattle.actx_laws.proofs.SpellDeeper.{deeper_stmts}
use Rattle.actx_laws.proofs.SpellLaid.{kinds_laid}
use Rattle.actx_laws.proofs.SpellDepths.{bound_stmts}
use Rattle.actx_laws.proofs.SpellSaid.{StmtsSaid}
use Rattle.actx_laws.proofs.SpellAgain.{stmts_said}
use Rattle.actx_laws.proofs.SpellWords.{Formed, all_formed}
use Rattle.actx_laws.proofs.SpellForms.{forms_stmts}

within_depth : (side : Side) (most : Option ℕ) (p : Stmts) (d : ℕ) → depth_program p ≤ d → StmtsSaid side most p → SpellsStmts side most d p (laid (spell_program p))
within_depth side most p d h q = deeper_stmts (q false) h

-- a program that some tokens spell is spelled by its own tokens too, within the same depth
pub spelled_again : SpelledAgain
spelled_again side most d p ts h = within_depth side most p d (bound_stmts h) (stmts_said h)

-- and each of them is of its kind's form
pub spelled_in_form : SpelledInForm
spelled_in_form side most d p ts h = all_formed (spell_program p) (subst Formed (kinds_laid false (spell_program p)) (forms_stmts (stmts_said h false)))

-- and they go no deeper than any that spell it
pub shallowest : Shallowest
shallowest side most d p ts h = (bound_stmts h, stmts_said h false)
