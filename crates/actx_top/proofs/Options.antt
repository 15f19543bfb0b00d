-- The options of a variable.
use Rattle.std.proofs.Common.{◌≡◌, ℕ, suc, ◌≤◌, length, List, [], ◌∷◌, Some, None, Bool, true, false, refl, ap, if◌then◌else◌, arith}
use Rattle.std.specs.Prelude.{◌&&◌}
use Rattle.actx_data.specs.declared.end.End.TheVariants.{Left}
use Rattle.actx_grammar.specs.declared.side.Side.TheVariants.{Plain}
use Rattle.actx_ast.specs.declared.tree.Expr.{Expr}
use Rattle.actx_grammar.specs.declared.operators.Form.{Form}
use Rattle.actx_grammar.specs.Grammar.{count}
use Rattle.actx_grammar.specs.ParserOperands.{suits}
use Rattle.actx_grammar.specs.Tree.{Exprs}
use Rattle.actx_ast.specs.View.{exprs_view}
use Rattle.actx_rules.specs.Machine.{has_form, eval_form, eval_parts}
use Rattle.actx_target.specs.MachineView.{form_of}
use Rattle.actx_rules.specs.State as m
use Rattle.actx_rules.specs.Taken.{untaken_options}
use Rattle.actx_target.specs.declared.machine.PlainForm.{PlainForm}

-- two parts and more are no options of a variable
pub two_options : (n : ℕ) (xs : List Expr) → 2 ≤ length xs → untaken_options n (exprs_view xs) ≡ Some n
two_options n [] h = absurd (omega (arith, h))
two_options n (x ∷ []) h = absurd (omega (arith, h))
two_options n (x ∷ y ∷ xs) h = refl
