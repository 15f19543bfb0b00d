-- Built-in forms of a plain program.
use Rattle.std.proofs.Common.{◌≡◌, ℕ, suc, ◌≤◌, length, List, [], ◌∷◌, Some, None, Bool, true, false, refl, ap, if◌then◌else◌, arith}
use Rattle.std.specs.Prelude.{◌&&◌}
use Rattle.actx_data.specs.declared.end.End.TheVariants.{Left}
use Rattle.actx_grammar.specs.declared.side.Side.TheVariants.{Plain}
use Rattle.actx_ast.specs.declared.tree.Expr.{Expr}
use Rattle.actx_grammar.specs.declared.operators.Form.{Form}
use Rattle.actx_grammar.specs.Grammar.{count}
use Rattle.actx_grammar.specs.ParserOperands.{suits}
use Rattle.actx_grammar.specs.Tree.{Exprs}
use Rattle.actx_ast.specs.View.{exprs_view}
use Rattle.actx_rules.specs.Machine.{has_form, eval_form, eval_parts}
use Rattle.actx_target.specs.MachineView.{form_of}
use Rattle.actx_rules.specs.State as m
use Rattle.actx_rules.specs.Taken.{untaken_options}
use Rattle.actx_target.specs.declared.machine.PlainForm.{PlainForm}

pub count_is : (es : List Expr) → count (exprs_view es) ≡ length es
count_is [] = refl
count_is (e ∷ es) = ap suc (count_is es)

pub form_goes : (f : PlainForm) (form : Form) (es : Exprs) (fs : List m.Frame) (s : m.Store) → Some (form_of f) ≡ (if has_form Plain form && suits form (count es) then Some form else None) → eval_parts Plain (m.BuiltIn (form_of f)) [] es fs s ≡ eval_form Plain form es fs s
form_goes f form es fs s h = by_test (has_form Plain form && suits form (count es)) h
  where
    by_test : (b : Bool) → Some (form_of f) ≡ (if b then Some form else None) → eval_parts Plain (m.BuiltIn (form_of f)) [] es fs s ≡ (if b then eval_parts Plain (m.BuiltIn form) [] es fs s else m.Stops Left)
    by_test true g = let same : form_of f ≡ form = cc in ap (λ z. eval_parts Plain (m.BuiltIn z) [] es fs s) same
    by_test false g = absurd cc

pub form_stops : (form : Form) (es : Exprs) (fs : List m.Frame) (s : m.Store) → None ≡ (if has_form Plain form && suits form (count es) then Some form else None) → m.Stops Left ≡ eval_form Plain form es fs s
form_stops form es fs s h = by_test (has_form Plain form && suits form (count es)) h
  where
    by_test : (b : Bool) → None ≡ (if b then Some form else None) → m.Stops Left ≡ (if b then eval_parts Plain (m.BuiltIn form) [] es fs s else m.Stops Left)
    by_test true g = absurd cc
    by_test false g = refl
