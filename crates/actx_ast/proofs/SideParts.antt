-- Parts of a form, as the code's lists have them.
use Rattle.std.proofs.Common.{◌≡◌, ◌↔◌, ◌==◌, ℕ, suc, Bool, true, not, List, [], ◌∷◌, length, IsTrue, refl, sym, ap, ◌∙◌, subst, rules}
use Rattle.actx_grammar.specs.declared.operators.Form.{Form}
use Rattle.actx_grammar.specs.declared.operators.Form.TheVariants as f
use Rattle.actx_grammar.specs.declared.side.Side.{Side}
use Rattle.actx_grammar.specs.declared.side.Side.TheVariants.{Source, Plain}
use Rattle.actx_ast.specs.declared.tree.Expr.{Expr}
use Rattle.actx_grammar.specs.Forms.{HasWords, Suits}
use Rattle.actx_grammar.specs.Grammar.{count}
use Rattle.actx_grammar.specs.Sides.{IsFormOf}
use Rattle.actx_grammar.specs.Tree.{Exprs}
use Rattle.actx_ast.specs.View.{exprs_view}

pub count_view : (es : List Expr) → count (exprs_view es) ≡ length es
count_view [] = refl
count_view (e ∷ es) = ap suc (count_view es)

worded : (side : Side) (form : Form) (es : Exprs) → HasWords side form → IsFormOf side form es ↔ Suits form (count es)
worded Source form es w = (λ h. h.1, λ s. (w, s))
worded Plain f.CallWith es w = absurd w
worded Plain f.Log es w = (λ h. h.1, λ s. (w, s))
worded Plain _ es w = (λ h. h.1, λ s. (w, s))

-- a form that has words
pub form_worded : (side : Side) (form : Form) (es : List Expr) (n : ℕ) (r : Bool) → HasWords side form → n ≡ length es → IsTrue r ↔ Suits form n → IsTrue r ↔ IsFormOf side form (exprs_view es)
form_worded side form es n r w e h =
    let i = subst (λ m. IsTrue r ↔ Suits form m) (e ∙ sym (count_view es)) h in
    let k = worded side form (exprs_view es) w in
    (λ j. k.1 (i.0 j), λ j. i.1 (k.0 j))

some_length : (n : ℕ) → not (suc n == 0) ≡ true
some_length n = search rules

-- `.call` takes a function at least
pub call_with_parts : (es : List Expr) → IsTrue (not (length es == 0)) ↔ IsFormOf Plain f.CallWith (exprs_view es)
call_with_parts [] = (λ h. absurd cc, λ h. absurd h.0)
call_with_parts (e ∷ es) = (λ h. tt, λ h. some_length (length es))
