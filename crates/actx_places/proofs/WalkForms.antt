-- A call by `.call` begins with what is called, and any other form with its words.
use Rattle.std.proofs.Common.{◌≡◌, ◌≢◌, ◌<◌, ◌≤◌, ◌-◌, ◌∙◌, take, List, [], ◌∷◌, drop, length, refl, ap, arith, get_or}
use Rattle.std.proofs.lemmas.List.{take_all}
use Rattle.actx_grammar.specs.declared.operators.Form.{Form}
use Rattle.actx_grammar.specs.declared.operators.Form.TheVariants as f
use Rattle.actx_ast.specs.declared.tree.Expr.{Expr}
use Rattle.actx_grammar.specs.Forms.{form_words}
use Rattle.actx_grammar.specs.Tree.{Exprs, none, also, Built}
use Rattle.actx_ast.specs.View.{expr_view, exprs_view}
use Rattle.actx_places.specs.Walk.{Walk, places, own, later, settle, pass, close, spine, arguments, call_with}

pub other_form : (form : Form) (es : Exprs) (w : Walk) → form ≢ f.CallWith → spine (Built form es) w ≡ close (arguments es (pass (length (form_words form)) (own w)))
other_form f.CallWith es w h = absurd (h refl)
other_form f.Log es w h = refl
other_form _ es w h = refl

calls : (es : Exprs) (w : Walk) → spine (Built f.CallWith es) w ≡ call_with es w
calls none w = refl
calls (also e es) w = refl

pub built_call : (form : Form) (es : Exprs) (w : Walk) → form ≡ f.CallWith → spine (Built form es) w ≡ call_with es w
built_call form es w h = ap (λ g. spine (Built g es) w) h ∙ calls es w

-- a call by `.call` of nothing is walked over as its words, and one of a callee as a call of it
pub nothing_called : (parts : List Expr) → length parts < 1 → (w : Walk) → close (arguments (exprs_view parts) (pass (length (form_words f.CallWith)) (own w))) ≡ call_with (exprs_view parts) w
nothing_called [] l w = refl
nothing_called (e ∷ es) l w = absurd (omega (arith, l))

pub callee_called : (parts : List Expr) (callee : Expr) → 1 ≤ length parts → callee ≡ get_or parts 0 callee → (w : Walk)
    → close (arguments (exprs_view (take (length parts - 1) (drop 1 parts))) (pass 2 (settle (length (places w)) (spine (expr_view callee) (later w))))) ≡ call_with (exprs_view parts) w
callee_called [] callee l e w = absurd (omega (arith, l))
callee_called (p ∷ ps) callee l e w =
    let short : length ps ≤ length (p ∷ ps) - 1 = omega arith in
    ap (λ es. close (arguments (exprs_view es) (pass 2 (settle (length (places w)) (spine (expr_view callee) (later w)))))) (take_all (length (p ∷ ps) - 1) ps short)
    ∙ ap (λ z. close (arguments (exprs_view ps) (pass 2 (settle (length (places w)) (spine (expr_view z) (later w)))))) e
