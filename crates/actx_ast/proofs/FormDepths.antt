-- How deep a form goes, with its parentheses and without.
use Rattle.std.proofs.Common.{◌≡◌, ℕ, suc, min, max, ◌<◌, ◌≤◌, List, [], ◌∷◌, length, drop, get_or, refl, sym, ◌∙◌, ap, nat_lt, arith}
use Rattle.actx_grammar.specs.declared.operators.Form.{Form}
use Rattle.actx_grammar.specs.declared.operators.Form.TheVariants as f
use Rattle.actx_ast.specs.declared.tree.Expr.{Expr}
use Rattle.actx_grammar.specs.Depth.{with_parens, depth, depth_list}
use Rattle.actx_grammar.specs.Spell.{Start, within}
use Rattle.actx_grammar.specs.Tree as t
use Rattle.actx_ast.specs.View.{expr_view, exprs_view}

pub form_level : (st : Start) (form : Form) (es : t.Exprs) (l : ℕ) → with_parens (nat_lt 11 l) (depth (within (nat_lt 11 l) st) (t.Built form es) 11) ≡ depth st (t.Built form es) l
form_level st f.CallWith t.none l = refl
form_level st f.CallWith (t.also e es) l = refl
form_level st f.Log es l = refl
form_level st _ es l = refl

-- of no parts, and of a first part and others
pub call_of_none : (st : Start) (es : List Expr) → length es < 1 → depth st (t.Built f.CallWith (exprs_view es)) 11 ≡ 1
call_of_none st [] h = refl
call_of_none st (e ∷ es) h = absurd (omega arith)

pub call_of_some : (st : Start) (es : List Expr) (e : Expr) → 1 ≤ length es → e ≡ get_or es 0 e → depth st (t.Built f.CallWith (exprs_view es)) 11 ≡ suc (max (depth st (expr_view e) 11) (depth_list (exprs_view (drop 1 es))))
call_of_some st [] e h q = absurd (omega arith)
call_of_some st (x ∷ es) e h q = ap (λ y. suc (max (depth st (expr_view y) 11) (depth_list (exprs_view es)))) (sym q)

-- of two parts and of the four of a for, where m is the greatest number
capped : (a b m : ℕ) → max (min a m) (min b m) ≡ min (max a b) m
capped a b m = omega arith

above_capped : (a m : ℕ) → min (suc (min a m)) m ≡ min (suc a) m
above_capped a m = omega arith

pub two_level : (i t x y a b m : ℕ) → i ≡ min a m → t ≡ min b m → x ≡ max i t → y ≡ min (suc x) m → y ≡ min (suc (max a b)) m
two_level i t x y a b m ei et ex ey =
    let all : x ≡ min (max a b) m = ex ∙ ap (λ n. max n t) ei ∙ ap (λ n. max (min a m) n) et ∙ capped a b m in
    ey ∙ ap (λ n. min (suc n) m) all ∙ above_capped (max a b) m

pub for_level : (i t u s h r x y a b c d m : ℕ) → i ≡ min a m → t ≡ min b m → u ≡ min c m → s ≡ min d m → h ≡ max i t → r ≡ max u s → x ≡ max h r → y ≡ min (suc x) m → y ≡ min (suc (max (max a b) (max c d))) m
for_level i t u s h r x y a b c d m ei et eu es eh er ex ey =
    let head : h ≡ min (max a b) m = eh ∙ ap (λ n. max n t) ei ∙ ap (λ n. max (min a m) n) et ∙ capped a b m in
    let rest : r ≡ min (max c d) m = er ∙ ap (λ n. max n s) eu ∙ ap (λ n. max (min c m) n) es ∙ capped c d m in
    let all : x ≡ min (max (max a b) (max c d)) m = ex ∙ ap (λ n. max n r) head ∙ ap (λ n. max (min (max a b) m) n) rest ∙ capped (max a b) (max c d) m in
    ey ∙ ap (λ n. min (suc n) m) all ∙ above_capped (max (max a b) (max c d)) m
