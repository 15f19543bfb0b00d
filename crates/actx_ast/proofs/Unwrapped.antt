-- An expression with its parentheses is the expression without them, between them; and the last piece is spelled first.
use Rattle.std.proofs.Common.{◌≡◌, ℕ, ◌+◌, List, [], ◌∷◌, ◌++◌, Bool, true, false, nat_lt, refl, sym, ap, ◌∙◌, arith}
use Rattle.actx_grammar.specs.declared.operators.BinaryOp.TheVariants as o
use Rattle.actx_grammar.specs.declared.operators.Form.{Form}
use Rattle.actx_grammar.specs.declared.operators.Form.TheVariants as f
use Rattle.actx_grammar.specs.declared.operators.FunctionKind.TheVariants as k
use Rattle.actx_grammar.specs.declared.operators.LogicOp.TheVariants as g
use Rattle.actx_ast.specs.declared.spell.Work.{Work}
use Rattle.actx_grammar.specs.declared.token.TokenKind.{TokenKind}
use Rattle.actx_grammar.specs.Spell.{Start, inner, body, statement, within, in_parens, round, spell}
use Rattle.actx_grammar.specs.Tree.{Expr, Num, Text, Truth, Null, Undefined, This, Named, Unary, Binary, Logic, Choice, SetName, SetMember, Change, Bump, Member, Call, Object, Function, Yield, YieldAll, Await, Built, none, also, no_expr, some_expr, code}
use Rattle.actx_ast.specs.Unspelled.{needs_parens, bare, text, rest_onto, rest_of, weight, weigh}

-- with its parentheses
abbrev Enclosed : Start → Expr → ℕ → Type 0
Enclosed st e l = spell st e l ≡ in_parens (needs_parens st e l) (bare (within (needs_parens st e l) st) e)

enclosed : (st : Start) (e : Expr) (l : ℕ) → Enclosed st e l
enclosed st (Binary o.Same a b) l = refl
enclosed st (Binary _ a b) l = refl
enclosed st (Logic g.And a b) l = refl
enclosed st (Logic _ a b) l = refl
enclosed st (Function (code x k.Arrow xs ss)) l = refl
enclosed st (Function (code x _ xs ss)) l = refl
enclosed st (Truth true) l = refl
enclosed st (Truth false) l = refl
enclosed st (Bump x up true) l = refl
enclosed st (Bump x up false) l = refl
enclosed st (Yield no_expr) l = refl
enclosed st (Yield (some_expr e)) l = refl
enclosed st (Built f.CallWith none) l = refl
enclosed st (Built f.CallWith (also e es)) l = refl
enclosed st (Built _ es) l = refl
enclosed st _ l = refl

pub wrapped : (st : Start) (e : Expr) (l : ℕ) (b : Bool) → b ≡ needs_parens st e l → b ≡ true → spell st e l ≡ round (bare inner e)
wrapped st e l b q h = enclosed st e l ∙ ap (λ c. in_parens c (bare (within c st) e)) (sym q ∙ h)

pub unwrapped : (st : Start) (e : Expr) (l : ℕ) (b : Bool) → b ≡ needs_parens st e l → b ≡ false → spell st e l ≡ bare st e
unwrapped st e l b q h = enclosed st e l ∙ ap (λ c. in_parens c (bare (within c st) e)) (sym q ∙ h)

-- THE LAST PIECE IS SPELLED FIRST
rest_onto_last : (ws : List Work) (w : Work) (r : List TokenKind) → rest_onto (ws ++ w ∷ []) r ≡ text w ++ rest_onto ws r
rest_onto_last [] w r = refl
rest_onto_last (v ∷ ws) w r = rest_onto_last ws w (text v ++ r)

pub rest_last : (ws : List Work) (w : Work) → rest_of (ws ++ w ∷ []) ≡ text w ++ rest_of ws
rest_last ws w = rest_onto_last ws w []

pub weigh_last : (ws : List Work) (w : Work) → weigh (ws ++ w ∷ []) ≡ weigh ws + weight w
weigh_last [] w = omega arith
weigh_last (v ∷ ws) w = omega (arith, weigh_last ws w)
