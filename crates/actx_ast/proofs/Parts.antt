-- A part more, and one less.
use Rattle.std.proofs.Common.{◌≡◌, ℕ, ◌+◌, List, [], ◌∷◌, ◌++◌, map, arith, subst, sym, Option, All}
use Rattle.std.specs.Prelude.{IfSome, ◌<◌, option_to_list}
use Rattle.std.proofs.lemmas.List.Elements.{All-nil, All-push, All-pop}
use Rattle.actx_ast.specs.Apart.{AllBelow, IsBelow, listed, weigh, weight}
use Rattle.actx_ast.specs.declared.tree.drop.Part.{Part}
use Rattle.actx_ast.specs.declared.tree.drop.Part.TheVariants as p

pub AllBelow_none : (n : ℕ) (ps : List Part) → ps ≡ [] → AllBelow n ps
unfolding AllBelow
AllBelow_none n ps e = subst (λ qs. All (IsBelow n) qs) (sym e) (All-nil (IsBelow n))

pub AllBelow_put : (n : ℕ) (ps : List Part) (p : Part) → AllBelow n ps → IsBelow n p → AllBelow n (ps ++ p ∷ [])
unfolding AllBelow
AllBelow_put n ps p h k = All-push (IsBelow n) ps p h k

pub AllBelow_rest : (n : ℕ) (xs ys : List Part) (r : Option Part) → xs ≡ ys ++ option_to_list r → AllBelow n xs → AllBelow n ys
unfolding AllBelow
AllBelow_rest n xs ys r e h = (All-pop (IsBelow n) xs ys r e h).0

pub AllBelow_last : (n : ℕ) (xs ys : List Part) (r : Option Part) → xs ≡ ys ++ option_to_list r → AllBelow n xs → IfSome r (IsBelow n)
unfolding AllBelow
AllBelow_last n xs ys r e h = (All-pop (IsBelow n) xs ys r e h).1

pub weigh_put : (ps : List Part) (p : Part) → weigh (ps ++ p ∷ []) ≡ weigh ps + weight p
weigh_put [] p = omega arith
weigh_put (q ∷ ps) p = omega (arith, weigh_put ps p)

pub listed_last : {X : Type 0} (f : X → ℕ) (xs : List X) (x : X) → listed (map f (xs ++ x ∷ [])) ≡ listed (map f xs) + (1 + f x)
listed_last f [] x = omega arith
listed_last f (y ∷ xs) x = omega (arith, listed_last f xs x)

pub some_listed : (ns : List ℕ) → 0 < listed ns
some_listed [] = omega arith
some_listed (n ∷ ns) = omega arith

pub some_weight : (q : Part) → 0 < weight q
some_weight (p.Expr b) = omega arith
some_weight (p.Stmt b) = omega arith
some_weight (p.Function b) = omega arith
some_weight (p.Exprs v) = some_listed _
some_weight (p.Stmts v) = some_listed _
some_weight (p.Properties v) = some_listed _
some_weight (p.Lets v) = some_listed _
some_weight (p.Consts v) = some_listed _
some_weight (p.Clauses v) = some_listed _
