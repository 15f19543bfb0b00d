-- The depth of the trees of a list.
use denote.Param.Weighed.{most}
use Rattle.std.proofs.Common.{ℕ, List, [], ◌∷◌, ◌<◌, ◌≤◌, ◌≡◌, arith, subst, All, suc}
use Rattle.std.specs.Prelude.{Vec}
use Rattle.std.specs.declared.alloc.Global.{Global}
use Rattle.actx_ast.specs.Apart.{IsBelow}
use Rattle.actx_ast.specs.declared.tree.drop.Part.{Part}
use Rattle.actx_ast.specs.declared.tree.drop.Part.TheVariants as p
use Rattle.actx_ast.specs.declared.tree.Clause.{Clause, size-Clause}
use Rattle.actx_ast.specs.declared.tree.ConstItem.{ConstItem, size-ConstItem}
use Rattle.actx_ast.specs.declared.tree.LetItem.{LetItem, size-LetItem}
use Rattle.actx_ast.specs.declared.tree.Property.{Property, size-Property}
use Rattle.actx_ast.specs.declared.tree.Expr.{Expr, size-Expr, size_is-Expr}
use Rattle.actx_ast.specs.declared.tree.Stmt.{Stmt, size-Stmt, size_is-Stmt}

pub some_expr : (e : Expr) → 0 < size-Expr e
some_expr e = omega (arith, size_is-Expr e)

pub some_stmt : (st : Stmt) → 0 < size-Stmt st
some_stmt st = omega (arith, size_is-Stmt st)

pub most_below : {X : Type 0} (f : X → ℕ) (n : ℕ) (xs : List X) → 0 < n → All (λ x. f x < n) xs → most f xs < n
most_below f n [] z h = z
most_below f n (x ∷ xs) z h =
    let here : f x < n = h 0 x (omega arith) in
    let rest : most f xs < n = most_below f n xs z (λ k d l. h (suc k) d (omega (arith, l))) in
    omega (arith, here, rest)

-- of parts
pub exprs_below : (n t : ℕ) (q : Part) (v : Vec Expr Global) → q ≡ p.Exprs v → IsBelow n q → 0 < n → n ≤ t → most size-Expr v.items < t
exprs_below n t q v is below z le =
    let deep : All (λ x. size-Expr x < n) v.items = subst (IsBelow n) is below in
    let most : most size-Expr v.items < n = most_below size-Expr n v.items z deep in
    omega (arith, most, le)

pub stmts_below : (n t : ℕ) (q : Part) (v : Vec Stmt Global) → q ≡ p.Stmts v → IsBelow n q → 0 < n → n ≤ t → most size-Stmt v.items < t
stmts_below n t q v is below z le =
    let deep : All (λ x. size-Stmt x < n) v.items = subst (IsBelow n) is below in
    let most : most size-Stmt v.items < n = most_below size-Stmt n v.items z deep in
    omega (arith, most, le)

pub properties_below : (n t : ℕ) (q : Part) (v : Vec Property Global) → q ≡ p.Properties v → IsBelow n q → 0 < n → n ≤ t → most size-Property v.items < t
properties_below n t q v is below z le =
    let deep : All (λ x. size-Property x < n) v.items = subst (IsBelow n) is below in
    let most : most size-Property v.items < n = most_below size-Property n v.items z deep in
    omega (arith, most, le)

pub lets_below : (n t : ℕ) (q : Part) (v : Vec LetItem Global) → q ≡ p.Lets v → IsBelow n q → 0 < n → n ≤ t → most size-LetItem v.items < t
lets_below n t q v is below z le =
    let deep : All (λ x. size-LetItem x < n) v.items = subst (IsBelow n) is below in
    let most : most size-LetItem v.items < n = most_below size-LetItem n v.items z deep in
    omega (arith, most, le)

pub consts_below : (n t : ℕ) (q : Part) (v : Vec ConstItem Global) → q ≡ p.Consts v → IsBelow n q → 0 < n → n ≤ t → most size-ConstItem v.items < t
consts_below n t q v is below z le =
    let deep : All (λ x. size-ConstItem x < n) v.items = subst (IsBelow n) is below in
    let most : most size-ConstItem v.items < n = most_below size-ConstItem n v.items z deep in
    omega (arith, most, le)

pub clauses_below : (n t : ℕ) (q : Part) (v : Vec Clause Global) → q ≡ p.Clauses v → IsBelow n q → 0 < n → n ≤ t → most size-Clause v.items < t
clauses_below n t q v is below z le =
    let deep : All (λ x. size-Clause x < n) v.items = subst (IsBelow n) is below in
    let most : most size-Clause v.items < n = most_below size-Clause n v.items z deep in
    omega (arith, most, le)
