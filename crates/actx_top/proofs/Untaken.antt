-- The node that isn't taken is one of its tree's, whose first node is n.
use Rattle.std.proofs.Common.{◌≡◌, ℕ, suc, ◌+◌, ◌≤◌, ◌<◌, length, Option, Some, None, Bool, true, false, arith}
use Rattle.std.specs.Prelude.{nat_le}
use Rattle.actx_grammar.specs.declared.operators.Form.TheVariants.{Log, NewVariable}
use Rattle.actx_grammar.specs.declared.operators.FunctionKind.TheVariants.{Arrow}
use Rattle.actx_grammar.specs.Grammar.{count}
use Rattle.actx_grammar.specs.Nodes.{expr_nodes, exprs_nodes, maybe_nodes, key_nodes, prop_key_nodes, properties_nodes, consts_nodes, stmt_nodes, stmts_nodes}
use Rattle.actx_grammar.specs.Static.{is_among}
use Rattle.actx_grammar.specs.Tree.{Expr, Num, Text, Undefined, Named, Binary, Member, Call, Object, Function, Built, Exprs, none, also, MaybeExpr, no_expr, some_expr, Key, Dot, Index, PropKey, Fixed, Computed, Properties, no_properties, property, code, ConstItems, no_consts, const_item, Stmt, Const, Value, Return, Stmts, end, next}
use Rattle.actx_rules.specs.State.{or_else}
use Rattle.actx_rules.specs.Taken.{member_names, longest_text, is_operator, unless, untaken_key, untaken_prop_key, untaken, untaken_options, untaken_literal, untaken_list, untaken_properties, untaken_items, untaken_value, untaken_stmt, untaken_stmts, first_untaken}

-- one of k nodes from n on, where there is one
abbrev Inside : ℕ → ℕ → Option ℕ → Type 0
Inside n k o = (m : ℕ) → o ≡ Some m → (n ≤ m) × (m < n + k)

nothing : (n k : ℕ) → Inside n k None
nothing n k m e = absurd cc

itself : (n k : ℕ) → 0 < k → Inside n k (Some n)
itself n k h m e = let same : n ≡ m = cc in (omega (arith, same), omega (arith, same, h))

tested : (b : Bool) (n k : ℕ) → 0 < k → Inside n k (unless b n)
tested true n k h = nothing n k
tested false n k h = itself n k h

either : (n k : ℕ) (a b : Option ℕ) → Inside n k a → Inside n k b → Inside n k (or_else a b)
either n k (Some x) b f g = f
either n k None b f g = g

part : (n k i j : ℕ) (o : Option ℕ) → n ≤ i → i + j ≤ n + k → Inside i j o → Inside n k o
part n k i j o l r f m e =
    let p = f m e in
    let low : i ≤ m = p.0 in
    let high : m < i + j = p.1 in
    (omega arith, omega arith)

some_node : (e : Expr) → 0 < expr_nodes e
some_node (Num n) = omega arith
some_node e = omega arith

some_stmt_node : (st : Stmt) → 0 < stmt_nodes st
some_stmt_node (Const is) = omega arith
some_stmt_node st = omega arith

key_inside : (key : Key) (n : ℕ) → Inside n (key_nodes key) (untaken_key n key)
key_inside (Dot x) n = tested (is_among member_names x) n 1 (omega arith)
key_inside (Index e) n = itself n (expr_nodes e) (some_node e)

prop_key_inside : (key : PropKey) (n : ℕ) → Inside n (prop_key_nodes key) (untaken_prop_key n key)
prop_key_inside (Fixed u) n = nothing n 1
prop_key_inside (Computed e) n = itself n (expr_nodes e) (some_node e)

mutual
  expr_inside : (e : Expr) (n : ℕ) → Inside n (expr_nodes e) (untaken n e)
  expr_inside (Num m) n = nothing n 1
  expr_inside (Text u) n = tested (nat_le (length u) longest_text) n 1 (omega arith)
  expr_inside Undefined n = nothing n 1
  expr_inside (Named x) n = nothing n 1
  expr_inside (Binary op a b) n =
      either n (suc (expr_nodes a + expr_nodes b)) _ _ (tested (is_operator op) n _ (omega arith))
      (either n (suc (expr_nodes a + expr_nodes b)) _ _
      (part n _ (suc n) (expr_nodes a) _ (omega arith) (omega arith) (expr_inside a (suc n)))
      (part n _ (suc n + expr_nodes a) (expr_nodes b) _ (omega arith) (omega arith) (expr_inside b (suc n + expr_nodes a))))
  expr_inside (Member b key) n =
      either n (suc (expr_nodes b + key_nodes key)) _ _
      (part n _ (suc n) (expr_nodes b) _ (omega arith) (omega arith) (expr_inside b (suc n)))
      (part n _ (suc n + expr_nodes b) (key_nodes key) _ (omega arith) (omega arith) (key_inside key (suc n + expr_nodes b)))
  expr_inside (Call f es) n =
      either n (suc (expr_nodes f + exprs_nodes es)) _ _ (tested (nat_le (count es) 8) n _ (omega arith))
      (either n (suc (expr_nodes f + exprs_nodes es)) _ _
      (part n _ (suc n) (expr_nodes f) _ (omega arith) (omega arith) (expr_inside f (suc n)))
      (part n _ (suc n + expr_nodes f) (exprs_nodes es) _ (omega arith) (omega arith) (list_inside es (suc n + expr_nodes f))))
  expr_inside (Function (code None Arrow xs ss)) n =
      part n (suc (0 + length xs + stmts_nodes ss)) (suc n + length xs) (stmts_nodes ss) _ (omega arith) (omega arith) (stmts_inside ss (suc n + length xs))
  expr_inside (Built Log es) n = part n (suc (exprs_nodes es)) (suc n) (exprs_nodes es) _ (omega arith) (omega arith) (list_inside es (suc n))
  expr_inside (Built NewVariable es) n = options_inside es n
  expr_inside e n = itself n (expr_nodes e) (some_node e)

  options_inside : (es : Exprs) (n : ℕ) → Inside n (suc (exprs_nodes es)) (untaken_options n es)
  options_inside none n = nothing n 1
  options_inside (also e none) n = part n (suc (expr_nodes e + 0)) (suc n) (expr_nodes e) _ (omega arith) (omega arith) (literal_inside e (suc n))
  options_inside (also e (also f es)) n = itself n (suc (expr_nodes e + (expr_nodes f + exprs_nodes es))) (omega arith)

  literal_inside : (e : Expr) (n : ℕ) → Inside n (expr_nodes e) (untaken_literal n e)
  literal_inside (Object ps) n = part n (suc (properties_nodes ps)) (suc n) (properties_nodes ps) _ (omega arith) (omega arith) (properties_inside ps (suc n))
  literal_inside e n = itself n (expr_nodes e) (some_node e)

  list_inside : (es : Exprs) (n : ℕ) → Inside n (exprs_nodes es) (untaken_list n es)
  list_inside none n = nothing n 0
  list_inside (also e es) n =
      either n (expr_nodes e + exprs_nodes es) _ _
      (part n _ n (expr_nodes e) _ (omega arith) (omega arith) (expr_inside e n))
      (part n _ (n + expr_nodes e) (exprs_nodes es) _ (omega arith) (omega arith) (list_inside es (n + expr_nodes e)))

  properties_inside : (ps : Properties) (n : ℕ) → Inside n (properties_nodes ps) (untaken_properties n ps)
  properties_inside no_properties n = nothing n 0
  properties_inside (property key e ps) n =
      either n (prop_key_nodes key + expr_nodes e + properties_nodes ps) _ _
      (part n _ n (prop_key_nodes key) _ (omega arith) (omega arith) (prop_key_inside key n))
      (either n (prop_key_nodes key + expr_nodes e + properties_nodes ps) _ _
      (part n _ (n + prop_key_nodes key) (expr_nodes e) _ (omega arith) (omega arith) (expr_inside e (n + prop_key_nodes key)))
      (part n _ (n + prop_key_nodes key + expr_nodes e) (properties_nodes ps) _ (omega arith) (omega arith) (properties_inside ps (n + prop_key_nodes key + expr_nodes e))))

  items_inside : (is : ConstItems) (n : ℕ) → Inside n (consts_nodes is) (untaken_items n is)
  items_inside no_consts n = nothing n 0
  items_inside (const_item x e is) n =
      either n (suc (expr_nodes e + consts_nodes is)) _ _
      (part n _ (suc n) (expr_nodes e) _ (omega arith) (omega arith) (expr_inside e (suc n)))
      (part n _ (suc n + expr_nodes e) (consts_nodes is) _ (omega arith) (omega arith) (items_inside is (suc n + expr_nodes e)))

  value_inside : (v : MaybeExpr) (n : ℕ) → Inside n (maybe_nodes v) (untaken_value n v)
  value_inside no_expr n = nothing n 0
  value_inside (some_expr e) n = expr_inside e n

  stmt_inside : (st : Stmt) (n : ℕ) → Inside n (stmt_nodes st) (untaken_stmt n st)
  stmt_inside (Const is) n = part n (suc (consts_nodes is)) (suc n) (consts_nodes is) _ (omega arith) (omega arith) (items_inside is (suc n))
  stmt_inside (Value e) n = part n (suc (expr_nodes e)) (suc n) (expr_nodes e) _ (omega arith) (omega arith) (expr_inside e (suc n))
  stmt_inside (Return o) n = part n (suc (maybe_nodes o)) (suc n) (maybe_nodes o) _ (omega arith) (omega arith) (value_inside o (suc n))
  stmt_inside st n = itself n (stmt_nodes st) (some_stmt_node st)

  stmts_inside : (ss : Stmts) (n : ℕ) → Inside n (stmts_nodes ss) (untaken_stmts n ss)
  stmts_inside end n = nothing n 0
  stmts_inside (next st ss) n =
      either n (stmt_nodes st + stmts_nodes ss) _ _
      (part n _ n (stmt_nodes st) _ (omega arith) (omega arith) (stmt_inside st n))
      (part n _ (n + stmt_nodes st) (stmts_nodes ss) _ (omega arith) (omega arith) (stmts_inside ss (n + stmt_nodes st)))

-- the first node that isn't taken is one of the program's
pub untaken_node : (p : Stmts) (n : ℕ) → first_untaken p ≡ Some n → n < stmts_nodes p
untaken_node p n e = let inside = (stmts_inside p 0 n e).1 in omega (arith, inside)
