-- A program of the forms that are taken stands in the relation to its emitted program.
use Rattle.std.proofs.Common.{◌≡◌, ◌≢◌, ℕ, suc, ◌+◌, ◌≤◌, Bool, true, false, List, [], ◌∷◌, length, Option, Some, None, refl, sym, ap, ◌∙◌, leb-true}
use Rattle.std.specs.Prelude.{codes, nat_le}
use Rattle.actx_grammar.specs.declared.operators.BinaryOp.{BinaryOp}
use Rattle.actx_grammar.specs.declared.operators.BinaryOp.TheVariants as o
use Rattle.actx_grammar.specs.declared.operators.Form.{Form}
use Rattle.actx_grammar.specs.declared.operators.Form.TheVariants.{Log, NewVariable}
use Rattle.actx_grammar.specs.declared.operators.FunctionKind.TheVariants.{Arrow}
use Rattle.actx_grammar.specs.Grammar.{count}
use Rattle.actx_grammar.specs.Nodes.{expr_nodes, prop_key_nodes, stmt_nodes}
use Rattle.actx_grammar.specs.Static.{is_among}
use Rattle.actx_grammar.specs.Tree.{Expr, Num, Text, Undefined, Named, Binary, Member, Call, Object, Function, Built, Exprs, none, also, MaybeExpr, no_expr, some_expr, Key, Dot, Index, PropKey, Fixed, Computed, Properties, no_properties, property, Code, code, ConstItems, no_consts, const_item, Stmt, Const, Value, Return, Stmts, end, next}
use Rattle.actx_rules.specs.Low.{names_renamed, renamed, all_renamed, properties_renamed, items_renamed, stmt_renamed, value_renamed, program_renamed}
use Rattle.actx_rules.specs.Related.{NamesAre, no_names, more_names, ExprIs, num_expr, text_expr, undefined_expr, named_expr, binary_expr, member_expr, call_expr, arrow_expr, log_expr, variable_expr, options_expr, ExprsAre, no_exprs, more_exprs, PropertiesAre, no_properties_are, more_properties, ItemsAre, no_items_are, more_items, StmtIs, const_stmt, value_stmt, return_stmt, return_nothing_stmt, StmtsAre, no_stmts, more_stmts}
use Rattle.actx_rules.specs.State.{or_else}
use Rattle.actx_rules.specs.Taken.{member_names, longest_text, unless, is_operator, untaken, untaken_options, untaken_literal, untaken_list, untaken_properties, untaken_items, untaken_value, untaken_stmt, untaken_stmts, IsTaken}

-- where none of two is found, neither is
left_none : (a b : Option ℕ) → or_else a b ≡ None → a ≡ None
left_none None b h = refl
left_none (Some n) b h = absurd (cc)

right_none : (a b : Option ℕ) → or_else a b ≡ None → b ≡ None
right_none None b h = h
right_none (Some n) b h = absurd (cc)

nothing : {A : Type 0} (n : ℕ) → Some n ≡ None → A
nothing n h = absurd (cc)

holds : (b : Bool) (n : ℕ) → unless b n ≡ None → b ≡ true
holds true n h = refl
holds false n h = absurd (cc)

key_plain : (key : List ℕ) (n : ℕ) → unless (is_among member_names key) n ≡ None → key ≢ codes "call"
key_plain key n h e = let one : true ≡ is_among member_names (codes "call") = sym (holds (is_among member_names key) n h) ∙ ap (is_among member_names) e in absurd (cc)

names_image : (xs : List (List ℕ)) → NamesAre xs (names_renamed xs)
names_image [] = no_names
names_image (x ∷ xs) = more_names x (names_image xs)

mutual
  expr_image : (n : ℕ) (e : Expr) → untaken n e ≡ None → ExprIs e (renamed e)
  expr_image n (Num m) h = num_expr m
  expr_image n (Text u) h = text_expr u (leb-true (length u) longest_text (holds (nat_le (length u) longest_text) n h))
  expr_image n Undefined h = undefined_expr
  expr_image n (Named x) h = named_expr x
  expr_image n (Binary op a b) h =
      let parts = right_none (unless (is_operator op) n) (or_else (untaken (suc n) a) (untaken (suc n + expr_nodes a) b)) h in
      binary_expr op (expr_image (suc n) a (left_none (untaken (suc n) a) (untaken (suc n + expr_nodes a) b) parts)) (expr_image (suc n + expr_nodes a) b (right_none (untaken (suc n) a) (untaken (suc n + expr_nodes a) b) parts))
  expr_image n (Member e (Dot x)) h =
      let key = unless (is_among member_names x) (suc n + expr_nodes e) in
      member_expr x (key_plain x (suc n + expr_nodes e) (right_none (untaken (suc n) e) key h)) (expr_image (suc n) e (left_none (untaken (suc n) e) key h))
  expr_image n (Member e (Index i)) h = nothing (suc n + expr_nodes e) (right_none (untaken (suc n) e) (Some (suc n + expr_nodes e)) h)
  expr_image n (Call f es) h =
      let few = unless (nat_le (count es) 8) n in
      let parts = right_none few (or_else (untaken (suc n) f) (untaken_list (suc n + expr_nodes f) es)) h in
      call_expr (leb-true (count es) 8 (holds (nat_le (count es) 8) n (left_none few (or_else (untaken (suc n) f) (untaken_list (suc n + expr_nodes f) es)) h)))
      (expr_image (suc n) f (left_none (untaken (suc n) f) (untaken_list (suc n + expr_nodes f) es) parts))
      (exprs_image (suc n + expr_nodes f) es (right_none (untaken (suc n) f) (untaken_list (suc n + expr_nodes f) es) parts))
  expr_image n (Function (code None Arrow xs ss)) h = arrow_expr (names_image xs) (stmts_image (suc n + length xs) ss h)
  expr_image n (Built Log es) h = log_expr (exprs_image (suc n) es h)
  expr_image n (Built NewVariable es) h = options_image n es h
  expr_image n _ h = nothing n h

  options_image : (n : ℕ) (es : Exprs) → untaken_options n es ≡ None → ExprIs (Built NewVariable es) (renamed (Built NewVariable es))
  options_image n none h = variable_expr
  options_image n (also e none) h = literal_image (suc n) e h
  options_image n (also e (also f es)) h = nothing n h

  literal_image : (n : ℕ) (e : Expr) → untaken_literal n e ≡ None → ExprIs (Built NewVariable (also e none)) (renamed (Built NewVariable (also e none)))
  literal_image n (Object ps) h = options_expr (properties_image (suc n) ps h)
  literal_image n _ h = nothing n h

  exprs_image : (n : ℕ) (es : Exprs) → untaken_list n es ≡ None → ExprsAre es (all_renamed es)
  exprs_image n none h = no_exprs
  exprs_image n (also e es) h =
      more_exprs (expr_image n e (left_none (untaken n e) (untaken_list (n + expr_nodes e) es) h)) (exprs_image (n + expr_nodes e) es (right_none (untaken n e) (untaken_list (n + expr_nodes e) es) h))

  properties_image : (n : ℕ) (ps : Properties) → untaken_properties n ps ≡ None → PropertiesAre ps (properties_renamed ps)
  properties_image n no_properties h = no_properties_are
  properties_image n (property (Fixed u) e ps) h =
      more_properties u (expr_image (n + 1) e (left_none (untaken (n + 1) e) (untaken_properties (n + 1 + expr_nodes e) ps) h)) (properties_image (n + 1 + expr_nodes e) ps (right_none (untaken (n + 1) e) (untaken_properties (n + 1 + expr_nodes e) ps) h))
  properties_image n (property (Computed k) e ps) h = nothing n h

  items_image : (n : ℕ) (is : ConstItems) → untaken_items n is ≡ None → ItemsAre is (items_renamed is)
  items_image n no_consts h = no_items_are
  items_image n (const_item x e is) h =
      more_items x (expr_image (suc n) e (left_none (untaken (suc n) e) (untaken_items (suc n + expr_nodes e) is) h)) (items_image (suc n + expr_nodes e) is (right_none (untaken (suc n) e) (untaken_items (suc n + expr_nodes e) is) h))

  stmt_image : (n : ℕ) (st : Stmt) → untaken_stmt n st ≡ None → StmtIs st (stmt_renamed st)
  stmt_image n (Const is) h = const_stmt (items_image (suc n) is h)
  stmt_image n (Value e) h = value_stmt (expr_image (suc n) e h)
  stmt_image n (Return (some_expr e)) h = return_stmt (expr_image (suc n) e h)
  stmt_image n (Return no_expr) h = return_nothing_stmt
  stmt_image n _ h = nothing n h

  stmts_image : (n : ℕ) (ss : Stmts) → untaken_stmts n ss ≡ None → StmtsAre ss (program_renamed ss)
  stmts_image n end h = no_stmts
  stmts_image n (next st ss) h =
      more_stmts (stmt_image n st (left_none (untaken_stmt n st) (untaken_stmts (n + stmt_nodes st) ss) h)) (stmts_image (n + stmt_nodes st) ss (right_none (untaken_stmt n st) (untaken_stmts (n + stmt_nodes st) ss) h))

pub program_image : (p : Stmts) → IsTaken p → StmtsAre p (program_renamed p)
program_image p h = stmts_image 0 p h
