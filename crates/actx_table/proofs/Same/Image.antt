-- A program of the forms that run stands in the relation to its emitted program.
use Rattle.std.proofs.Common.{◌≡◌, ℕ, suc, ◌+◌, Bool, true, false, List, [], ◌∷◌, length, Option, Some, None, refl, leb-true}
use Rattle.std.specs.Prelude.{codes, nat_le, if◌then◌else◌}
use Rattle.actx_grammar.specs.declared.operators.Form.{Form}
use Rattle.actx_grammar.specs.declared.operators.Form.TheVariants.{Log, NewVariable, NewError}
use Rattle.actx_grammar.specs.declared.operators.FunctionKind.{FunctionKind}
use Rattle.actx_grammar.specs.declared.operators.FunctionKind.TheVariants.{Normal as normal_kind, Arrow as arrow_kind}
use Rattle.actx_grammar.specs.Grammar.{count}
use Rattle.actx_grammar.specs.Nodes.{name_nodes, expr_nodes, maybe_nodes, key_nodes, init_nodes, stmt_nodes, catch_nodes, stmts_nodes}
use Rattle.actx_grammar.specs.Tree as t
use Rattle.actx_grammar.specs.Tree.{Expr, Exprs, MaybeExpr, Key, Properties, Code, LetItems, ConstItems, Init, Stmt, MaybeStmt, Catch, Last, Stmts}
use Rattle.actx_heap.specs.Texts.{same_text}
use Rattle.actx_table.specs.Expressions.{runs_at_once}
use Rattle.actx_table.specs.Low.{names_renamed, own_renamed, renamed, key_renamed, code_renamed, maybe_renamed, all_renamed, properties_renamed, lets_renamed, consts_renamed, init_renamed, stmt_renamed, branch_renamed, catch_renamed, last_renamed, program_renamed}
use Rattle.actx_table.specs.Renamed.{NamesAre, no_names, more_names, NameIs, no_name, some_name, RunsAtOnce, normal_runs, arrow_runs, ExprIs, num_expr, text_expr, truth_expr, null_expr, undefined_expr, this_expr, named_expr, unary_expr, binary_expr, logic_expr, choice_expr, set_name_expr, set_member_expr, change_expr, bump_expr, member_expr, call_expr, object_expr, function_expr, log_expr, error_expr, variable_expr, KeyIs, dot_key, bracket_key, index_key, ExprsAre, no_exprs, more_exprs, MaybeIs, nothing_is, something_is, PropertiesAre, no_properties_are, fixed_property, computed_property, CodeIs, code_is, LetsAre, no_lets_are, more_lets, ConstsAre, no_consts_are, more_consts, InitIs, init_nothing_is, init_let_is, init_const_is, init_value_is, StmtIs, let_stmt, const_stmt, fun_stmt, block_stmt, if_stmt, while_stmt, do_while_stmt, for_stmt, break_stmt, continue_stmt, return_stmt, throw_stmt, try_stmt, value_stmt, empty_stmt, BranchIs, no_branch, some_branch, CatchIs, no_catch_is, some_catch, LastIs, no_last_is, some_last, StmtsAre, no_stmts, more_stmts}
use Rattle.actx_table.specs.Scopes.{or_else}
use Rattle.actx_table.specs.Taken.{most_arguments, unless, takes_form, untaken, untaken_list, untaken_maybe, untaken_key, untaken_properties, untaken_code, untaken_lets, untaken_consts, untaken_init, untaken_stmt, untaken_branch, untaken_catch, untaken_last, untaken_stmts, IsTaken}

-- where none of two is found, neither is
left_none : (a b : Option ℕ) → or_else a b ≡ None → a ≡ None
left_none None b h = refl
left_none (Some n) b h = absurd (cc)

right_none : (a b : Option ℕ) → or_else a b ≡ None → b ≡ None
right_none None b h = h
right_none (Some n) b h = absurd (cc)

nothing : {A : Type 0} (n : ℕ) → Some n ≡ None → A
nothing n h = absurd (cc)

holds : (b : Bool) (n : ℕ) → unless b n ≡ None → b ≡ true
holds true n h = refl
holds false n h = absurd (cc)

-- what of two parts is done where neither has a node that doesn't run
both : {A : Type 0} (a b : Option ℕ) → or_else a b ≡ None → (a ≡ None → b ≡ None → A) → A
both a b h go = go (left_none a b h) (right_none a b h)

kind_runs : (kind : FunctionKind) → runs_at_once kind ≡ true → RunsAtOnce kind
kind_runs normal_kind h = normal_runs
kind_runs arrow_kind h = arrow_runs
kind_runs _ h = absurd (cc)

names_image : (xs : List (List ℕ)) → NamesAre xs (names_renamed xs)
names_image [] = no_names
names_image (x ∷ xs) = more_names x (names_image xs)

name_image : (x : Option (List ℕ)) → NameIs x (own_renamed x)
name_image None = no_name
name_image (Some x) = some_name x

dot_image : (x : List ℕ) (bracketed : Bool) → KeyIs (t.Dot x) (if bracketed then t.Index (t.Text x) else t.Dot x)
dot_image x true = bracket_key x
dot_image x false = dot_key x

-- a form that runs, with its parts
form_image : (n : ℕ) (form : Form) (es : Exprs) → takes_form form (count es) ≡ true → ExprsAre es (all_renamed es) → ExprIs (t.Built form es) (renamed (t.Built form es))
form_image n Log es h m = log_expr m
form_image n NewVariable es h m = variable_expr h m
form_image n (NewError name) es h m = error_expr name m
form_image n _ es h m = absurd (cc)

mutual
  expr_image : (n : ℕ) (e : Expr) → untaken n e ≡ None → ExprIs e (renamed e)
  expr_image n (t.Num m) h = num_expr m
  expr_image n (t.Text u) h = text_expr u
  expr_image n (t.Truth b) h = truth_expr b
  expr_image n t.Null h = null_expr
  expr_image n t.Undefined h = undefined_expr
  expr_image n t.This h = this_expr
  expr_image n (t.Named x) h = named_expr x
  expr_image n (t.Unary op e) h = unary_expr op (expr_image (suc n) e h)
  expr_image n (t.Binary op a b) h = both (untaken (suc n) a) (untaken (suc n + expr_nodes a) b) h (λ k l. binary_expr op (expr_image (suc n) a k) (expr_image (suc n + expr_nodes a) b l))
  expr_image n (t.Logic op a b) h = both (untaken (suc n) a) (untaken (suc n + expr_nodes a) b) h (λ k l. logic_expr op (expr_image (suc n) a k) (expr_image (suc n + expr_nodes a) b l))
  expr_image n (t.Choice e a b) h =
      both (untaken (suc n) e) (or_else (untaken (suc n + expr_nodes e) a) (untaken (suc n + expr_nodes e + expr_nodes a) b)) h
      (λ k l. both (untaken (suc n + expr_nodes e) a) (untaken (suc n + expr_nodes e + expr_nodes a) b) l
      (λ i j. choice_expr (expr_image (suc n) e k) (expr_image (suc n + expr_nodes e) a i) (expr_image (suc n + expr_nodes e + expr_nodes a) b j)))
  expr_image n (t.SetName x e) h = set_name_expr x (expr_image (suc n) e h)
  expr_image n (t.SetMember b key e) h =
      both (untaken (suc n) b) (or_else (untaken_key (suc n + expr_nodes b) key) (untaken (suc n + expr_nodes b + key_nodes key) e)) h
      (λ k l. both (untaken_key (suc n + expr_nodes b) key) (untaken (suc n + expr_nodes b + key_nodes key) e) l
      (λ i j. set_member_expr (expr_image (suc n) b k) (key_image (suc n + expr_nodes b) key i) (expr_image (suc n + expr_nodes b + key_nodes key) e j)))
  expr_image n (t.Change x op e) h = change_expr x op (expr_image (suc n) e h)
  expr_image n (t.Bump x up before) h = bump_expr x up before
  expr_image n (t.Member b key) h = both (untaken (suc n) b) (untaken_key (suc n + expr_nodes b) key) h (λ k l. member_expr (expr_image (suc n) b k) (key_image (suc n + expr_nodes b) key l))
  expr_image n (t.Call f es) h =
      both (unless (nat_le (count es) most_arguments) n) (or_else (untaken (suc n) f) (untaken_list (suc n + expr_nodes f) es)) h
      (λ few parts. both (untaken (suc n) f) (untaken_list (suc n + expr_nodes f) es) parts
      (λ k l. call_expr (leb-true (count es) most_arguments (holds (nat_le (count es) most_arguments) n few)) (expr_image (suc n) f k) (exprs_image (suc n + expr_nodes f) es l)))
  expr_image n (t.Object ps) h = object_expr (properties_image (suc n) ps h)
  expr_image n (t.Function f) h = function_expr (code_image n f h)
  expr_image n (t.Yield o) h = nothing n h
  expr_image n (t.YieldAll e) h = nothing n h
  expr_image n (t.Await e) h = nothing n h
  expr_image n (t.Built form es) h = both (unless (takes_form form (count es)) n) (untaken_list (suc n) es) h (λ k l. form_image n form es (holds (takes_form form (count es)) n k) (exprs_image (suc n) es l))

  exprs_image : (n : ℕ) (es : Exprs) → untaken_list n es ≡ None → ExprsAre es (all_renamed es)
  exprs_image n t.none h = no_exprs
  exprs_image n (t.also e es) h = both (untaken n e) (untaken_list (n + expr_nodes e) es) h (λ k l. more_exprs (expr_image n e k) (exprs_image (n + expr_nodes e) es l))

  maybe_image : (n : ℕ) (e : MaybeExpr) → untaken_maybe n e ≡ None → MaybeIs e (maybe_renamed e)
  maybe_image n t.no_expr h = nothing_is
  maybe_image n (t.some_expr e) h = something_is (expr_image n e h)

  key_image : (n : ℕ) (key : Key) → untaken_key n key ≡ None → KeyIs key (key_renamed key)
  key_image n (t.Dot x) h = dot_image x (same_text x (codes "call"))
  key_image n (t.Index e) h = index_key (expr_image n e h)

  properties_image : (n : ℕ) (ps : Properties) → untaken_properties n ps ≡ None → PropertiesAre ps (properties_renamed ps)
  properties_image n t.no_properties h = no_properties_are
  properties_image n (t.property (t.Fixed u) e ps) h = both (untaken (n + 1) e) (untaken_properties (n + 1 + expr_nodes e) ps) h (λ k l. fixed_property u (expr_image (n + 1) e k) (properties_image (n + 1 + expr_nodes e) ps l))
  properties_image n (t.property (t.Computed c) e ps) h =
      both (untaken n c) (or_else (untaken (n + expr_nodes c) e) (untaken_properties (n + expr_nodes c + expr_nodes e) ps)) h
      (λ k l. both (untaken (n + expr_nodes c) e) (untaken_properties (n + expr_nodes c + expr_nodes e) ps) l
      (λ i j. computed_property (expr_image n c k) (expr_image (n + expr_nodes c) e i) (properties_image (n + expr_nodes c + expr_nodes e) ps j)))

  code_image : (n : ℕ) (f : Code) → untaken_code n f ≡ None → CodeIs f (code_renamed f)
  code_image n (t.code x kind xs ss) h =
      both (unless (runs_at_once kind) n) (untaken_stmts (suc n + name_nodes x + length xs) ss) h
      (λ k l. code_is (kind_runs kind (holds (runs_at_once kind) n k)) (name_image x) (names_image xs) (stmts_image (suc n + name_nodes x + length xs) ss l))

  lets_image : (n : ℕ) (is : LetItems) → untaken_lets n is ≡ None → LetsAre is (lets_renamed is)
  lets_image n t.no_lets h = no_lets_are
  lets_image n (t.let_item x e is) h = both (untaken_maybe (suc n) e) (untaken_lets (suc n + maybe_nodes e) is) h (λ k l. more_lets x (maybe_image (suc n) e k) (lets_image (suc n + maybe_nodes e) is l))

  consts_image : (n : ℕ) (is : ConstItems) → untaken_consts n is ≡ None → ConstsAre is (consts_renamed is)
  consts_image n t.no_consts h = no_consts_are
  consts_image n (t.const_item x e is) h = both (untaken (suc n) e) (untaken_consts (suc n + expr_nodes e) is) h (λ k l. more_consts x (expr_image (suc n) e k) (consts_image (suc n + expr_nodes e) is l))

  init_image : (n : ℕ) (i : Init) → untaken_init n i ≡ None → InitIs i (init_renamed i)
  init_image n t.init_nothing h = init_nothing_is
  init_image n (t.init_let is) h = init_let_is (lets_image n is h)
  init_image n (t.init_const is) h = init_const_is (consts_image n is h)
  init_image n (t.init_value e) h = init_value_is (expr_image n e h)

  stmt_image : (n : ℕ) (st : Stmt) → untaken_stmt n st ≡ None → StmtIs st (stmt_renamed st)
  stmt_image n (t.Let is) h = let_stmt (lets_image (suc n) is h)
  stmt_image n (t.Const is) h = const_stmt (consts_image (suc n) is h)
  stmt_image n (t.Fun f) h = fun_stmt (code_image n f h)
  stmt_image n (t.Block ss) h = block_stmt (stmts_image (suc n) ss h)
  stmt_image n (t.If e st other) h =
      both (untaken (suc n) e) (or_else (untaken_stmt (suc n + expr_nodes e) st) (untaken_branch (suc n + expr_nodes e + stmt_nodes st) other)) h
      (λ k l. both (untaken_stmt (suc n + expr_nodes e) st) (untaken_branch (suc n + expr_nodes e + stmt_nodes st) other) l
      (λ i j. if_stmt (expr_image (suc n) e k) (stmt_image (suc n + expr_nodes e) st i) (branch_image (suc n + expr_nodes e + stmt_nodes st) other j)))
  stmt_image n (t.While e st) h = both (untaken (suc n) e) (untaken_stmt (suc n + expr_nodes e) st) h (λ k l. while_stmt (expr_image (suc n) e k) (stmt_image (suc n + expr_nodes e) st l))
  stmt_image n (t.DoWhile st e) h = both (untaken_stmt (suc n) st) (untaken (suc n + stmt_nodes st) e) h (λ k l. do_while_stmt (stmt_image (suc n) st k) (expr_image (suc n + stmt_nodes st) e l))
  stmt_image n (t.For i test update st) h =
      let a = suc n + init_nodes i in
      let b = a + maybe_nodes test in
      let c = b + maybe_nodes update in
      both (untaken_init (suc n) i) (or_else (untaken_maybe a test) (or_else (untaken_maybe b update) (untaken_stmt c st))) h
      (λ k l. both (untaken_maybe a test) (or_else (untaken_maybe b update) (untaken_stmt c st)) l
      (λ o p. both (untaken_maybe b update) (untaken_stmt c st) p
      (λ q r. for_stmt (init_image (suc n) i k) (maybe_image a test o) (maybe_image b update q) (stmt_image c st r))))
  stmt_image n (t.ForOf constant x e st) h = nothing n h
  stmt_image n (t.ForAwait constant x e st) h = nothing n h
  stmt_image n t.Break h = break_stmt
  stmt_image n t.Continue h = continue_stmt
  stmt_image n (t.Return o) h = return_stmt (maybe_image (suc n) o h)
  stmt_image n (t.Throw e) h = throw_stmt (expr_image (suc n) e h)
  stmt_image n (t.Try ss catcher ending) h =
      let a = suc n + stmts_nodes ss in
      let b = a + catch_nodes catcher in
      both (untaken_stmts (suc n) ss) (or_else (untaken_catch a catcher) (untaken_last b ending)) h
      (λ k l. both (untaken_catch a catcher) (untaken_last b ending) l
      (λ i j. try_stmt (stmts_image (suc n) ss k) (catch_image a catcher i) (last_image b ending j)))
  stmt_image n (t.Value e) h = value_stmt (expr_image (suc n) e h)
  stmt_image n t.Empty h = empty_stmt
  stmt_image n (t.Switch e cs) h = nothing n h

  branch_image : (n : ℕ) (st : MaybeStmt) → untaken_branch n st ≡ None → BranchIs st (branch_renamed st)
  branch_image n t.no_stmt h = no_branch
  branch_image n (t.some_stmt st) h = some_branch (stmt_image n st h)

  catch_image : (n : ℕ) (c : Catch) → untaken_catch n c ≡ None → CatchIs c (catch_renamed c)
  catch_image n t.no_catch h = no_catch_is
  catch_image n (t.catch x ss) h = some_catch (name_image x) (stmts_image (n + name_nodes x) ss h)

  last_image : (n : ℕ) (l : Last) → untaken_last n l ≡ None → LastIs l (last_renamed l)
  last_image n t.no_last h = no_last_is
  last_image n (t.last ss) h = some_last (stmts_image n ss h)

  stmts_image : (n : ℕ) (ss : Stmts) → untaken_stmts n ss ≡ None → StmtsAre ss (program_renamed ss)
  stmts_image n t.end h = no_stmts
  stmts_image n (t.next st ss) h = both (untaken_stmt n st) (untaken_stmts (n + stmt_nodes st) ss) h (λ k l. more_stmts (stmt_image n st k) (stmts_image (n + stmt_nodes st) ss l))

pub program_image : (p : Stmts) → IsTaken p → StmtsAre p (program_renamed p)
program_image p h = stmts_image 0 p h
