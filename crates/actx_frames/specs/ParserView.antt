-- What the code's parser holds stands for.
use Rattle.std.specs.declared.alloc.Global.{Global}
use Rattle.std.specs.Prelude.{Box, ℕ, zero, suc, List, [], ◌∷◌, map, Bool, false, Option, Some, None, option_map}
use Rattle.actx_grammar.specs.Lexemes.{Lexeme}
use Rattle.actx_grammar.specs.ParserOperands.{same_token}
use Rattle.actx_grammar.specs.ParserState as m
use Rattle.actx_grammar.specs.Tree as t
use Rattle.actx_ast.specs.View.{expr_view, exprs_view, init_view, key_view, prop_key_view, stmt_view, catcher_view, stmts_view, lets_view, consts_view, properties_view, clauses_view, maybe_expr, catch_of}
use Rattle.actx_grammar.specs.declared.token.TokenKind.{TokenKind}
use Rattle.actx_ast.specs.declared.tree.Catcher.{Catcher}
use Rattle.actx_ast.specs.declared.tree.Expr.{Expr}
use Rattle.actx_lex.specs.declared.token.Token.{Token}
use Rattle.actx_frames.specs.declared.limits.Limits.{Limits}
use Rattle.actx_frames.specs.declared.limits.Rules.{Rules}
use Rattle.actx_frames.specs.declared.settle.Bound.{Bound}
use Rattle.actx_frames.specs.declared.settle.Bound.TheVariants as b
use Rattle.actx_frames.specs.declared.state.Operand.{Operand}
use Rattle.actx_frames.specs.declared.state.Role.{Role}
use Rattle.actx_frames.specs.declared.state.Role.TheVariants as r
use Rattle.actx_frames.specs.declared.state.Head.{Head}
use Rattle.actx_frames.specs.declared.state.Head.TheVariants as h
use Rattle.actx_frames.specs.declared.state.ItemsOf.{ItemsOf}
use Rattle.actx_frames.specs.declared.state.ItemsOf.TheVariants as i
use Rattle.actx_frames.specs.declared.state.ListOwner.{ListOwner}
use Rattle.actx_frames.specs.declared.state.ListOwner.TheVariants as o
use Rattle.actx_frames.specs.declared.state.Frame.{Frame}
use Rattle.actx_frames.specs.declared.state.Frame.TheVariants as f
use Rattle.actx_frames.specs.declared.state.Mode.{Mode}
use Rattle.actx_frames.specs.declared.state.Mode.TheVariants as d
use Rattle.actx_frames.specs.declared.state.Step.{Step}
use Rattle.actx_frames.specs.declared.state.Step.TheVariants as s

-- the limits that a run keeps
abbrev pub limits_view : Limits → m.Limits
limits_view l = record { depth = l.depth; most = l.most }

abbrev pub bounds : Rules → m.Limits
bounds rules = limits_view rules.limits

-- PARTS THAT MAY BE LEFT OUT
abbrev pub maybe_expr_view : Option (Box Expr Global) → t.MaybeExpr
maybe_expr_view e = maybe_expr (option_map (λ b. expr_view b.value) e)

abbrev pub catch_view : Option Catcher → t.Catch
catch_view c = catch_of (option_map catcher_view c)

-- WHAT IS OPEN
abbrev pub role_view : Role → m.Role
role_view r.Expression = m.expression
role_view r.Declaration = m.declaration
role_view (r.Method ps key n) = m.method (properties_view ps.items) (prop_key_view key) n

abbrev pub head_view : Head → m.Head
head_view (h.Arrow kind) = m.arrow_head kind
head_view (h.Function role kind name) = m.function_head (role_view role) kind name

abbrev pub items_of_view : ItemsOf → m.ItemsOf
items_of_view i.Statement = m.of_statement
items_of_view i.For = m.of_for

abbrev pub owner_view : ListOwner → m.ListOwner
owner_view o.Program = m.program
owner_view (o.Body head xs) = m.body (head_view head) xs.items
owner_view o.Block = m.block
owner_view o.Tried = m.tried
owner_view (o.Caught ss x) = m.caught (stmts_view ss.items) x
owner_view (o.Finally ss c) = m.finally (stmts_view ss.items) (catch_view c)
owner_view (o.Clause e cs n) = m.clause_of (expr_view e.value) (clauses_view cs.items) n

abbrev pub frame_view : Frame → m.Frame
frame_view (f.Unary op) = m.in_unary op
frame_view f.Await = m.in_await
frame_view (f.Binary op a) = m.in_binary op (expr_view a.expr.value) a.reach
frame_view (f.Logic op a) = m.in_logic op (expr_view a.expr.value) a.reach
frame_view (f.Choice a) = m.in_choice (expr_view a.expr.value) a.reach
frame_view (f.Other e a) = m.in_other (expr_view e.value) (expr_view a.expr.value) a.reach
frame_view f.Paren = m.in_paren
frame_view (f.Call e es n) = m.in_call (expr_view e.value) (exprs_view es.items) n
frame_view (f.Form form es n) = m.in_form form (exprs_view es.items) n
frame_view (f.SetName x) = m.in_set_name x
frame_view (f.Set e key n) = m.in_set (expr_view e.value) (key_view key) n
frame_view (f.Change x op) = m.in_change x op
frame_view (f.Index a) = m.in_index (expr_view a.expr.value) a.reach
frame_view (f.Computed ps kind n) = m.in_computed (properties_view ps.items) kind n
frame_view (f.Property ps key n) = m.in_property (properties_view ps.items) (prop_key_view key) n
frame_view (f.Arrow kind xs) = m.in_arrow kind xs.items
frame_view f.Yield = m.in_yield
frame_view f.YieldAll = m.in_yield_all
frame_view f.Value = m.in_value
frame_view (f.Let of is x n) = m.in_let (items_of_view of) (lets_view is.items) x n
frame_view (f.Const of is x n) = m.in_const (items_of_view of) (consts_view is.items) x n
frame_view f.Return = m.in_return
frame_view f.Throw = m.in_throw
frame_view f.If = m.in_if
frame_view f.While = m.in_while
frame_view (f.DoTest st n) = m.in_do_test (stmt_view st.value) n
frame_view f.ForInit = m.in_for_init
frame_view (f.ForTest i n) = m.in_for_test (init_view i) n
frame_view (f.ForUpdate i e n) = m.in_for_update (init_view i) (maybe_expr_view e) n
frame_view (f.ForOver constant x) = m.in_for_over constant x
frame_view f.Switch = m.in_switch
frame_view (f.YesOf a) = m.yes_of (expr_view a.expr.value) a.reach
frame_view (f.NoOf e st n) = m.no_of (expr_view e.value) (stmt_view st.value) n
frame_view (f.WhileOf a) = m.while_of (expr_view a.expr.value) a.reach
frame_view f.DoOf = m.do_of
frame_view (f.ForBody i e u n) = m.for_body (init_view i) (maybe_expr_view e) (maybe_expr_view u) n
frame_view (f.ForOfBody constant x a) = m.for_of_body constant x (expr_view a.expr.value) a.reach
frame_view (f.List owner ss n) = m.in_list (owner_view owner) (stmts_view ss.items) n

-- frames whose last is the innermost, on others whose first is
abbrev pub onto : List Frame → List Frame → List Frame
onto [] s = s
onto (x ∷ xs) s = onto xs (x ∷ s)

abbrev pub stack_view : List Frame → List m.Frame
stack_view = map frame_view

-- WHAT IS WANTED
abbrev pub mode_view : Mode → m.Mode
mode_view d.Start = m.start
mode_view d.BodyStart = m.body_start
mode_view (d.HaveStmt st n) = m.have_stmt (stmt_view st.value) n
mode_view d.Need = m.need
mode_view (d.Have a) = m.have (expr_view a.expr.value) a.reach
mode_view (d.HaveMember e key n) = m.have_member (expr_view e.value) (key_view key) n
mode_view (d.HaveName x) = m.have_name x
mode_view (d.HaveBump e) = m.have_bump (expr_view e.value)
mode_view (d.Whole a) = m.whole (expr_view a.expr.value) a.reach
mode_view d.Opened = m.opened
mode_view (d.FirstName x) = m.first_name x
mode_view (d.ClosedName x) = m.closed_name x
mode_view (d.BumpName up) = m.bump_name up
mode_view d.YieldNext = m.yield_next
mode_view d.AsyncNext = m.async_next
mode_view d.AsyncStart = m.async_start
mode_view (d.FunctionNext role) = m.function_next (role_view role)
mode_view (d.NameNext role kind) = m.name_next (role_view role) kind
mode_view (d.ParamsOpen head) = m.params_open (head_view head)
mode_view (d.ParamNext head xs) = m.param_next (head_view head) xs.items
mode_view (d.ParamBehind head xs) = m.param_behind (head_view head) xs.items
mode_view (d.ArrowSign kind xs) = m.arrow_sign kind xs.items
mode_view (d.ArrowBody kind xs) = m.arrow_body kind xs.items
mode_view (d.BodyOpen head xs) = m.body_open (head_view head) xs.items
mode_view (d.KeyNext ps n) = m.key_next (properties_view ps.items) n
mode_view (d.KeyBehind ps key n) = m.key_behind (properties_view ps.items) (prop_key_view key) n
mode_view (d.KeyName ps x n) = m.key_name (properties_view ps.items) x n
mode_view (d.KeyAsync ps n) = m.key_async (properties_view ps.items) n
mode_view (d.KeyEnd ps n) = m.key_end (properties_view ps.items) n
mode_view (d.MethodKey ps kind n) = m.method_key (properties_view ps.items) kind n
mode_view (d.MethodOpen ps kind key n) = m.method_open (properties_view ps.items) kind (prop_key_view key) n
mode_view (d.MemberName a) = m.member_name (expr_view a.expr.value) a.reach
mode_view (d.CallOpen a) = m.call_open (expr_view a.expr.value) a.reach
mode_view (d.WordsNext ws) = m.words_next ws.items
mode_view (d.LetName of is n) = m.let_name (items_of_view of) (lets_view is.items) n
mode_view (d.LetBehind of is x n) = m.let_behind (items_of_view of) (lets_view is.items) x n
mode_view (d.ConstName of is n) = m.const_name (items_of_view of) (consts_view is.items) n
mode_view (d.ConstBehind of is x n) = m.const_behind (items_of_view of) (consts_view is.items) x n
mode_view (d.JumpEnd st) = m.jump_end (stmt_view st.value)
mode_view d.ReturnNext = m.return_next
mode_view d.ThrowNext = m.throw_next
mode_view d.IfOpen = m.if_open
mode_view d.WhileOpen = m.while_open
mode_view (d.DoWhile st n) = m.do_while (stmt_view st.value) n
mode_view (d.DoEnd st e n) = m.do_end (stmt_view st.value) (expr_view e.value) n
mode_view d.ForOpen = m.for_open
mode_view d.ForNext = m.for_next
mode_view (d.ForTest i n) = m.for_test (init_view i) n
mode_view (d.ForUpdate i e n) = m.for_update (init_view i) (maybe_expr_view e) n
mode_view d.TryOpen = m.try_open
mode_view (d.CatchNext ss n) = m.catch_next (stmts_view ss.items) n
mode_view (d.CatchOpen ss n) = m.catch_open (stmts_view ss.items) n
mode_view (d.CatchName ss n) = m.catch_name (stmts_view ss.items) n
mode_view (d.CatchClose ss x n) = m.catch_close (stmts_view ss.items) x n
mode_view (d.CatchBlock ss x n) = m.catch_block (stmts_view ss.items) x n
mode_view (d.FinallyNext ss c n) = m.finally_next (stmts_view ss.items) (catch_view c) n
mode_view (d.FinallyOpen ss c n) = m.finally_open (stmts_view ss.items) (catch_view c) n
mode_view d.SwitchOpen = m.switch_open
mode_view (d.SwitchBrace a) = m.switch_brace (expr_view a.expr.value) a.reach
mode_view (d.ClauseNext e cs n) = m.clause_next (expr_view e.value) (clauses_view cs.items) n
mode_view (d.CaseNumber e cs n) = m.case_number (expr_view e.value) (clauses_view cs.items) n
mode_view (d.CaseColon e cs number n) = m.case_colon (expr_view e.value) (clauses_view cs.items) number n

-- WHAT A TOKEN LEADS TO
abbrev pub move_of : Step → List m.Frame → m.Move
move_of (s.Go mode) u = m.go (mode_view mode) u
move_of s.Refused u = m.refuse

abbrev pub settled_of : Operand → List Frame → m.Settled
settled_of a s = m.settled (expr_view a.expr.value) a.reach (stack_view s)

-- what one frame makes of an operand that ends
abbrev pub bound_of : ℕ → Bound → List m.Frame → m.Settled
bound_of l (b.Held a) s = m.settle l (expr_view a.expr.value) a.reach s
bound_of l (b.Back frame a) s = m.settled (expr_view a.expr.value) a.reach (frame_view frame ∷ s)

-- THE END
-- the statements of the program, where its list is a frame, and where it alone is open
abbrev pub listed : m.Frame → Option t.Stmts
listed (m.in_list m.program ss r) = Some ss
listed _ = None

abbrev pub alone : List m.Frame → Option t.Stmts
alone (f ∷ []) = listed f
alone _ = None

-- FORMS
-- whether a token is the word of a number of some words
abbrev pub is_word_at : List TokenKind → ℕ → TokenKind → Bool
is_word_at [] n t = false
is_word_at (w ∷ ws) zero t = same_token w t
is_word_at (w ∷ ws) (suc n) t = is_word_at ws n t
