-- What is left to spell: pieces, the last of them first.
use Rattle.std.specs.Prelude.{ℕ, suc, ◌+◌, List, [], ◌∷◌, ◌++◌, Bool, true, false, nat_lt, codes}
use Rattle.actx_grammar.specs.declared.operators.Form.TheVariants.{CallWith}
use Rattle.actx_ast.specs.declared.spell.Work.{Work}
use Rattle.actx_ast.specs.declared.spell.Work.TheVariants as w
use Rattle.actx_grammar.specs.declared.token.Keyword.TheVariants as k
use Rattle.actx_grammar.specs.declared.token.Sign.TheVariants as s
use Rattle.actx_grammar.specs.declared.token.TokenKind.{TokenKind}
use Rattle.actx_grammar.specs.declared.token.TokenKind.TheVariants as t
use Rattle.actx_grammar.specs.Forms.{unary_word, level_of, sign_of, bump_sign, form_words}
use Rattle.actx_ast.specs.Sizes.{expr_size, exprs_size, properties_size, lets_size, consts_size, stmt_size, stmts_size, clauses_size}
use Rattle.actx_grammar.specs.Spell.{Start, inner, begins, wrapped, round, braced, logic_level, left_level, right_level, logic_sign, change_sign, spell_head, spell, spell_key, spell_list, spell_more, spell_properties, spell_more_properties, spell_more_lets, spell_more_consts, spell_stmt, spell_program, spell_clauses}
use Rattle.actx_ast.specs.Starts.{start_of}
use Rattle.actx_grammar.specs.Tree as e
use Rattle.actx_ast.specs.View.{expr_view, exprs_view, properties_view, lets_view, consts_view, stmt_view, stmts_view, clauses_view}

-- whether an expression stands in parentheses at a place and a level
abbrev pub needs_parens : Start → e.Expr → ℕ → Bool
needs_parens st (e.Unary op a) l = nat_lt 9 l
needs_parens st (e.Binary op a b) l = nat_lt (level_of op) l
needs_parens st (e.Logic op a b) l = nat_lt (logic_level op) l
needs_parens st (e.Choice test a b) l = nat_lt 2 l
needs_parens st (e.SetName x a) l = nat_lt 1 l
needs_parens st (e.SetMember base key a) l = nat_lt 1 l
needs_parens st (e.Change x op a) l = nat_lt 1 l
needs_parens st (e.Bump x up before) l = nat_lt 10 l
needs_parens st (e.Member base key) l = nat_lt 11 l
needs_parens st (e.Call f es) l = nat_lt 11 l
needs_parens st (e.Object ps) l = begins st
needs_parens st (e.Function (e.code x kind xs ss)) l = wrapped kind st l
needs_parens st (e.Yield o) l = nat_lt 1 l
needs_parens st (e.YieldAll a) l = nat_lt 1 l
needs_parens st (e.Await a) l = nat_lt 9 l
needs_parens st (e.Built form es) l = nat_lt 11 l
needs_parens st _ l = false

-- an expression without them
abbrev pub bare : Start → e.Expr → List TokenKind
bare st (e.Num n) = t.Number n ∷ []
bare st (e.Text u) = t.Text u ∷ []
bare st (e.Truth true) = t.Keyword k.True ∷ []
bare st (e.Truth false) = t.Keyword k.False ∷ []
bare st e.Null = t.Keyword k.Null ∷ []
bare st e.Undefined = t.Name (codes "undefined") ∷ []
bare st e.This = t.Keyword k.This ∷ []
bare st (e.Named x) = t.Name x ∷ []
bare st (e.Unary op a) = unary_word op ∷ spell inner a 9
bare st (e.Binary op a b) = spell st a (level_of op) ++ t.Sign (sign_of op) ∷ spell inner b (suc (level_of op))
bare st (e.Logic op a b) = spell st a (left_level op a) ++ t.Sign (logic_sign op) ∷ spell inner b (right_level op)
bare st (e.Choice test a b) = spell st test 3 ++ t.Sign s.Question ∷ (spell inner a 1 ++ t.Sign s.Colon ∷ spell inner b 1)
bare st (e.SetName x a) = t.Name x ∷ t.Sign s.Assign ∷ spell inner a 1
bare st (e.SetMember base key a) = spell st base 11 ++ spell_key key ++ t.Sign s.Assign ∷ spell inner a 1
bare st (e.Change x op a) = t.Name x ∷ t.Sign (change_sign op) ∷ spell inner a 1
bare st (e.Bump x up true) = t.Sign (bump_sign up) ∷ t.Name x ∷ []
bare st (e.Bump x up false) = t.Name x ∷ t.Sign (bump_sign up) ∷ []
bare st (e.Member base key) = spell st base 11 ++ spell_key key
bare st (e.Call f es) = spell st f 11 ++ round (spell_list es)
bare st (e.Object ps) = braced (spell_properties ps)
bare st (e.Function (e.code x kind xs ss)) = spell_head kind x xs ++ braced (spell_program ss)
bare st (e.Yield e.no_expr) = t.Keyword k.Yield ∷ []
bare st (e.Yield (e.some_expr a)) = t.Keyword k.Yield ∷ spell inner a 1
bare st (e.YieldAll a) = t.Keyword k.Yield ∷ t.Sign s.Star ∷ spell inner a 1
bare st (e.Await a) = t.Keyword k.Await ∷ spell inner a 9
bare st (e.Built CallWith (e.also f es)) = spell st f 11 ++ t.Sign s.Dot ∷ t.Name (codes "call") ∷ round (spell_list es)
bare st (e.Built form es) = form_words form ++ round (spell_list es)

-- the tokens of a piece
abbrev pub text : Work → List TokenKind
text (w.Mark m) = m ∷ []
text (w.Words form) = form_words form
text (w.Head f) = spell_head f.now.kind f.now.name f.now.params.items
text (w.Tree a first l) = spell (start_of first) (expr_view a.now) l
text (w.Exprs es) = spell_more (exprs_view es.now)
text (w.Properties ps) = spell_more_properties (properties_view ps.now)
text (w.Lets is) = spell_more_lets (lets_view is.now)
text (w.Consts is) = spell_more_consts (consts_view is.now)
text (w.Statement st) = spell_stmt (stmt_view st.now)
text (w.Statements ss) = spell_program (stmts_view ss.now)
text (w.Clauses cs) = spell_clauses (clauses_view cs.now)

abbrev pub rest_onto : List Work → List TokenKind → List TokenKind
rest_onto [] r = r
rest_onto (p ∷ ps) r = rest_onto ps (text p ++ r)

abbrev pub rest_of : List Work → List TokenKind
rest_of ps = rest_onto ps []

-- how much a piece is
abbrev pub weight : Work → ℕ
weight (w.Mark m) = 1
weight (w.Words form) = 1
weight (w.Head f) = 1
weight (w.Tree a first l) = 3 + expr_size (expr_view a.now)
weight (w.Exprs es) = 1 + exprs_size (exprs_view es.now)
weight (w.Properties ps) = 1 + properties_size (properties_view ps.now)
weight (w.Lets is) = 1 + lets_size (lets_view is.now)
weight (w.Consts is) = 1 + consts_size (consts_view is.now)
weight (w.Statement st) = stmt_size (stmt_view st.now)
weight (w.Statements ss) = 1 + stmts_size (stmts_view ss.now)
weight (w.Clauses cs) = 1 + clauses_size (clauses_view cs.now)

abbrev pub weigh : List Work → ℕ
weigh [] = 0
weigh (p ∷ ps) = weight p + weigh ps
