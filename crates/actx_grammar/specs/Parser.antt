-- The parser's moves in statements, its step and its whole run.
use Rattle.std.specs.Prelude.{ℕ, suc, max, List, [], ◌∷◌, Bool, true, false, Option, Some, None, codes, if◌then◌else◌}
use Rattle.actx_grammar.specs.declared.side.Side.{Side}
use Rattle.actx_grammar.specs.declared.side.Side.TheVariants.{Source, Plain}
use Rattle.actx_grammar.specs.declared.token.Keyword.{Keyword}
use Rattle.actx_grammar.specs.declared.token.Keyword.TheVariants as k
use Rattle.actx_grammar.specs.declared.token.Sign.TheVariants as g
use Rattle.actx_grammar.specs.declared.token.TokenKind.{TokenKind}
use Rattle.actx_grammar.specs.declared.token.TokenKind.TheVariants as t
use Rattle.actx_grammar.specs.Grammar.{deepest, most, with_let}
use Rattle.actx_grammar.specs.Lexemes.{Lexeme}
use Rattle.actx_grammar.specs.ParserFunctions.{at_name, at_opened, at_first, at_closed, at_param, behind_param, at_arrow_sign, at_arrow_body, at_body_open, at_params_open, at_function_name, at_function, at_async, at_async_start, at_yield, at_key, behind_key, behind_key_name, at_method_key, behind_async, at_method, behind_property, member_word, at_call, at_words, open_list}
use Rattle.actx_grammar.specs.Names.{word_of}
use Rattle.actx_grammar.specs.ParserOperands.{same_word, is_binding, fits_below, at_need, at_bump_name, ended, end_lets, at_whole, at_operator, at_have, at_member}
use Rattle.actx_grammar.specs.ParserState.{Limits, fits, declaration, Head, arrow_head, function_head, expression, method, ItemsOf, of_statement, of_for, ListOwner, program, body, block, tried, caught, finally, clause_of, Frame, in_value, in_let, in_const, in_return, in_throw, in_if, in_while, in_do_test, in_for_init, in_for_test, in_for_update, in_for_over, in_switch, yes_of, no_of, while_of, do_of, for_body, for_of_body, in_list, Mode, start, body_start, have_stmt, need, have, have_member, have_name, have_bump, whole, opened, first_name, closed_name, bump_name, yield_next, async_next, async_start, function_next, name_next, params_open, param_next, param_behind, arrow_sign, arrow_body, body_open, key_next, key_behind, key_name, key_async, key_end, method_key, method_open, member_name, call_open, words_next, let_name, let_behind, const_name, const_behind, jump_end, return_next, throw_next, if_open, while_open, do_while, do_end, for_open, for_next, for_test, for_update, try_open, catch_next, catch_open, catch_name, catch_close, catch_block, finally_next, finally_open, switch_open, switch_brace, clause_next, case_number, case_colon, Move, refuse, go, go_if, here}
use Rattle.actx_grammar.specs.Tree.{Expr, Function, code, LetItems, no_lets, ConstItems, no_consts, MaybeExpr, no_expr, Init, init_nothing, Stmt, Fun, Block, If, While, DoWhile, For, ForOf, Break, Continue, Return, Try, Empty, Switch, no_stmt, some_stmt, Catch, no_catch, catch, no_last, last, Clauses, no_clauses, clause, Stmts, end, next}
use Rattle.actx_grammar.specs.Grammar.{with_property}

-- LISTS THAT GROW AT THEIR END
abbrev pub with_stmt : Stmts → Stmt → Stmts
with_stmt end st = next st end
with_stmt (next dt ss) st = next dt (with_stmt ss st)

abbrev pub with_clause : Clauses → Option ℕ → Stmts → Clauses
with_clause no_clauses n ss = clause n ss no_clauses
with_clause (clause m rs cs) n ss = clause m rs (with_clause cs n ss)

-- LISTS OF STATEMENTS THAT END
abbrev pub end_body : Head → List (List ℕ) → Stmts → ℕ → List Frame → Move
end_body (arrow_head kind) xs ss r s = go (whole (Function (code None kind xs ss)) r) s
end_body (function_head expression kind x) xs ss r s = go (have (Function (code x kind xs ss)) r) s
end_body (function_head declaration kind x) xs ss r s = ended (Fun (code x kind xs ss)) r s
end_body (function_head (method ps key q) kind x) xs ss r s = go (key_end (with_property ps key (Function (code None kind xs ss))) r) s

abbrev pub end_list : ListOwner → Stmts → ℕ → List Frame → Move
end_list program ss r s = refuse
end_list (body h xs) ss r s = end_body h xs ss r s
end_list block ss r s = ended (Block ss) r s
end_list tried ss r s = go (catch_next ss r) s
end_list (caught bs x) ss r s = go (finally_next bs (catch x ss) r) s
end_list (finally bs c) ss r s = ended (Try bs c (last ss)) r s
end_list (clause_of e cs n) ss r s = ended (Switch e (with_clause cs n ss)) r s

abbrev pub close_list : List Frame → Move
close_list (in_list owner ss r ∷ s) = end_list owner ss r s
close_list _ = refuse

-- another clause begins behind a numbered one
abbrev pub next_clause : Bool → List Frame → Move
next_clause true (in_list (clause_of e cs (Some n)) ss r ∷ s) = go (case_number e (with_clause cs (Some n) ss) r) s
next_clause false (in_list (clause_of e cs (Some n)) ss r ∷ s) = go (case_colon e (with_clause cs (Some n) ss) None r) s
next_clause numbered _ = refuse

-- A STATEMENT BEGINS
-- one whose parts stand one level below it, and one that has none or may have none
abbrev pub with_parts : Limits → Mode → List Frame → Move
with_parts lim m s = go_if (fits_below lim s) m s

abbrev pub without_parts : Limits → Mode → List Frame → Move
without_parts lim m s = go_if (fits lim (here s)) m s

abbrev pub statement_keyword : Limits → Side → List Frame → Keyword → Move
statement_keyword lim side s k.If = with_parts lim if_open s
statement_keyword lim side s k.While = with_parts lim while_open s
statement_keyword lim side s k.Do = go_if (fits_below lim s) body_start (do_of ∷ s)
statement_keyword lim side s k.For = with_parts lim for_open s
statement_keyword lim side s k.Break = without_parts lim (jump_end Break) s
statement_keyword lim side s k.Continue = without_parts lim (jump_end Continue) s
statement_keyword lim side s k.Return = without_parts lim return_next s
statement_keyword lim side s k.Throw = with_parts lim throw_next s
statement_keyword lim side s k.Try = without_parts lim try_open s
statement_keyword lim Plain s k.Switch = with_parts lim switch_open s
statement_keyword lim side s k.Function = refuse
statement_keyword lim side s key = at_need lim side (in_value ∷ s) (t.Keyword key)

-- a declaration begins, or another statement, or the list goes on as a clause
abbrev pub list_keyword : Limits → Side → List Frame → Keyword → Move
list_keyword lim side s k.Let = without_parts lim (let_name of_statement no_lets (here s)) s
list_keyword lim side s k.Const = with_parts lim (const_name of_statement no_consts (here s)) s
list_keyword lim side s k.Function = without_parts lim (function_next declaration) s
list_keyword lim Source s k.Async = without_parts lim async_start s
list_keyword lim side s k.Case = next_clause true s
list_keyword lim side s k.Default = next_clause false s
list_keyword lim side s key = statement_keyword lim side s key

abbrev pub at_statement : Limits → Side → List Frame → TokenKind → Move
at_statement lim side s (t.Sign g.OpenBrace) = if fits lim (here s) then open_list block (here s) s else refuse
at_statement lim side s (t.Sign g.Semicolon) = without_parts lim (have_stmt Empty (here s)) s
at_statement lim side s t = at_need lim side (in_value ∷ s) t

abbrev pub at_start : Limits → Side → List Frame → TokenKind → Move
at_start lim side s (t.Keyword key) = list_keyword lim side s key
at_start lim side s (t.Sign g.CloseBrace) = close_list s
at_start lim side s t = at_statement lim side s t

abbrev pub at_body_start : Limits → Side → List Frame → TokenKind → Move
at_body_start lim side s (t.Keyword key) = statement_keyword lim side s key
at_body_start lim side s t = at_statement lim side s t

-- BEHIND A STATEMENT
pub data Standing : Type 0 where
  standing : (st : Stmt) (reach : ℕ) (s : List Frame) → Standing

-- what a statement ends, where no else follows
abbrev pub settle_stmt : Stmt → ℕ → List Frame → Standing
settle_stmt st r (yes_of e q ∷ s) = settle_stmt (If e st no_stmt) (max q r) s
settle_stmt st r (no_of e branch q ∷ s) = settle_stmt (If e branch (some_stmt st)) (max q r) s
settle_stmt st r (while_of e q ∷ s) = settle_stmt (While e st) (max q r) s
settle_stmt st r (for_body i test update q ∷ s) = settle_stmt (For i test update st) (max q r) s
settle_stmt st r (for_of_body constant x e q ∷ s) = settle_stmt (ForOf constant x e st) (max q r) s
settle_stmt st r s = standing st r s

-- an else belongs to the nearest if
abbrev pub to_else : Stmt → ℕ → List Frame → Move
to_else st r (yes_of e q ∷ s) = go body_start (no_of e st (max q r) ∷ s)
to_else st r (no_of e branch q ∷ s) = to_else (If e branch (some_stmt st)) (max q r) s
to_else st r (while_of e q ∷ s) = to_else (While e st) (max q r) s
to_else st r (for_body i test update q ∷ s) = to_else (For i test update st) (max q r) s
to_else st r (for_of_body constant x e q ∷ s) = to_else (ForOf constant x e st) (max q r) s
to_else st r s = refuse

abbrev pub behind_standing : Limits → Side → Standing → TokenKind → Move
behind_standing lim side (standing st r (in_list owner ss q ∷ s)) t = at_start lim side (in_list owner (with_stmt ss st) (max q r) ∷ s) t
behind_standing lim side (standing st r (do_of ∷ s)) (t.Keyword k.While) = go (do_while st r) s
behind_standing lim side _ _ = refuse

abbrev pub behind_stmt : Limits → Side → Stmt → ℕ → List Frame → TokenKind → Move
behind_stmt lim side st r s (t.Keyword k.Else) = to_else st r s
behind_stmt lim side st r s t = behind_standing lim side (settle_stmt st r s) t

-- THE REST OF STATEMENTS
abbrev pub at_let_name : Side → ItemsOf → LetItems → ℕ → List Frame → TokenKind → Move
at_let_name side of is r s (t.Name x) = go_if (is_binding side x) (let_behind of is x r) s
at_let_name side of is r s _ = refuse

-- `of` behind the first name of a for
abbrev pub at_of : Side → Bool → List ℕ → List ℕ → List Frame → Move
at_of Source constant x y s = go_if (same_word y (codes "of")) need (in_for_over constant x ∷ s)
at_of Plain constant x y s = refuse

abbrev pub let_of : Side → ItemsOf → LetItems → List ℕ → List ℕ → List Frame → Move
let_of side of_for no_lets x y s = at_of side false x y s
let_of side of is x y s = refuse

abbrev pub at_let_behind : Limits → Side → ItemsOf → LetItems → List ℕ → ℕ → List Frame → TokenKind → Move
at_let_behind lim side of is x r s (t.Sign g.Assign) = go_if (fits_below lim s) need (in_let of is x r ∷ s)
at_let_behind lim side of is x r s (t.Sign g.Comma) = go (let_name of (with_let is x no_expr) r) s
at_let_behind lim side of is x r s (t.Sign g.Semicolon) = end_lets of (with_let is x no_expr) r s
at_let_behind lim side of is x r s (t.Name y) = let_of side of is x y s
at_let_behind lim side of is x r s _ = refuse

abbrev pub at_const_name : Side → ItemsOf → ConstItems → ℕ → List Frame → TokenKind → Move
at_const_name side of is r s (t.Name x) = go_if (is_binding side x) (const_behind of is x r) s
at_const_name side of is r s _ = refuse

abbrev pub const_of : Side → ItemsOf → ConstItems → List ℕ → List ℕ → List Frame → Move
const_of side of_for no_consts x y s = at_of side true x y s
const_of side of is x y s = refuse

abbrev pub at_const_behind : Side → ItemsOf → ConstItems → List ℕ → ℕ → List Frame → TokenKind → Move
at_const_behind side of is x r s (t.Sign g.Assign) = go need (in_const of is x r ∷ s)
at_const_behind side of is x r s (t.Name y) = const_of side of is x y s
at_const_behind side of is x r s _ = refuse

abbrev pub at_jump : Stmt → List Frame → TokenKind → Move
at_jump st s (t.Sign g.Semicolon) = ended st (here s) s
at_jump st s _ = refuse

abbrev pub at_return : Limits → Side → List Frame → TokenKind → Bool → Move
at_return lim side s (t.Sign g.Semicolon) b = ended (Return no_expr) (here s) s
at_return lim side s t false = at_need lim side (in_return ∷ s) t
at_return lim side s t true = refuse

abbrev pub at_throw : Limits → Side → List Frame → TokenKind → Bool → Move
at_throw lim side s t false = at_need lim side (in_throw ∷ s) t
at_throw lim side s t true = refuse

-- the parenthesis before an expression
abbrev pub at_open : Frame → List Frame → TokenKind → Move
at_open f s (t.Sign g.OpenParen) = go need (f ∷ s)
at_open f s _ = refuse

-- one token, then another mode
abbrev pub at_paren : Mode → List Frame → TokenKind → Move
at_paren m s (t.Sign g.OpenParen) = go m s
at_paren m s _ = refuse

abbrev pub at_brace : ListOwner → ℕ → List Frame → TokenKind → Move
at_brace owner r s (t.Sign g.OpenBrace) = open_list owner r s
at_brace owner r s _ = refuse

abbrev pub at_do_end : Stmt → Expr → ℕ → List Frame → TokenKind → Move
at_do_end st e r s (t.Sign g.Semicolon) = ended (DoWhile st e) r s
at_do_end st e r s _ = refuse

abbrev pub at_for : Limits → Side → List Frame → TokenKind → Move
at_for lim side s (t.Keyword k.Let) = go (let_name of_for no_lets (here s)) s
at_for lim side s (t.Keyword k.Const) = go (const_name of_for no_consts (here s)) s
at_for lim side s (t.Sign g.Semicolon) = go (for_test init_nothing (here s)) s
at_for lim side s t = at_need lim side (in_for_init ∷ s) t

abbrev pub at_for_test : Limits → Side → Init → ℕ → List Frame → TokenKind → Move
at_for_test lim side i r s (t.Sign g.Semicolon) = go (for_update i no_expr r) s
at_for_test lim side i r s t = at_need lim side (in_for_test i r ∷ s) t

abbrev pub at_for_update : Limits → Side → Init → MaybeExpr → ℕ → List Frame → TokenKind → Move
at_for_update lim side i test r s (t.Sign g.CloseParen) = go body_start (for_body i test no_expr r ∷ s)
at_for_update lim side i test r s t = at_need lim side (in_for_update i test r ∷ s) t

abbrev pub at_catch : Stmts → ℕ → List Frame → TokenKind → Move
at_catch bs r s (t.Keyword k.Catch) = go (catch_open bs r) s
at_catch bs r s (t.Keyword k.Finally) = go (finally_open bs no_catch r) s
at_catch bs r s _ = refuse

abbrev pub at_catch_open : Stmts → ℕ → List Frame → TokenKind → Move
at_catch_open bs r s (t.Sign g.OpenParen) = go (catch_name bs r) s
at_catch_open bs r s t = at_brace (caught bs None) r s t

abbrev pub at_catch_name : Side → Stmts → ℕ → List Frame → TokenKind → Move
at_catch_name side bs r s (t.Name x) = go_if (is_binding side x) (catch_close bs x r) s
at_catch_name side bs r s _ = refuse

abbrev pub at_catch_close : Stmts → List ℕ → ℕ → List Frame → TokenKind → Move
at_catch_close bs x r s (t.Sign g.CloseParen) = go (catch_block bs x r) s
at_catch_close bs x r s _ = refuse

abbrev pub at_finally : Limits → Side → Stmts → Catch → ℕ → List Frame → TokenKind → Move
at_finally lim side bs c r s (t.Keyword k.Finally) = go (finally_open bs c r) s
at_finally lim side bs c r s t = behind_stmt lim side (Try bs c no_last) r s t

abbrev pub at_switch : Expr → ℕ → List Frame → TokenKind → Move
at_switch e r s (t.Sign g.OpenBrace) = go (clause_next e no_clauses r) s
at_switch e r s _ = refuse

abbrev pub at_clause : Expr → Clauses → ℕ → List Frame → TokenKind → Move
at_clause e cs r s (t.Sign g.CloseBrace) = ended (Switch e cs) r s
at_clause e cs r s (t.Keyword k.Case) = go (case_number e cs r) s
at_clause e cs r s (t.Keyword k.Default) = go (case_colon e cs None r) s
at_clause e cs r s _ = refuse

abbrev pub at_case : Expr → Clauses → ℕ → List Frame → TokenKind → Move
at_case e cs r s (t.Number n) = go (case_colon e cs (Some n) r) s
at_case e cs r s _ = refuse

abbrev pub at_case_colon : Expr → Clauses → Option ℕ → ℕ → List Frame → TokenKind → Move
at_case_colon e cs n r s (t.Sign g.Colon) = open_list (clause_of e cs n) r s
at_case_colon e cs n r s _ = refuse

-- ONE TOKEN
abbrev pub move : Limits → Side → Mode → List Frame → TokenKind → Bool → Move
move lim side start s t b = at_start lim side s t
move lim side body_start s t b = at_body_start lim side s t
move lim side (have_stmt st r) s t b = behind_stmt lim side st r s t
move lim side need s t b = at_need lim side s t
move lim side (have e r) s t b = at_have lim e r s t
move lim side (have_member e key r) s t b = at_member lim e key r s t
move lim side (have_name x) s t b = at_name lim x s t b
move lim side (have_bump e) s t b = at_operator lim e (here s) s t
move lim side (whole e r) s t b = at_whole e r s t
move lim side opened s t b = at_opened lim side s t
move lim side (first_name x) s t b = at_first lim x s t b
move lim side (closed_name x) s t b = at_closed lim x s t b
move lim side (bump_name up) s t b = at_bump_name side up s t
move lim side yield_next s t b = at_yield lim side s t b
move lim side async_next s t b = at_async side s t b
move lim side async_start s t b = at_async_start lim side s t b
move lim side (function_next role) s t b = at_function side role s t
move lim side (name_next role kind) s t b = at_function_name side role kind s t
move lim side (params_open h) s t b = at_params_open h s t
move lim side (param_next h xs) s t b = at_param lim side h xs s t
move lim side (param_behind h xs) s t b = behind_param h xs s t
move lim side (arrow_sign kind xs) s t b = at_arrow_sign kind xs s t b
move lim side (arrow_body kind xs) s t b = at_arrow_body lim side kind xs s t
move lim side (body_open h xs) s t b = at_body_open h xs s t
move lim side (key_next ps r) s t b = at_key lim side ps r s t
move lim side (key_behind ps key r) s t b = behind_key ps key r s t
move lim side (key_name ps x r) s t b = behind_key_name side ps x r s t
move lim side (key_async ps r) s t b = behind_async ps r s t b
move lim side (key_end ps r) s t b = behind_property ps r s t
move lim side (method_key ps kind r) s t b = at_method_key ps kind r s t
move lim side (method_open ps kind key r) s t b = at_method ps kind key r s t
move lim side (member_name e r) s t b = member_word side e (word_of t) r s
move lim side (call_open e r) s t b = at_call e r s t
move lim side (words_next ws) s t b = at_words lim side ws s t
move lim side (let_name of is r) s t b = at_let_name side of is r s t
move lim side (let_behind of is x r) s t b = at_let_behind lim side of is x r s t
move lim side (const_name of is r) s t b = at_const_name side of is r s t
move lim side (const_behind of is x r) s t b = at_const_behind side of is x r s t
move lim side (jump_end st) s t b = at_jump st s t
move lim side return_next s t b = at_return lim side s t b
move lim side throw_next s t b = at_throw lim side s t b
move lim side if_open s t b = at_open in_if s t
move lim side while_open s t b = at_open in_while s t
move lim side (do_while st r) s t b = at_open (in_do_test st r) s t
move lim side (do_end st e r) s t b = at_do_end st e r s t
move lim side for_open s t b = at_paren for_next s t
move lim side for_next s t b = at_for lim side s t
move lim side (for_test i r) s t b = at_for_test lim side i r s t
move lim side (for_update i test r) s t b = at_for_update lim side i test r s t
move lim side try_open s t b = at_brace tried (here s) s t
move lim side (catch_next bs r) s t b = at_catch bs r s t
move lim side (catch_open bs r) s t b = at_catch_open bs r s t
move lim side (catch_name bs r) s t b = at_catch_name side bs r s t
move lim side (catch_close bs x r) s t b = at_catch_close bs x r s t
move lim side (catch_block bs x r) s t b = at_brace (caught bs (Some x)) r s t
move lim side (finally_next bs c r) s t b = at_finally lim side bs c r s t
move lim side (finally_open bs c r) s t b = at_brace (finally bs c) r s t
move lim side switch_open s t b = at_open in_switch s t
move lim side (switch_brace e r) s t b = at_switch e r s t
move lim side (clause_next e cs r) s t b = at_clause e cs r s t
move lim side (case_number e cs r) s t b = at_case e cs r s t
move lim side (case_colon e cs n r) s t b = at_case_colon e cs n r s t

abbrev pub step : Limits → Side → Mode → List Frame → Lexeme → Move
step lim side m s t = move lim side m s t.kind t.line_before

-- ALL TOKENS
abbrev pub finish_standing : Standing → Option Stmts
finish_standing (standing st r (in_list program ss q ∷ [])) = Some (with_stmt ss st)
finish_standing _ = None

abbrev pub finish : Mode → List Frame → Option Stmts
finish start (in_list program ss r ∷ []) = Some ss
finish (have_stmt st r) s = finish_standing (settle_stmt st r s)
finish (finally_next bs c r) s = finish_standing (settle_stmt (Try bs c no_last) r s)
finish m s = None

-- why the tokens are refused: they begin no program at all, none within the depth, or none with so many parameters
pub data Reason : Type 0 where
  unexpected : Reason
  too_deep : Reason
  too_many : Reason

-- the program, or the number of the first token that no program goes on with, and why
pub data Outcome : Type 0 where
  parsed : (p : Stmts) → Outcome
  refused : (at : ℕ) (why : Reason) → Outcome

abbrev pub limits : Side → Limits
limits side = record { depth = Some (deepest side); most = most side }

-- without the bound on lists, and without any
abbrev pub unlisted : Side → Limits
unlisted side = record { depth = Some (deepest side); most = None }

abbrev pub unlimited : Limits
unlimited = record { depth = None; most = None }

abbrev pub is_refused : Move → Bool
is_refused refuse = true
is_refused (go m s) = false

abbrev pub reason : Side → Mode → List Frame → Lexeme → Reason
reason side m s t =
    if is_refused (step unlimited side m s t) then unexpected
    else (if is_refused (step (unlisted side) side m s t) then too_deep else too_many)

abbrev pub finished : ℕ → Option Stmts → Outcome
finished at None = refused at unexpected
finished at (Some p) = parsed p

abbrev pub carry : Move → (Mode → List Frame → Outcome) → Outcome → Outcome
carry refuse on other = other
carry (go m s) on other = on m s

abbrev pub run : Side → ℕ → Mode → List Frame → List Lexeme → Outcome
run side at m s [] = finished at (finish m s)
run side at m s (t ∷ ts) = carry (step (limits side) side m s t) (λ n u. run side (suc at) n u ts) (refused at (reason side m s t))

abbrev pub parse : Side → List Lexeme → Outcome
parse side ts = run side 0 start (in_list program end 0 ∷ []) ts
