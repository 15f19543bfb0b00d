-- A step where a statement begins, or behind one, keeps what is open sound.
use Rattle.std.proofs.Common.{◌≡◌, ℕ, suc, max, List, [], ◌∷◌, true, false, Some, None, refl, arith}
use Rattle.actx_grammar.specs.declared.side.Side.{Side}
use Rattle.actx_grammar.specs.declared.side.Side.TheVariants.{Source, Plain}
use Rattle.actx_grammar.specs.declared.token.Keyword.{Keyword}
use Rattle.actx_grammar.specs.declared.token.Keyword.TheVariants as k
use Rattle.actx_grammar.specs.declared.token.Sign.TheVariants as g
use Rattle.actx_grammar.specs.declared.token.TokenKind.{TokenKind}
use Rattle.actx_grammar.specs.declared.token.TokenKind.TheVariants as t
use Rattle.actx_grammar.specs.ParserState.{Limits, fits, expression, declaration, method, Head, arrow_head, function_head, of_statement, ListOwner, program, body, block, tried, caught, finally, clause_of, Frame, in_value, yes_of, no_of, while_of, do_of, for_body, for_of_body, in_list, Mode, start, body_start, have_stmt, async_start, function_next, let_name, const_name, jump_end, return_next, throw_next, if_open, while_open, for_open, try_open, switch_open, go, go_if, here}
use Rattle.actx_grammar.specs.ParserOperands.{fits_below, at_need}
use Rattle.actx_grammar.specs.Tree.{no_lets, no_consts, Stmt, If, While, For, ForOf, Break, Continue, Empty, no_stmt, some_stmt, Stmts, end}
use Rattle.actx_laws.proofs.ReadyStates.{wants_stmt, Roomy, OfStatement, OfList, Sound, OfMode, Ready, ReadyAfter}
use Rattle.actx_laws.proofs.ViableTests.{fits_less}
use Rattle.actx_laws.proofs.ReadyOperands.{ready_if, ready_when, statement_part, on_frame}
use Rattle.actx_grammar.specs.Parser.{Standing, standing, with_stmt, end_body, end_list, close_list, next_clause, with_parts, without_parts, statement_keyword, list_keyword, at_statement, at_start, at_body_start, settle_stmt, to_else, behind_standing, behind_stmt}

-- LISTS THAT END
body_ended : (lim : Limits) (side : Side) (h : Head) (xs : List (List ℕ)) (ss : Stmts) (r : ℕ) (s : List Frame) → OfList lim (body h xs) r s → Sound lim s → ReadyAfter lim side (end_body h xs ss r s)
body_ended lim side (arrow_head kind) xs ss r s i z = record { mode = i; stack = z }
body_ended lim side (function_head expression kind x) xs ss r s i z = record { mode = i; stack = z }
body_ended lim side (function_head declaration kind x) xs ss r s i z = record { mode = i; stack = z }
body_ended lim side (function_head (method ps key q) kind x) xs ss r s i z = record { mode = i; stack = z }

list_ended : (lim : Limits) (side : Side) (owner : ListOwner) (ss : Stmts) (r : ℕ) (s : List Frame) → OfList lim owner r s → Sound lim s → ReadyAfter lim side (end_list owner ss r s)
list_ended lim side program ss r s i z = tt
list_ended lim side (body h xs) ss r s i z = body_ended lim side h xs ss r s i z
list_ended lim side block ss r s i z = record { mode = i; stack = z }
list_ended lim side tried ss r s i z = record { mode = i; stack = z }
list_ended lim side (caught bs x) ss r s i z = record { mode = i; stack = z }
list_ended lim side (finally bs c) ss r s i z = record { mode = i; stack = z }
list_ended lim side (clause_of e cs n) ss r s i z = record { mode = i; stack = z }

pub close_list_ready : (lim : Limits) (side : Side) (s : List Frame) → Sound lim s → ReadyAfter lim side (close_list s)
close_list_ready lim side (in_list owner ss r ∷ s) z = list_ended lim side owner ss r s z.0 z.1
close_list_ready lim side [] z = tt
close_list_ready lim side (_ ∷ s) z = tt

case_follows : (lim : Limits) (side : Side) (s : List Frame) → Sound lim s → ReadyAfter lim side (next_clause true s)
case_follows lim side (in_list (clause_of e cs (Some n)) ss r ∷ s) z = record { mode = z.0; stack = z.1 }
case_follows lim side (in_list (clause_of e cs None) ss r ∷ s) z = tt
case_follows lim side (in_list _ ss r ∷ s) z = tt
case_follows lim side [] z = tt
case_follows lim side (_ ∷ s) z = tt

default_follows : (lim : Limits) (side : Side) (s : List Frame) → Sound lim s → ReadyAfter lim side (next_clause false s)
default_follows lim side (in_list (clause_of e cs (Some n)) ss r ∷ s) z = record { mode = z.0; stack = z.1 }
default_follows lim side (in_list (clause_of e cs None) ss r ∷ s) z = tt
default_follows lim side (in_list _ ss r ∷ s) z = tt
default_follows lim side [] z = tt
default_follows lim side (_ ∷ s) z = tt

-- A STATEMENT BEGINS
pub opened_list : (lim : Limits) (side : Side) (owner : ListOwner) (r : ℕ) (s : List Frame) → OfList lim owner r s → Sound lim s → Ready lim side start (in_list owner end r ∷ s)
opened_list lim side owner r s i z = record { mode = refl; stack = (i, z) }

-- a statement that begins with an expression
pub value_ready : (lim : Limits) (side : Side) (s : List Frame) (w : TokenKind) → wants_stmt s ≡ true → Sound lim s → ReadyAfter lim side (at_need lim side (in_value ∷ s) w)
value_ready lim side s w h z = on_frame lim side (in_value ∷ s) w refl (λ i. (record { wanted = h; part = i }, z)) tt

parts_ready : (lim : Limits) (side : Side) (m : Mode) (s : List Frame) → (Roomy lim s → OfMode lim side m s) → wants_stmt s ≡ true → Sound lim s → ReadyAfter lim side (with_parts lim m s)
parts_ready lim side m s f h z = ready_if lim side (fits_below lim s) m s (λ w. record { mode = f (record { wanted = h; part = w }); stack = z })

alone_ready : (lim : Limits) (side : Side) (m : Mode) (s : List Frame) → OfMode lim side m s → Sound lim s → ReadyAfter lim side (without_parts lim m s)
alone_ready lim side m s h z = ready_if lim side (fits lim (here s)) m s (λ w. record { mode = h; stack = z })

do_ready : (lim : Limits) (side : Side) (s : List Frame) → wants_stmt s ≡ true → Sound lim s → ReadyAfter lim side (go_if (fits_below lim s) body_start (do_of ∷ s))
do_ready lim side s h z =
    ready_if lim side (fits_below lim s) body_start (do_of ∷ s)
    (λ w. let i : fits lim (here (do_of ∷ s)) ≡ true = fits_less lim (here (do_of ∷ s)) (suc (here s)) w (omega arith) in record { mode = record { wanted = refl; fit = i }; stack = (record { wanted = h; part = i }, z) })

pub statement_ready : (lim : Limits) (side : Side) (s : List Frame) (key : Keyword) → wants_stmt s ≡ true → Sound lim s → ReadyAfter lim side (statement_keyword lim side s key)
statement_ready lim side s k.If h z = parts_ready lim side if_open s (λ y. y) h z
statement_ready lim side s k.While h z = parts_ready lim side while_open s (λ y. y) h z
statement_ready lim side s k.Do h z = do_ready lim side s h z
statement_ready lim side s k.For h z = parts_ready lim side for_open s (λ y. y) h z
statement_ready lim side s k.Break h z = alone_ready lim side (jump_end Break) s h z
statement_ready lim side s k.Continue h z = alone_ready lim side (jump_end Continue) s h z
statement_ready lim side s k.Return h z = alone_ready lim side return_next s h z
statement_ready lim side s k.Throw h z = parts_ready lim side throw_next s (λ y. y) h z
statement_ready lim side s k.Try h z = alone_ready lim side try_open s h z
statement_ready lim Plain s k.Switch h z = parts_ready lim Plain switch_open s (λ y. y) h z
statement_ready lim Source s k.Switch h z = value_ready lim Source s (t.Keyword k.Switch) h z
statement_ready lim side s k.Function h z = tt
statement_ready lim side s key h z = value_ready lim side s (t.Keyword key) h z

list_keyword_ready : (lim : Limits) (side : Side) (s : List Frame) (key : Keyword) → wants_stmt s ≡ true → Sound lim s → ReadyAfter lim side (list_keyword lim side s key)
list_keyword_ready lim side s k.Let h z = alone_ready lim side (let_name of_statement no_lets (here s)) s h z
list_keyword_ready lim side s k.Const h z = parts_ready lim side (const_name of_statement no_consts (here s)) s (λ y. y) h z
list_keyword_ready lim side s k.Function h z = alone_ready lim side (function_next declaration) s h z
list_keyword_ready lim Source s k.Async h z = alone_ready lim Source async_start s h z
list_keyword_ready lim Plain s k.Async h z = statement_ready lim Plain s k.Async h z
list_keyword_ready lim side s k.Case h z = case_follows lim side s z
list_keyword_ready lim side s k.Default h z = default_follows lim side s z
list_keyword_ready lim side s key h z = statement_ready lim side s key h z

sign_ready : (lim : Limits) (side : Side) (s : List Frame) (w : TokenKind) → wants_stmt s ≡ true → Sound lim s → ReadyAfter lim side (at_statement lim side s w)
sign_ready lim side s (t.Sign g.OpenBrace) h z = ready_when lim side (fits lim (here s)) (go start (in_list block end (here s) ∷ s)) (λ w. opened_list lim side block (here s) s h z)
sign_ready lim side s (t.Sign g.Semicolon) h z = alone_ready lim side (have_stmt Empty (here s)) s h z
sign_ready lim side s (t.Sign w) h z = value_ready lim side s (t.Sign w) h z
sign_ready lim side s (t.Name w) h z = value_ready lim side s (t.Name w) h z
sign_ready lim side s (t.Keyword w) h z = value_ready lim side s (t.Keyword w) h z
sign_ready lim side s (t.Number w) h z = value_ready lim side s (t.Number w) h z
sign_ready lim side s (t.Text w) h z = value_ready lim side s (t.Text w) h z

pub start_ready : (lim : Limits) (side : Side) (s : List Frame) (w : TokenKind) → wants_stmt s ≡ true → Sound lim s → ReadyAfter lim side (at_start lim side s w)
start_ready lim side s (t.Keyword key) h z = list_keyword_ready lim side s key h z
start_ready lim side s (t.Sign g.CloseBrace) h z = close_list_ready lim side s z
start_ready lim side s (t.Sign w) h z = sign_ready lim side s (t.Sign w) h z
start_ready lim side s (t.Name w) h z = sign_ready lim side s (t.Name w) h z
start_ready lim side s (t.Number w) h z = sign_ready lim side s (t.Number w) h z
start_ready lim side s (t.Text w) h z = sign_ready lim side s (t.Text w) h z

pub body_start_ready : (lim : Limits) (side : Side) (s : List Frame) (w : TokenKind) → wants_stmt s ≡ true → Sound lim s → ReadyAfter lim side (at_body_start lim side s w)
body_start_ready lim side s (t.Keyword key) h z = statement_ready lim side s key h z
body_start_ready lim side s (t.Sign w) h z = sign_ready lim side s (t.Sign w) h z
body_start_ready lim side s (t.Name w) h z = sign_ready lim side s (t.Name w) h z
body_start_ready lim side s (t.Number w) h z = sign_ready lim side s (t.Number w) h z
body_start_ready lim side s (t.Text w) h z = sign_ready lim side s (t.Text w) h z

-- BEHIND A STATEMENT
-- a list that reaches deeper
pub list_deeper : (lim : Limits) (owner : ListOwner) (q r : ℕ) (s : List Frame) → OfList lim owner q s → OfList lim owner (max q r) s
list_deeper lim program q r s h = h
list_deeper lim (body (arrow_head kind) xs) q r s h = record { stands = h.stands; reach = omega (arith, h.reach) }
list_deeper lim (body (function_head expression kind x) xs) q r s h = record { stands = h.stands; reach = omega (arith, h.reach) }
list_deeper lim (body (function_head declaration kind x) xs) q r s h = h
list_deeper lim (body (function_head (method ps key j) kind x) xs) q r s h = record { stands = h.stands; reach = omega (arith, h.reach) }
list_deeper lim block q r s h = h
list_deeper lim tried q r s h = h
list_deeper lim (caught bs x) q r s h = h
list_deeper lim (finally bs c) q r s h = h
list_deeper lim (clause_of e cs n) q r s h = h

abbrev pub Settles : Limits → Standing → Type 0
Settles lim (standing st r s) = Sound lim s

pub settle_stmt_ready : (lim : Limits) (st : Stmt) (r : ℕ) (s : List Frame) → Sound lim s → Settles lim (settle_stmt st r s)
settle_stmt_ready lim st r (yes_of e q ∷ s) z = settle_stmt_ready lim (If e st no_stmt) (max q r) s z.1
settle_stmt_ready lim st r (no_of e branch q ∷ s) z = settle_stmt_ready lim (If e branch (some_stmt st)) (max q r) s z.1
settle_stmt_ready lim st r (while_of e q ∷ s) z = settle_stmt_ready lim (While e st) (max q r) s z.1
settle_stmt_ready lim st r (for_body i test update q ∷ s) z = settle_stmt_ready lim (For i test update st) (max q r) s z.1
settle_stmt_ready lim st r (for_of_body constant x e q ∷ s) z = settle_stmt_ready lim (ForOf constant x e st) (max q r) s z.1
settle_stmt_ready lim st r [] z = z
settle_stmt_ready lim st r (_ ∷ s) z = z

else_ready : (lim : Limits) (side : Side) (st : Stmt) (r : ℕ) (s : List Frame) → Sound lim s → ReadyAfter lim side (to_else st r s)
else_ready lim side st r (yes_of e q ∷ s) z = let a : OfStatement lim (no_of e st (max q r)) s = statement_part (no_of e st (max q r)) refl z.0 in record { mode = record { wanted = refl; fit = a.part }; stack = (a, z.1) }
else_ready lim side st r (no_of e branch q ∷ s) z = else_ready lim side (If e branch (some_stmt st)) (max q r) s z.1
else_ready lim side st r (while_of e q ∷ s) z = else_ready lim side (While e st) (max q r) s z.1
else_ready lim side st r (for_body i test update q ∷ s) z = else_ready lim side (For i test update st) (max q r) s z.1
else_ready lim side st r (for_of_body constant x e q ∷ s) z = else_ready lim side (ForOf constant x e st) (max q r) s z.1
else_ready lim side st r [] z = tt
else_ready lim side st r (_ ∷ s) z = tt

roomy_do : {lim : Limits} {s : List Frame} → OfStatement lim do_of s → Roomy lim s
roomy_do {lim} {s} h = record { wanted = h.wanted; part = fits_less lim (suc (here s)) (here (do_of ∷ s)) h.part (omega arith) }

standing_ready : (lim : Limits) (side : Side) (v : Standing) (w : TokenKind) → Settles lim v → ReadyAfter lim side (behind_standing lim side v w)
standing_ready lim side (standing st r (in_list owner ss q ∷ s)) w z = start_ready lim side (in_list owner (with_stmt ss st) (max q r) ∷ s) w refl (list_deeper lim owner q r s z.0, z.1)
standing_ready lim side (standing st r (do_of ∷ s)) (t.Keyword k.While) z = record { mode = roomy_do z.0; stack = z.1 }
standing_ready lim side (standing st r (do_of ∷ s)) (t.Keyword _) z = tt
standing_ready lim side (standing st r (do_of ∷ s)) _ z = tt
standing_ready lim side (standing st r []) w z = tt
standing_ready lim side (standing st r (_ ∷ s)) w z = tt

pub behind_ready : (lim : Limits) (side : Side) (st : Stmt) (r : ℕ) (s : List Frame) (w : TokenKind) → Sound lim s → ReadyAfter lim side (behind_stmt lim side st r s w)
behind_ready lim side st r s (t.Keyword k.Else) z = else_ready lim side st r s z
behind_ready lim side st r s (t.Keyword w) z = standing_ready lim side (settle_stmt st r s) (t.Keyword w) (settle_stmt_ready lim st r s z)
behind_ready lim side st r s (t.Sign w) z = standing_ready lim side (settle_stmt st r s) (t.Sign w) (settle_stmt_ready lim st r s z)
behind_ready lim side st r s (t.Name w) z = standing_ready lim side (settle_stmt st r s) (t.Name w) (settle_stmt_ready lim st r s z)
behind_ready lim side st r s (t.Number w) z = standing_ready lim side (settle_stmt st r s) (t.Number w) (settle_stmt_ready lim st r s z)
behind_ready lim side st r s (t.Text w) z = standing_ready lim side (settle_stmt st r s) (t.Text w) (settle_stmt_ready lim st r s z)
