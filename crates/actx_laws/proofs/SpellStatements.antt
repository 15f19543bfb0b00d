-- Each statement is spelled by its own tokens where its parts are.
use Rattle.std.proofs.Common.{◌≡◌, ℕ, ◌≤◌, max, Bool, true, false, List, [], ◌∷◌, ◌++◌, Option, Some, None, sym, ap, ◌∙◌, subst, append_assoc, append-nil, arith}
use Rattle.actx_grammar.specs.declared.operators.FunctionKind.{FunctionKind}
use Rattle.actx_grammar.specs.declared.side.Side.{Side}
use Rattle.actx_grammar.specs.declared.side.Side.TheVariants.{Source, Plain}
use Rattle.actx_grammar.specs.declared.token.Keyword.TheVariants as k
use Rattle.actx_grammar.specs.declared.token.Sign.TheVariants as g
use Rattle.actx_grammar.specs.declared.token.TokenKind.{TokenKind}
use Rattle.actx_grammar.specs.declared.token.TokenKind.TheVariants as t
use Rattle.actx_grammar.specs.Layout.{laid_from}
use Rattle.actx_grammar.specs.Lexemes.{Lexeme, sign, keyword}
use Rattle.actx_grammar.specs.Names.{IsBinding}
use Rattle.actx_grammar.specs.Words.{greatest_number}
use Rattle.actx_grammar.specs.Tree.{Expr, MaybeExpr, LetItems, ConstItems, Init, Stmt, Catch, Clauses, Stmts, some_expr, code, Let, Const, Fun, Block, If, While, DoWhile, For, ForOf, Return, Throw, Try, Value, Switch, no_stmt, some_stmt, no_catch, no_last, last, no_clauses, clause, next}
use Rattle.actx_grammar.specs.Grammar.{IsStatementStart, IsBody, ends_open, SpellsHead, SpellsBody, sp_let, sp_const, sp_fun, sp_block, sp_if, sp_if_else, sp_while, sp_do_while, sp_for, sp_for_of_let, sp_for_of_const, sp_return, sp_throw, sp_try_catch, sp_try_finally, sp_try_both, sp_value, sp_switch, sp_braces, sp_body, sp_default, sp_case, sp_next}
use Rattle.actx_grammar.specs.Spell.{round, braced, spell, spell_maybe, spell_lets, spell_consts, spell_init, spell_stmt, spell_catch, spell_clauses, spell_program, inner, statement}
use Rattle.actx_grammar.specs.Depth.{depth, depth_maybe, depth_init, depth_stmt, depth_catch, depth_clauses, depth_program}
use Rattle.actx_laws.proofs.SpellDeeper.{deeper, deeper_maybe, deeper_init, deeper_stmt, deeper_block, deeper_catch, deeper_clauses, deeper_stmts}
use Rattle.actx_laws.proofs.SpellLaid.{after, laid_append, kinds_laid, same_line, laid_braced}
use Rattle.actx_laws.proofs.SpellPlaces.{starts}
use Rattle.actx_laws.proofs.SpellSaid.{Said, LetsSaid, ConstsSaid, MaybeSaid, InitSaid, StmtSaid, BodySaid, StmtsSaid, BlockSaid, CatchSaid, ClausesSaid}
use Rattle.actx_laws.proofs.SpellHeads.{ParamsSaid, function_again}

-- BETWEEN PARENTHESES, with more behind
round_then : (b : Bool) (x y : List TokenKind) → laid_from b (round x ++ y) ≡ sign g.OpenParen b ∷ (laid_from false x ++ sign g.CloseParen (after false x) ∷ laid_from false y)
round_then b x y = ap (λ z. sign g.OpenParen b ∷ z) (ap (laid_from false) (append_assoc x (t.Sign g.CloseParen ∷ []) y) ∙ laid_append false x (t.Sign g.CloseParen ∷ y))

-- DECLARATIONS
pub let_said : {side : Side} {most : Option ℕ} (is : LetItems) → LetsSaid side most is → StmtSaid side most (Let is)
let_said is p b = rw (laid_append false (spell_lets is) (t.Sign g.Semicolon ∷ [])) (sp_let b (after false (spell_lets is)) (p false))

pub const_said : {side : Side} {most : Option ℕ} (is : ConstItems) → ConstsSaid side most is → StmtSaid side most (Const is)
const_said is p b = rw (laid_append false (spell_consts is) (t.Sign g.Semicolon ∷ [])) (sp_const b (after false (spell_consts is)) (p false))

pub fun_said : {side : Side} {most : Option ℕ} {kind : FunctionKind} {h : List Lexeme} (x : List ℕ) (xs : List (List ℕ)) (ss : Stmts) → SpellsHead side kind (Some x) h → ParamsSaid side most xs → StmtsSaid side most ss → StmtSaid side most (Fun (code (Some x) kind xs ss))
fun_said x xs ss h ps p b = sp_fun (function_again xs ss h ps p b)

-- BLOCKS AND BRANCHES
pub block_said : {side : Side} {most : Option ℕ} (ss : Stmts) → StmtsSaid side most ss → BlockSaid side most ss
block_said ss p b = rw (laid_braced b (spell_program ss)) (sp_braces b (after true (spell_program ss)) (p true))

pub block_stmt_said : {side : Side} {most : Option ℕ} (ss : Stmts) → BlockSaid side most ss → StmtSaid side most (Block ss)
block_stmt_said ss p b = sp_block (p b)

pub body_said : {side : Side} {most : Option ℕ} (st : Stmt) → StmtSaid side most st → IsBody st → BodySaid side most st
body_said st p h b = sp_body (p b) h

deeper_body : {side : Side} {most : Option ℕ} {d n : ℕ} {st : Stmt} {x : List Lexeme} → SpellsBody side most d st x → d ≤ n → SpellsBody side most n st x
deeper_body (sp_body p h) i = sp_body (deeper_stmt p i) h

if_laid : (b : Bool) (x y : List TokenKind) → laid_from b (t.Keyword k.If ∷ (round x ++ y)) ≡ keyword k.If b ∷ sign g.OpenParen false ∷ (laid_from false x ++ sign g.CloseParen (after false x) ∷ laid_from false y)
if_laid b x y = ap (λ z. keyword k.If b ∷ z) (round_then false x y)

pub if_said : {side : Side} {most : Option ℕ} (e : Expr) (branch : Stmt) → Said side most e → BodySaid side most branch → StmtSaid side most (If e branch no_stmt)
if_said {side} {most} e branch p q b =
    rw (if_laid b (spell inner e 1) (spell_stmt branch))
    (sp_if {d = max (depth inner e 1) (max (depth_stmt branch) 0)} b false (after false (spell inner e 1)) (deeper (p false inner 1) (omega arith)) (deeper_body (q false) (omega arith)))

if_else_laid : (b : Bool) (x y z : List TokenKind) → laid_from b (t.Keyword k.If ∷ (round x ++ y ++ t.Keyword k.Else ∷ z)) ≡ keyword k.If b ∷ sign g.OpenParen false ∷ (laid_from false x ++ sign g.CloseParen (after false x) ∷ (laid_from false y ++ keyword k.Else (after false y) ∷ laid_from false z))
if_else_laid b x y z =
    ap (λ w. keyword k.If b ∷ laid_from false w) (append_assoc (round x) y (t.Keyword k.Else ∷ z))
    ∙ if_laid b x (y ++ t.Keyword k.Else ∷ z)
    ∙ ap (λ w. keyword k.If b ∷ sign g.OpenParen false ∷ (laid_from false x ++ sign g.CloseParen (after false x) ∷ w)) (laid_append false y (t.Keyword k.Else ∷ z))

pub if_else_said : {side : Side} {most : Option ℕ} (e : Expr) (branch other : Stmt) → Said side most e → BodySaid side most branch → ends_open branch ≡ false → BodySaid side most other → StmtSaid side most (If e branch (some_stmt other))
if_else_said {side} {most} e branch other p q h r b =
    rw (if_else_laid b (spell inner e 1) (spell_stmt branch) (spell_stmt other))
    (sp_if_else {d = max (depth inner e 1) (max (depth_stmt branch) (depth_stmt other))} b false (after false (spell inner e 1)) (after false (spell_stmt branch)) (deeper (p false inner 1) (omega arith)) (deeper_body (q false) (omega arith)) h (deeper_body (r false) (omega arith)))

-- LOOPS
while_laid : (b : Bool) (x y : List TokenKind) → laid_from b (t.Keyword k.While ∷ (round x ++ y)) ≡ keyword k.While b ∷ sign g.OpenParen false ∷ (laid_from false x ++ sign g.CloseParen (after false x) ∷ laid_from false y)
while_laid b x y = ap (λ z. keyword k.While b ∷ z) (round_then false x y)

pub while_said : {side : Side} {most : Option ℕ} (e : Expr) (st : Stmt) → Said side most e → BodySaid side most st → StmtSaid side most (While e st)
while_said {side} {most} e st p q b =
    rw (while_laid b (spell inner e 1) (spell_stmt st))
    (sp_while {d = max (depth inner e 1) (depth_stmt st)} b false (after false (spell inner e 1)) (deeper (p false inner 1) (omega arith)) (deeper_body (q false) (omega arith)))

do_while_laid : (b : Bool) (x y : List TokenKind) → laid_from b (t.Keyword k.Do ∷ (x ++ t.Keyword k.While ∷ (round y ++ t.Sign g.Semicolon ∷ []))) ≡ keyword k.Do b ∷ (laid_from false x ++ keyword k.While (after false x) ∷ sign g.OpenParen false ∷ (laid_from false y ++ sign g.CloseParen (after false y) ∷ sign g.Semicolon false ∷ []))
do_while_laid b x y =
    ap (λ z. keyword k.Do b ∷ z)
    (laid_append false x (t.Keyword k.While ∷ (round y ++ t.Sign g.Semicolon ∷ []))
    ∙ ap (λ z. laid_from false x ++ keyword k.While (after false x) ∷ z) (round_then false y (t.Sign g.Semicolon ∷ [])))

pub do_while_said : {side : Side} {most : Option ℕ} (st : Stmt) (e : Expr) → BodySaid side most st → Said side most e → StmtSaid side most (DoWhile st e)
do_while_said {side} {most} st e q p b =
    rw (do_while_laid b (spell_stmt st) (spell inner e 1))
    (sp_do_while {d = max (depth_stmt st) (depth inner e 1)} b (after false (spell_stmt st)) false (after false (spell inner e 1)) false (deeper_body (q false) (omega arith)) (deeper (p false inner 1) (omega arith)))

for_laid : (b : Bool) (w x y z : List TokenKind)
    → laid_from b (t.Keyword k.For ∷ t.Sign g.OpenParen ∷ (w ++ t.Sign g.Semicolon ∷ (x ++ t.Sign g.Semicolon ∷ (y ++ t.Sign g.CloseParen ∷ z))))
    ≡ keyword k.For b ∷ sign g.OpenParen false ∷ (laid_from false w ++ sign g.Semicolon (after false w) ∷ (laid_from true x ++ sign g.Semicolon (after true x) ∷ (laid_from true y ++ sign g.CloseParen (after true y) ∷ laid_from false z)))
for_laid b w x y z =
    ap (λ v. keyword k.For b ∷ sign g.OpenParen false ∷ v)
    (laid_append false w (t.Sign g.Semicolon ∷ (x ++ t.Sign g.Semicolon ∷ (y ++ t.Sign g.CloseParen ∷ z)))
    ∙ ap (λ v. laid_from false w ++ sign g.Semicolon (after false w) ∷ v)
    (laid_append true x (t.Sign g.Semicolon ∷ (y ++ t.Sign g.CloseParen ∷ z))
    ∙ ap (λ v. laid_from true x ++ sign g.Semicolon (after true x) ∷ v) (laid_append true y (t.Sign g.CloseParen ∷ z))))

pub for_said : {side : Side} {most : Option ℕ} (i : Init) (test update : MaybeExpr) (st : Stmt) → InitSaid side most i → MaybeSaid side most test → MaybeSaid side most update → BodySaid side most st → StmtSaid side most (For i test update st)
for_said {side} {most} i test update st p q r s b =
    rw (for_laid b (spell_init i) (spell_maybe test) (spell_maybe update) (spell_stmt st))
    (sp_for {d = max (max (depth_init i) (depth_maybe test)) (max (depth_maybe update) (depth_stmt st))} b false (after false (spell_init i)) (after true (spell_maybe test)) (after true (spell_maybe update))
    (deeper_init (p false) (omega arith)) (deeper_maybe (q true) (omega arith)) (deeper_maybe (r true) (omega arith)) (deeper_body (s false) (omega arith)))

pub for_of_let_said : {side : Side} {most : Option ℕ} (x : List ℕ) (over : Expr) (st : Stmt) → side ≡ Source → IsBinding side x → Said side most over → BodySaid side most st → StmtSaid side most (ForOf false x over st)
for_of_let_said {side} {most} x over st s h p q b =
    rw (laid_append false (spell inner over 1) (t.Sign g.CloseParen ∷ spell_stmt st))
    (sp_for_of_let {d = max (depth inner over 1) (depth_stmt st)} b false false false false (after false (spell inner over 1)) s h (deeper (p false inner 1) (omega arith)) (deeper_body (q false) (omega arith)))

pub for_of_const_said : {side : Side} {most : Option ℕ} (x : List ℕ) (over : Expr) (st : Stmt) → side ≡ Source → IsBinding side x → Said side most over → BodySaid side most st → StmtSaid side most (ForOf true x over st)
for_of_const_said {side} {most} x over st s h p q b =
    rw (laid_append false (spell inner over 1) (t.Sign g.CloseParen ∷ spell_stmt st))
    (sp_for_of_const {d = max (depth inner over 1) (depth_stmt st)} b false false false false (after false (spell inner over 1)) s h (deeper (p false inner 1) (omega arith)) (deeper_body (q false) (omega arith)))

-- VALUES
pub return_said : {side : Side} {most : Option ℕ} (e : Expr) → Said side most e → StmtSaid side most (Return (some_expr e))
return_said e p b = rw (laid_append false (spell inner e 1) (t.Sign g.Semicolon ∷ [])) (sp_return b (after false (spell inner e 1)) (p false inner 1) (same_line (spell inner e 1)))

pub throw_said : {side : Side} {most : Option ℕ} (e : Expr) → Said side most e → StmtSaid side most (Throw e)
throw_said e p b = rw (laid_append false (spell inner e 1) (t.Sign g.Semicolon ∷ [])) (sp_throw b (after false (spell inner e 1)) (p false inner 1) (same_line (spell inner e 1)))

pub value_said : {side : Side} {most : Option ℕ} (e : Expr) → Said side most e → StmtSaid side most (Value e)
value_said e p b =
    rw (laid_append b (spell statement e 1) (t.Sign g.Semicolon ∷ []))
    (sp_value (after b (spell statement e 1)) (p b statement 1) (subst IsStatementStart (sym (kinds_laid b (spell statement e 1))) (starts e 1)))

-- TRY
try_catch_laid : (b : Bool) (x y : List TokenKind) → laid_from b (t.Keyword k.Try ∷ (x ++ y ++ [])) ≡ keyword k.Try b ∷ (laid_from false x ++ laid_from (after false x) y)
try_catch_laid b x y = ap (λ z. keyword k.Try b ∷ z) (ap (laid_from false) (append-nil (x ++ y)) ∙ laid_append false x y)

pub try_catch_said : {side : Side} {most : Option ℕ} (ss : Stmts) (c : Catch) → BlockSaid side most ss → CatchSaid side most c → StmtSaid side most (Try ss c no_last)
try_catch_said {side} {most} ss c p q b =
    rw (try_catch_laid b (braced (spell_program ss)) (spell_catch c))
    (sp_try_catch {d = max (depth_program ss) (max (depth_catch c) 0)} b (deeper_block (p false) (omega arith)) (deeper_catch (q (after false (braced (spell_program ss)))) (omega arith)))

try_finally_laid : (b : Bool) (x y : List TokenKind) → laid_from b (t.Keyword k.Try ∷ (x ++ [] ++ t.Keyword k.Finally ∷ y)) ≡ keyword k.Try b ∷ (laid_from false x ++ keyword k.Finally (after false x) ∷ laid_from false y)
try_finally_laid b x y = ap (λ z. keyword k.Try b ∷ z) (ap (λ z. laid_from false (z ++ t.Keyword k.Finally ∷ y)) (append-nil x) ∙ laid_append false x (t.Keyword k.Finally ∷ y))

pub try_finally_said : {side : Side} {most : Option ℕ} (ss final : Stmts) → BlockSaid side most ss → BlockSaid side most final → StmtSaid side most (Try ss no_catch (last final))
try_finally_said {side} {most} ss final p q b =
    rw (try_finally_laid b (braced (spell_program ss)) (braced (spell_program final)))
    (sp_try_finally {d = max (depth_program ss) (max 0 (depth_program final))} b (after false (braced (spell_program ss))) (deeper_block (p false) (omega arith)) (deeper_block (q false) (omega arith)))

try_both_laid : (b : Bool) (x y z : List TokenKind) → laid_from b (t.Keyword k.Try ∷ (x ++ y ++ t.Keyword k.Finally ∷ z)) ≡ keyword k.Try b ∷ (laid_from false x ++ laid_from (after false x) y ++ keyword k.Finally (after false (x ++ y)) ∷ laid_from false z)
try_both_laid b x y z = ap (λ w. keyword k.Try b ∷ w) (laid_append false (x ++ y) (t.Keyword k.Finally ∷ z) ∙ ap (λ w. w ++ keyword k.Finally (after false (x ++ y)) ∷ laid_from false z) (laid_append false x y))

pub try_both_said : {side : Side} {most : Option ℕ} (ss final : Stmts) (c : Catch) → BlockSaid side most ss → CatchSaid side most c → BlockSaid side most final → StmtSaid side most (Try ss c (last final))
try_both_said {side} {most} ss final c p q r b =
    rw (try_both_laid b (braced (spell_program ss)) (spell_catch c) (braced (spell_program final)))
    (sp_try_both {d = max (depth_program ss) (max (depth_catch c) (depth_program final))} b (after false (braced (spell_program ss) ++ spell_catch c)) (deeper_block (p false) (omega arith)) (deeper_catch (q (after false (braced (spell_program ss)))) (omega arith)) (deeper_block (r false) (omega arith)))

-- SWITCH
switch_laid : (b : Bool) (x y : List TokenKind) → laid_from b (t.Keyword k.Switch ∷ (round x ++ braced y)) ≡ keyword k.Switch b ∷ sign g.OpenParen false ∷ (laid_from false x ++ sign g.CloseParen (after false x) ∷ sign g.OpenBrace false ∷ (laid_from true y ++ sign g.CloseBrace (after true y) ∷ []))
switch_laid b x y = ap (λ z. keyword k.Switch b ∷ z) (round_then false x (braced y) ∙ ap (λ z. sign g.OpenParen false ∷ (laid_from false x ++ sign g.CloseParen (after false x) ∷ z)) (laid_braced false y))

pub switch_said : {side : Side} {most : Option ℕ} (e : Expr) (cs : Clauses) → side ≡ Plain → Said side most e → ClausesSaid side most cs → StmtSaid side most (Switch e cs)
switch_said {side} {most} e cs s p q b =
    rw (switch_laid b (spell inner e 1) (spell_clauses cs))
    (sp_switch {d = max (depth inner e 1) (depth_clauses cs)} b false (after false (spell inner e 1)) false (after true (spell_clauses cs)) s (deeper (p false inner 1) (omega arith)) (deeper_clauses (q true) (omega arith)))

pub default_said : {side : Side} {most : Option ℕ} (ss : Stmts) → StmtsSaid side most ss → ClausesSaid side most (clause None ss no_clauses)
default_said {side} {most} ss p b = rw (append-nil (spell_program ss)) (sp_default {d = max (depth_program ss) 0} (deeper_stmts (p false) (omega arith)))

pub case_said : {side : Side} {most : Option ℕ} (n : ℕ) (ss : Stmts) (cs : Clauses) → n ≤ greatest_number → StmtsSaid side most ss → ClausesSaid side most cs → ClausesSaid side most (clause (Some n) ss cs)
case_said {side} {most} n ss cs h p q b =
    rw (laid_append false (spell_program ss) (spell_clauses cs))
    (sp_case {d = max (depth_program ss) (depth_clauses cs)} b false false h (deeper_stmts (p false) (omega arith)) (deeper_clauses (q (after false (spell_program ss))) (omega arith)))

-- LISTS
pub next_said : {side : Side} {most : Option ℕ} (st : Stmt) (ss : Stmts) → StmtSaid side most st → StmtsSaid side most ss → StmtsSaid side most (next st ss)
next_said {side} {most} st ss p q b =
    rw (laid_append b (spell_stmt st) (spell_program ss))
    (sp_next {d = max (depth_stmt st) (depth_program ss)} (deeper_stmt (p b) (omega arith)) (deeper_stmts (q (after b (spell_stmt st))) (omega arith)))
