use Rattle.std.proofs.Common.{◌≡◌, ◌↔◌, IsTrue, rules}
use Rattle.actx_ast.specs.declared.tree.Expr.{the_lemmas}
use Rattle.actx_grammar.specs.Sides.{CatchOn, StmtsOn}
use Rattle.actx_grammar.specs.Tree.{catch, no_catch, last, no_last, Try}
use Rattle.actx_ast.specs.View.{clauses_view, stmt_view, stmts_view}
use Rattle.actx_ast.proofs.SideClauses.{where_last, elsewhere}
use Rattle.actx_ast.proofs.SideTries.{off, with_both, with_catch, with_last}
use Rattle.actx_ast.proofs.sides.+sides.Goals as goal

pub are_clauses-returns-then-is_default_last : goal.are_clauses-returns-then-is_default_last
are_clauses-returns-then-is_default_last m c =
    let cs = clauses_view c.args.clauses.now in
    where_last c.args.side cs c.is_each_clause.result (c.is_default_last.ensures.0 c.if-is_default_last.true) c.is_each_clause.ensures

pub are_clauses-returns-else-is_default_last : goal.are_clauses-returns-else-is_default_last
are_clauses-returns-else-is_default_last m c =
    let cs = clauses_view c.args.clauses.now in
    elsewhere c.args.side cs c.is_default_last.result c.is_default_last.ensures c.if-is_default_last.false

pub is_statement-returns-then-are_statements : goal.is_statement-returns-then-are_statements
is_statement-returns-then-are_statements m c =
    let side = c.args.side in
    let st = stmt_view c.args.stmt.now in
    let block = stmts_view c.in-Try-default-None-Some.block.items in
    let final = stmts_view c.in-Try-default-None-Some.last.items in
    let seen : st ≡ Try block no_catch (last final) = search (rules, the_lemmas) in
    let first : IsTrue c.are_statements-in-Try-default-None-Some.result ↔ StmtsOn side block = search (rules, the_lemmas) in
    let rest : IsTrue c.are_statements-then-are_statements.result ↔ StmtsOn side final = search (rules, the_lemmas) in
    with_last side st block final _ _ seen c.if-are_statements.true first rest

pub is_statement-returns-else-are_statements : goal.is_statement-returns-else-are_statements
is_statement-returns-else-are_statements m c =
    let side = c.args.side in
    let st = stmt_view c.args.stmt.now in
    let block = stmts_view c.in-Try-default-None-Some.block.items in
    let final = stmts_view c.in-Try-default-None-Some.last.items in
    let seen : st ≡ Try block no_catch (last final) = search (rules, the_lemmas) in
    let first : IsTrue c.are_statements-in-Try-default-None-Some.result ↔ StmtsOn side block = search (rules, the_lemmas) in
    off side st (Try block no_catch (last final)) _ (StmtsOn side block) seen c.if-are_statements.false first (λ p. p.0)

pub is_statement-returns-then-are_statements-2 : goal.is_statement-returns-then-are_statements-2
is_statement-returns-then-are_statements-2 m c =
    let side = c.args.side in
    let st = stmt_view c.args.stmt.now in
    let block = stmts_view c.in-Try-default-Some-None.block.items in
    let name = c.in-Try-default-Some-None.catcher.name in
    let caught = stmts_view c.in-Try-default-Some-None.catcher.body.items in
    let seen : st ≡ Try block (catch name caught) no_last = search (rules, the_lemmas) in
    let first : IsTrue c.are_statements-in-Try-default-Some-None.result ↔ StmtsOn side block = search (rules, the_lemmas) in
    let rest : IsTrue c.is_catch.result ↔ CatchOn side (catch name caught) = search (rules, the_lemmas) in
    with_catch side st block name caught _ _ seen c.if-are_statements-2.true first rest

pub is_statement-returns-else-are_statements-2 : goal.is_statement-returns-else-are_statements-2
is_statement-returns-else-are_statements-2 m c =
    let side = c.args.side in
    let st = stmt_view c.args.stmt.now in
    let block = stmts_view c.in-Try-default-Some-None.block.items in
    let name = c.in-Try-default-Some-None.catcher.name in
    let caught = stmts_view c.in-Try-default-Some-None.catcher.body.items in
    let seen : st ≡ Try block (catch name caught) no_last = search (rules, the_lemmas) in
    let first : IsTrue c.are_statements-in-Try-default-Some-None.result ↔ StmtsOn side block = search (rules, the_lemmas) in
    off side st (Try block (catch name caught) no_last) _ (StmtsOn side block) seen c.if-are_statements-2.false first (λ p. p.0)

pub is_statement-returns-then-is_catch : goal.is_statement-returns-then-is_catch
is_statement-returns-then-is_catch m c =
    let side = c.args.side in
    let st = stmt_view c.args.stmt.now in
    let block = stmts_view c.in-Try-default-Some-Some.block.items in
    let name = c.in-Try-default-Some-Some.catcher.name in
    let caught = stmts_view c.in-Try-default-Some-Some.catcher.body.items in
    let final = stmts_view c.in-Try-default-Some-Some.last.items in
    let seen : st ≡ Try block (catch name caught) (last final) = search (rules, the_lemmas) in
    let first : IsTrue c.are_statements-in-Try-default-Some-Some.result ↔ StmtsOn side block = search (rules, the_lemmas) in
    let middle : IsTrue c.is_catch-then-are_statements-3.result ↔ CatchOn side (catch name caught) = search (rules, the_lemmas) in
    let rest : IsTrue c.are_statements-then-is_catch.result ↔ StmtsOn side final = search (rules, the_lemmas) in
    with_both side st block name caught final _ _ _ seen c.if-are_statements-3.true c.if-is_catch.true first middle rest

pub is_statement-returns-else-is_catch : goal.is_statement-returns-else-is_catch
is_statement-returns-else-is_catch m c =
    let side = c.args.side in
    let st = stmt_view c.args.stmt.now in
    let block = stmts_view c.in-Try-default-Some-Some.block.items in
    let name = c.in-Try-default-Some-Some.catcher.name in
    let caught = stmts_view c.in-Try-default-Some-Some.catcher.body.items in
    let final = stmts_view c.in-Try-default-Some-Some.last.items in
    let seen : st ≡ Try block (catch name caught) (last final) = search (rules, the_lemmas) in
    let middle : IsTrue c.is_catch-then-are_statements-3.result ↔ CatchOn side (catch name caught) = search (rules, the_lemmas) in
    off side st (Try block (catch name caught) (last final)) _ (CatchOn side (catch name caught)) seen c.if-is_catch.false middle (λ p. p.1)

pub is_statement-returns-else-are_statements-3 : goal.is_statement-returns-else-are_statements-3
is_statement-returns-else-are_statements-3 m c =
    let side = c.args.side in
    let st = stmt_view c.args.stmt.now in
    let block = stmts_view c.in-Try-default-Some-Some.block.items in
    let name = c.in-Try-default-Some-Some.catcher.name in
    let caught = stmts_view c.in-Try-default-Some-Some.catcher.body.items in
    let final = stmts_view c.in-Try-default-Some-Some.last.items in
    let seen : st ≡ Try block (catch name caught) (last final) = search (rules, the_lemmas) in
    let first : IsTrue c.are_statements-in-Try-default-Some-Some.result ↔ StmtsOn side block = search (rules, the_lemmas) in
    off side st (Try block (catch name caught) (last final)) _ (StmtsOn side block) seen c.if-are_statements-3.false first (λ p. p.0)
