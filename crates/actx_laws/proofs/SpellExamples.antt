-- Some programs and the tokens that are printed for them.
use Rattle.std.proofs.Common.{◌≡◌, true, false, [], ◌∷◌, None, refl, codes}
use Rattle.actx_grammar.specs.declared.operators.BinaryOp.TheVariants as o
use Rattle.actx_grammar.specs.declared.operators.Form.TheVariants as f
use Rattle.actx_grammar.specs.declared.operators.FunctionKind.TheVariants.{Normal, Arrow}
use Rattle.actx_grammar.specs.declared.operators.LogicOp.TheVariants.{And, Or, Coalesce}
use Rattle.actx_grammar.specs.declared.token.Keyword.TheVariants as k
use Rattle.actx_grammar.specs.declared.token.Sign.TheVariants as g
use Rattle.actx_grammar.specs.declared.token.TokenKind.{TokenKind}
use Rattle.actx_grammar.specs.declared.token.TokenKind.TheVariants as t
use Rattle.actx_grammar.specs.Layout.{laid}
use Rattle.actx_grammar.specs.Lexemes.{sign, keyword, lexeme}
use Rattle.actx_grammar.specs.Tree.{Expr, Stmts, Num, Named, Binary, Logic, SetName, SetMember, Member, Call, Object, Function, Built, none, also, some_expr, Dot, Index, Fixed, Computed, no_properties, property, code, Block, If, Return, Value, no_stmt, end, next}
use Rattle.actx_grammar.specs.Spell.{spell, spell_program, inner}
use Rattle.actx_grammar.specs.Depth.{depth_program}

abbrev plus : Expr → Expr → Expr
plus e f = Binary o.Add e f

abbrev times : Expr → Expr → Expr
times e f = Binary o.Mul e f

abbrev program : Expr → Stmts
program e = next (Value e) end

abbrev name_a : TokenKind
name_a = t.Name (codes "a")

abbrev name_b : TokenKind
name_b = t.Name (codes "b")

abbrev name_c : TokenKind
name_c = t.Name (codes "c")

abbrev tree_a : Expr
tree_a = Named (codes "a")

abbrev tree_b : Expr
tree_b = Named (codes "b")

abbrev tree_c : Expr
tree_c = Named (codes "c")

-- OPERATORS
-- console.log(1 + 2 * 3);
operators : spell_program (program (Built f.Log (also (plus (Num 1) (times (Num 2) (Num 3))) none))) ≡ t.Name (codes "console") ∷ t.Sign g.Dot ∷ t.Name (codes "log") ∷ t.Sign g.OpenParen ∷ t.Number 1 ∷ t.Sign g.Plus ∷ t.Number 2 ∷ t.Sign g.Star ∷ t.Number 3 ∷ t.Sign g.CloseParen ∷ t.Sign g.Semicolon ∷ []
operators = refl

-- (a + b) * c
sum_first : spell inner (times (plus tree_a tree_b) tree_c) 1 ≡ t.Sign g.OpenParen ∷ name_a ∷ t.Sign g.Plus ∷ name_b ∷ t.Sign g.CloseParen ∷ t.Sign g.Star ∷ name_c ∷ []
sum_first = refl

-- a + b + c and a + (b + c)
left_sum : spell inner (plus (plus tree_a tree_b) tree_c) 1 ≡ name_a ∷ t.Sign g.Plus ∷ name_b ∷ t.Sign g.Plus ∷ name_c ∷ []
left_sum = refl

right_sum : spell inner (plus tree_a (plus tree_b tree_c)) 1 ≡ name_a ∷ t.Sign g.Plus ∷ t.Sign g.OpenParen ∷ name_b ∷ t.Sign g.Plus ∷ name_c ∷ t.Sign g.CloseParen ∷ []
right_sum = refl

-- CHAINS
-- a || b || c and a || (b || c)
or_chain : spell inner (Logic Or (Logic Or tree_a tree_b) tree_c) 1 ≡ name_a ∷ t.Sign g.Or ∷ name_b ∷ t.Sign g.Or ∷ name_c ∷ []
or_chain = refl

or_inside : spell inner (Logic Or tree_a (Logic Or tree_b tree_c)) 1 ≡ name_a ∷ t.Sign g.Or ∷ t.Sign g.OpenParen ∷ name_b ∷ t.Sign g.Or ∷ name_c ∷ t.Sign g.CloseParen ∷ []
or_inside = refl

-- (a ?? b) || c and (a || b) ?? c
coalesce_in_or : spell inner (Logic Or (Logic Coalesce tree_a tree_b) tree_c) 1 ≡ t.Sign g.OpenParen ∷ name_a ∷ t.Sign g.Coalesce ∷ name_b ∷ t.Sign g.CloseParen ∷ t.Sign g.Or ∷ name_c ∷ []
coalesce_in_or = refl

or_in_coalesce : spell inner (Logic Coalesce (Logic Or tree_a tree_b) tree_c) 1 ≡ t.Sign g.OpenParen ∷ name_a ∷ t.Sign g.Or ∷ name_b ∷ t.Sign g.CloseParen ∷ t.Sign g.Coalesce ∷ name_c ∷ []
or_in_coalesce = refl

-- a && b || c and (a && b) ?? c
and_in_or : spell inner (Logic Or (Logic And tree_a tree_b) tree_c) 1 ≡ name_a ∷ t.Sign g.And ∷ name_b ∷ t.Sign g.Or ∷ name_c ∷ []
and_in_or = refl

and_in_coalesce : spell inner (Logic Coalesce (Logic And tree_a tree_b) tree_c) 1 ≡ t.Sign g.OpenParen ∷ name_a ∷ t.Sign g.And ∷ name_b ∷ t.Sign g.CloseParen ∷ t.Sign g.Coalesce ∷ name_c ∷ []
and_in_coalesce = refl

-- THE START OF A STATEMENT
-- ({});
object_first : spell_program (program (Object no_properties)) ≡ t.Sign g.OpenParen ∷ t.Sign g.OpenBrace ∷ t.Sign g.CloseBrace ∷ t.Sign g.CloseParen ∷ t.Sign g.Semicolon ∷ []
object_first = refl

-- ({}).a = b;
object_deep : spell_program (program (SetMember (Object no_properties) (Dot (codes "a")) tree_b)) ≡ t.Sign g.OpenParen ∷ t.Sign g.OpenBrace ∷ t.Sign g.CloseBrace ∷ t.Sign g.CloseParen ∷ t.Sign g.Dot ∷ name_a ∷ t.Sign g.Assign ∷ name_b ∷ t.Sign g.Semicolon ∷ []
object_deep = refl

-- ({} + a) * b; has no parentheses round the object, since those round the sum stand first
object_inside : spell_program (program (times (plus (Object no_properties) tree_a) tree_b)) ≡ t.Sign g.OpenParen ∷ t.Sign g.OpenBrace ∷ t.Sign g.CloseBrace ∷ t.Sign g.Plus ∷ name_a ∷ t.Sign g.CloseParen ∷ t.Sign g.Star ∷ name_b ∷ t.Sign g.Semicolon ∷ []
object_inside = refl

-- a = {};
object_behind : spell_program (program (SetName (codes "a") (Object no_properties))) ≡ name_a ∷ t.Sign g.Assign ∷ t.Sign g.OpenBrace ∷ t.Sign g.CloseBrace ∷ t.Sign g.Semicolon ∷ []
object_behind = refl

-- (function () {})();
function_first : spell_program (program (Call (Function (code None Normal [] end)) none)) ≡ t.Sign g.OpenParen ∷ t.Keyword k.Function ∷ t.Sign g.OpenParen ∷ t.Sign g.CloseParen ∷ t.Sign g.OpenBrace ∷ t.Sign g.CloseBrace ∷ t.Sign g.CloseParen ∷ t.Sign g.OpenParen ∷ t.Sign g.CloseParen ∷ t.Sign g.Semicolon ∷ []
function_first = refl

-- (a, b) => {};
arrow_first : spell_program (program (Function (code None Arrow (codes "a" ∷ codes "b" ∷ []) end))) ≡ t.Sign g.OpenParen ∷ name_a ∷ t.Sign g.Comma ∷ name_b ∷ t.Sign g.CloseParen ∷ t.Sign g.Arrow ∷ t.Sign g.OpenBrace ∷ t.Sign g.CloseBrace ∷ t.Sign g.Semicolon ∷ []
arrow_first = refl

-- an arrow whose body is an object: () => { return {}; }
arrow_object : spell inner (Function (code None Arrow [] (next (Return (some_expr (Object no_properties))) end))) 1 ≡ t.Sign g.OpenParen ∷ t.Sign g.CloseParen ∷ t.Sign g.Arrow ∷ t.Sign g.OpenBrace ∷ t.Keyword k.Return ∷ t.Sign g.OpenBrace ∷ t.Sign g.CloseBrace ∷ t.Sign g.Semicolon ∷ t.Sign g.CloseBrace ∷ []
arrow_object = refl

-- (() => {})()
arrow_called : spell inner (Call (Function (code None Arrow [] end)) none) 1 ≡ t.Sign g.OpenParen ∷ t.Sign g.OpenParen ∷ t.Sign g.CloseParen ∷ t.Sign g.Arrow ∷ t.Sign g.OpenBrace ∷ t.Sign g.CloseBrace ∷ t.Sign g.CloseParen ∷ t.Sign g.OpenParen ∷ t.Sign g.CloseParen ∷ []
arrow_called = refl

-- KEYS
-- a.return(b, c)
reserved_key : spell inner (Call (Member tree_a (Dot (codes "return"))) (also tree_b (also tree_c none))) 1 ≡ name_a ∷ t.Sign g.Dot ∷ t.Keyword k.Return ∷ t.Sign g.OpenParen ∷ name_b ∷ t.Sign g.Comma ∷ name_c ∷ t.Sign g.CloseParen ∷ []
reserved_key = refl

-- a.b and a[b]
two_keys : spell inner (Member (Member tree_a (Dot (codes "b"))) (Index tree_b)) 1 ≡ name_a ∷ t.Sign g.Dot ∷ name_b ∷ t.Sign g.OpenBracket ∷ name_b ∷ t.Sign g.CloseBracket ∷ []
two_keys = refl

-- {"a": a, [b]: c}
properties : spell inner (Object (property (Fixed (codes "a")) tree_a (property (Computed tree_b) tree_c no_properties))) 1 ≡ t.Sign g.OpenBrace ∷ t.Text (codes "a") ∷ t.Sign g.Colon ∷ name_a ∷ t.Sign g.Comma ∷ t.Sign g.OpenBracket ∷ name_b ∷ t.Sign g.CloseBracket ∷ t.Sign g.Colon ∷ name_c ∷ t.Sign g.CloseBrace ∷ []
properties = refl

-- LINES AND DEPTHS
-- if (a) { b; }
abbrev branch : Stmts
branch = next (If tree_a (Block (program tree_b)) no_stmt) end

-- a line ends behind the brace and the semicolon
lines : laid (spell_program branch) ≡ keyword k.If false ∷ sign g.OpenParen false ∷ lexeme name_a false ∷ sign g.CloseParen false ∷ sign g.OpenBrace false ∷ lexeme name_b true ∷ sign g.Semicolon false ∷ sign g.CloseBrace true ∷ []
lines = refl

-- the if, the block, the statement in it and its expression
levels : depth_program branch ≡ 4
levels = refl

-- a * (b + c); is a statement, a product, parentheses, a sum and a name
parentheses_count : depth_program (program (times tree_a (plus tree_b tree_c))) ≡ 5
parentheses_count = refl

-- and a * b * c; a statement, two products and a name
products : depth_program (program (times (times tree_a tree_b) tree_c)) ≡ 4
products = refl
