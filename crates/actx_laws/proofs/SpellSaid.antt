-- Trees that their own tokens spell, from any place, at any level and behind any line, within their own depth.
use Rattle.std.proofs.Common.{ℕ, max, Bool, List, ◌∷◌, ◌++◌, Option}
use Rattle.actx_grammar.specs.declared.operators.LogicOp.TheVariants.{Or, Coalesce}
use Rattle.actx_grammar.specs.declared.side.Side.{Side}
use Rattle.actx_grammar.specs.declared.token.Sign.TheVariants as g
use Rattle.actx_grammar.specs.declared.token.TokenKind.{TokenKind}
use Rattle.actx_grammar.specs.declared.token.TokenKind.TheVariants as t
use Rattle.actx_grammar.specs.Layout.{laid_from}
use Rattle.actx_grammar.specs.Tree.{Expr, Exprs, MaybeExpr, Key, PropKey, Properties, LetItems, ConstItems, Init, Stmt, Catch, Clauses, Stmts, Logic}
use Rattle.actx_grammar.specs.Grammar.{Spells, SpellsOr, SpellsCoalesce, SpellsKey, SpellsArguments, SpellsList, SpellsPropKey, SpellsProperty, SpellsProperties, SpellsSome, SpellsLet, SpellsLets, SpellsConsts, SpellsMaybe, SpellsInit, SpellsStmt, SpellsBlock, SpellsBody, SpellsCatch, SpellsClauses, SpellsStmts}
use Rattle.actx_grammar.specs.Spell.{Start, round, braced, left_level, spell, spell_key, spell_list, spell_prop_key, spell_properties, spell_maybe, spell_let, spell_lets, spell_consts, spell_init, spell_stmt, spell_catch, spell_clauses, spell_program, inner}
use Rattle.actx_grammar.specs.Depth.{depth, depth_key, depth_list, depth_prop_key, depth_properties, depth_maybe, depth_lets, depth_consts, depth_init, depth_stmt, depth_catch, depth_clauses, depth_program}

abbrev pub Said : Side → Option ℕ → Expr → Type 0
Said side most e = (b : Bool) (st : Start) (m : ℕ) → Spells side most m (depth st e m) e (laid_from b (spell st e m))

-- CHAINS, whose left operand may be one too
abbrev pub or_row : Start → Expr → Expr → ℕ → List TokenKind
or_row st e f j = spell st e j ++ t.Sign g.Or ∷ spell inner f 4

abbrev pub or_depth : Start → Expr → Expr → ℕ → ℕ
or_depth st e f j = max (depth st e j) (depth inner f 4)

abbrev pub OrSaid : Side → Option ℕ → Expr → Expr → Type 0
OrSaid side most e f = (b : Bool) (st : Start) → SpellsOr side most (or_depth st e f (left_level Or e)) e f (laid_from b (or_row st e f (left_level Or e)))

abbrev pub coalesce_row : Start → Expr → Expr → ℕ → List TokenKind
coalesce_row st e f j = spell st e j ++ t.Sign g.Coalesce ∷ spell inner f 5

abbrev pub coalesce_depth : Start → Expr → Expr → ℕ → ℕ
coalesce_depth st e f j = max (depth st e j) (depth inner f 5)

abbrev pub CoalesceSaid : Side → Option ℕ → Expr → Expr → Type 0
CoalesceSaid side most e f = (b : Bool) (st : Start) → SpellsCoalesce side most (coalesce_depth st e f (left_level Coalesce e)) e f (laid_from b (coalesce_row st e f (left_level Coalesce e)))

abbrev pub Chained : Side → Option ℕ → Expr → Type 0
Chained side most (Logic Or e f) = OrSaid side most e f
Chained side most (Logic Coalesce e f) = CoalesceSaid side most e f
Chained side most _ = Unit {0}

pub record Exact (side : Side) (most : Option ℕ) (e : Expr) : Type 0 where
  pub said : Said side most e
  pub chained : Chained side most e

-- PARTS OF EXPRESSIONS
abbrev pub KeySaid : Side → Option ℕ → Key → Type 0
KeySaid side most key = (b : Bool) → SpellsKey side most (depth_key key) key (laid_from b (spell_key key))

abbrev pub ListSaid : Side → Option ℕ → Exprs → Type 0
ListSaid side most es = (b : Bool) → SpellsList side most (depth_list es) es (laid_from b (spell_list es))

abbrev pub ArgumentsSaid : Side → Option ℕ → Exprs → Type 0
ArgumentsSaid side most es = (b : Bool) → SpellsArguments side most (depth_list es) es (laid_from b (round (spell_list es)))

abbrev pub PropKeySaid : Side → Option ℕ → PropKey → Type 0
PropKeySaid side most key = (b : Bool) → SpellsPropKey side most (depth_prop_key key) key (laid_from b (spell_prop_key key))

abbrev pub property_row : PropKey → Expr → List TokenKind
property_row key e = spell_prop_key key ++ t.Sign g.Colon ∷ spell inner e 1

abbrev pub PropertySaid : Side → Option ℕ → PropKey → Expr → Type 0
PropertySaid side most key e = (b : Bool) → SpellsProperty side most (max (depth_prop_key key) (depth inner e 1)) key e (laid_from b (property_row key e))

abbrev pub SomeSaid : Side → Option ℕ → Properties → Type 0
SomeSaid side most ps = (b : Bool) → SpellsSome side most (depth_properties ps) ps (laid_from b (spell_properties ps))

abbrev pub PropertiesSaid : Side → Option ℕ → Properties → Type 0
PropertiesSaid side most ps = (b : Bool) → SpellsProperties side most (depth_properties ps) ps (laid_from b (spell_properties ps))

-- PARTS OF STATEMENTS
abbrev pub let_row : List ℕ → MaybeExpr → List TokenKind
let_row x v = t.Name x ∷ spell_let v

abbrev pub LetSaid : Side → Option ℕ → List ℕ → MaybeExpr → Type 0
LetSaid side most x v = (b : Bool) → SpellsLet side most (depth_maybe v) x v (laid_from b (let_row x v))

abbrev pub LetsSaid : Side → Option ℕ → LetItems → Type 0
LetsSaid side most is = (b : Bool) → SpellsLets side most (depth_lets is) is (laid_from b (spell_lets is))

abbrev pub ConstsSaid : Side → Option ℕ → ConstItems → Type 0
ConstsSaid side most is = (b : Bool) → SpellsConsts side most (depth_consts is) is (laid_from b (spell_consts is))

abbrev pub MaybeSaid : Side → Option ℕ → MaybeExpr → Type 0
MaybeSaid side most v = (b : Bool) → SpellsMaybe side most (depth_maybe v) v (laid_from b (spell_maybe v))

abbrev pub InitSaid : Side → Option ℕ → Init → Type 0
InitSaid side most i = (b : Bool) → SpellsInit side most (depth_init i) i (laid_from b (spell_init i))

abbrev pub StmtSaid : Side → Option ℕ → Stmt → Type 0
StmtSaid side most st = (b : Bool) → SpellsStmt side most (depth_stmt st) st (laid_from b (spell_stmt st))

abbrev pub BodySaid : Side → Option ℕ → Stmt → Type 0
BodySaid side most st = (b : Bool) → SpellsBody side most (depth_stmt st) st (laid_from b (spell_stmt st))

abbrev pub StmtsSaid : Side → Option ℕ → Stmts → Type 0
StmtsSaid side most ss = (b : Bool) → SpellsStmts side most (depth_program ss) ss (laid_from b (spell_program ss))

abbrev pub BlockSaid : Side → Option ℕ → Stmts → Type 0
BlockSaid side most ss = (b : Bool) → SpellsBlock side most (depth_program ss) ss (laid_from b (braced (spell_program ss)))

abbrev pub CatchSaid : Side → Option ℕ → Catch → Type 0
CatchSaid side most c = (b : Bool) → SpellsCatch side most (depth_catch c) c (laid_from b (spell_catch c))

abbrev pub ClausesSaid : Side → Option ℕ → Clauses → Type 0
ClausesSaid side most cs = (b : Bool) → SpellsClauses side most (depth_clauses cs) cs (laid_from b (spell_clauses cs))
