-- Keys, arguments, properties and items are spelled by their own tokens where their expressions are.
use Rattle.std.proofs.Common.{◌≡◌, ℕ, max, false, List, ◌∷◌, Option, Some, None, refl, append-nil, arith, codes}
use Rattle.actx_grammar.specs.declared.operators.FunctionKind.{FunctionKind}
use Rattle.actx_grammar.specs.declared.operators.FunctionKind.TheVariants.{Normal, Generator, Async}
use Rattle.actx_grammar.specs.declared.side.Side.{Side}
use Rattle.actx_grammar.specs.declared.token.Sign.TheVariants as g
use Rattle.actx_grammar.specs.declared.token.TokenKind.{TokenKind}
use Rattle.actx_grammar.specs.declared.token.TokenKind.TheVariants as t
use Rattle.actx_grammar.specs.Lexemes.{Lexeme, lexeme}
use Rattle.actx_grammar.specs.Names.{IsBinding, word_of, IsKey, key_of}
use Rattle.actx_grammar.specs.Words.{IsName, HasForm}
use Rattle.actx_grammar.specs.Tree.{Expr, Exprs, MaybeExpr, PropKey, Properties, LetItems, ConstItems, Stmts, Function, none, also, no_expr, some_expr, Dot, Index, Fixed, Computed, no_properties, property, code, no_lets, let_item, no_consts, const_item}
use Rattle.actx_grammar.specs.Grammar.{Allows, count, with_last, with_let, with_const, with_property, SpellsMethodHead, sp_normal, sp_generator, sp_async, sp_method_head, sp_generator_head, sp_async_head, sp_dot, sp_index, sp_arguments, sp_one, sp_more, sp_fixed, sp_computed, sp_key_value, sp_properties, sp_one_property, sp_more_properties, sp_let_alone, sp_let_value, sp_one_let, sp_more_lets, sp_one_const, sp_more_consts}
use Rattle.actx_grammar.specs.Spell.{word_token, spell, spell_list, spell_prop_key, spell_properties, spell_let, spell_lets, spell_consts, inner}
use Rattle.actx_grammar.specs.Depth.{depth, depth_list, depth_prop_key, depth_properties, depth_maybe, depth_lets, depth_consts}
use Rattle.actx_laws.proofs.SpellDeeper.{deeper, deeper_list, deeper_prop_key, deeper_property, deeper_some, deeper_let, deeper_lets, deeper_consts}
use Rattle.actx_laws.proofs.SpellLaid.{after, laid_append, laid_round, laid_square}
use Rattle.actx_laws.proofs.SpellNames.{word_again, word_formed, plain_name, key_formed}
use Rattle.actx_laws.proofs.SpellSaid.{Said, KeySaid, ListSaid, ArgumentsSaid, PropKeySaid, property_row, PropertySaid, SomeSaid, PropertiesSaid, let_row, LetSaid, LetsSaid, ConstsSaid, StmtsSaid}
use Rattle.actx_laws.proofs.SpellLasts.{empty, no_property, no_let, no_const, list_last, list_holds, properties_last, properties_hold, lets_last, lets_hold, consts_last, consts_hold}
use Rattle.actx_laws.proofs.SpellHeads.{ParamsSaid, function_exact}

-- KEYS
pub dot_said : {side : Side} {most : Option ℕ} (u : TokenKind) (x : List ℕ) → word_of u ≡ Some x → HasForm u → IsKey side x → KeySaid side most (Dot x)
dot_said u x q h k b = sp_dot {w = lexeme (word_token x) false} (word_again x) (word_formed u x q h) k

pub index_said : {side : Side} {most : Option ℕ} (e : Expr) → Said side most e → KeySaid side most (Index e)
index_said e p b = rw (laid_square b (spell inner e 1)) (sp_index b (after false (spell inner e 1)) (p false inner 1))

pub fixed_said : {side : Side} {most : Option ℕ} (w : TokenKind) (u : List ℕ) → HasForm w → key_of w ≡ Some u → PropKeySaid side most (Fixed u)
fixed_said w u h q b = sp_fixed {w = lexeme (t.Text u) b} (key_formed w u h q) refl

pub computed_said : {side : Side} {most : Option ℕ} (e : Expr) → Said side most e → PropKeySaid side most (Computed e)
computed_said e p b = rw (laid_square b (spell inner e 1)) (sp_computed b (after false (spell inner e 1)) (p false inner 1))

-- EXPRESSIONS
pub one_said : {side : Side} {most : Option ℕ} (e : Expr) → Said side most e → ListSaid side most (also e none)
one_said {side} {most} e p b = rw (append-nil (spell inner e 1)) (sp_one {d = max (depth inner e 1) 0} (deeper (p b inner 1) (omega arith)))

pub list_grows : {side : Side} {most : Option ℕ} (es : Exprs) (e : Expr) → empty es ≡ false → ListSaid side most es → Said side most e → ListSaid side most (with_last es e)
list_grows {side} {most} es e some ps p b =
    rw (list_holds es e) (rw (list_last es e some) (rw (laid_append b (spell_list es) (t.Sign g.Comma ∷ spell inner e 1))
    (sp_more {d = max (depth_list es) (depth inner e 1)} (after b (spell_list es)) (deeper_list (ps b) (omega arith)) (deeper (p false inner 1) (omega arith)))))

pub arguments_said : {side : Side} {most : Option ℕ} (es : Exprs) → ListSaid side most es → Allows most (count es) → ArgumentsSaid side most es
arguments_said es p a b = rw (laid_round b (spell_list es)) (sp_arguments b (after false (spell_list es)) (p false) a)

-- PROPERTIES
pub property_said : {side : Side} {most : Option ℕ} (key : PropKey) (e : Expr) → PropKeySaid side most key → Said side most e → PropertySaid side most key e
property_said {side} {most} key e q p b =
    rw (laid_append b (spell_prop_key key) (t.Sign g.Colon ∷ spell inner e 1))
    (sp_key_value {d = max (depth_prop_key key) (depth inner e 1)} (after b (spell_prop_key key)) (deeper_prop_key (q b) (omega arith)) (deeper (p false inner 1) (omega arith)))

pub one_property_said : {side : Side} {most : Option ℕ} (key : PropKey) (e : Expr) → PropertySaid side most key e → SomeSaid side most (property key e no_properties)
one_property_said {side} {most} key e p b = rw (append-nil (spell inner e 1)) (sp_one_property {d = max (max (depth_prop_key key) (depth inner e 1)) 0} (deeper_property (p b) (omega arith)))

pub properties_grow : {side : Side} {most : Option ℕ} (ps : Properties) (key : PropKey) (e : Expr) → no_property ps ≡ false → SomeSaid side most ps → PropertySaid side most key e → SomeSaid side most (with_property ps key e)
properties_grow {side} {most} ps key e some os p b =
    rw (properties_hold ps key e) (rw (properties_last ps key e some) (rw (laid_append b (spell_properties ps) (t.Sign g.Comma ∷ property_row key e))
    (sp_more_properties {d = max (depth_properties ps) (max (depth_prop_key key) (depth inner e 1))} (after b (spell_properties ps)) (deeper_some (os b) (omega arith)) (deeper_property (p false) (omega arith)))))

pub some_said : {side : Side} {most : Option ℕ} (ps : Properties) → SomeSaid side most ps → PropertiesSaid side most ps
some_said ps p b = sp_properties (p b)

-- a method is a key with a function
pub method_said : {side : Side} {most : Option ℕ} {kind : FunctionKind} {x : List Lexeme} (key : PropKey) (xs : List (List ℕ)) (ss : Stmts) → SpellsMethodHead side kind x → PropKeySaid side most key → ParamsSaid side most xs → StmtsSaid side most ss → PropertySaid side most key (Function (code None kind xs ss))
method_said key xs ss sp_method_head q ps p = property_said key (Function (code None Normal xs ss)) q ((function_exact xs ss (sp_normal {b = false}) ps p).said)
method_said key xs ss (sp_generator_head s) q ps p = property_said key (Function (code None Generator xs ss)) q ((function_exact xs ss (sp_generator {b = false} {c = false} s) ps p).said)
method_said key xs ss (sp_async_head s) q ps p = property_said key (Function (code None Async xs ss)) q ((function_exact xs ss (sp_async {b = false} s) ps p).said)

pub undefined_name : IsName (codes "undefined")
undefined_name = plain_name 117 (codes "ndefined") refl refl refl

pub undefined_key : {side : Side} {most : Option ℕ} → PropKeySaid side most (Fixed (codes "undefined"))
undefined_key = fixed_said (t.Name (codes "undefined")) (codes "undefined") undefined_name refl

-- ITEMS
pub let_alone_said : {side : Side} {most : Option ℕ} (x : List ℕ) → IsBinding side x → LetSaid side most x no_expr
let_alone_said x h b = sp_let_alone h

pub let_value_said : {side : Side} {most : Option ℕ} (x : List ℕ) (e : Expr) → IsBinding side x → Said side most e → LetSaid side most x (some_expr e)
let_value_said x e h p b = sp_let_value h (p false inner 1)

pub one_let_said : {side : Side} {most : Option ℕ} (x : List ℕ) (v : MaybeExpr) → LetSaid side most x v → LetsSaid side most (let_item x v no_lets)
one_let_said {side} {most} x v p b = rw (append-nil (spell_let v)) (sp_one_let {d = max (depth_maybe v) 0} (deeper_let (p b) (omega arith)))

pub lets_grow : {side : Side} {most : Option ℕ} (is : LetItems) (x : List ℕ) (v : MaybeExpr) → no_let is ≡ false → LetsSaid side most is → LetSaid side most x v → LetsSaid side most (with_let is x v)
lets_grow {side} {most} is x v some ps p b =
    rw (lets_hold is x v) (rw (lets_last is x v some) (rw (laid_append b (spell_lets is) (t.Sign g.Comma ∷ let_row x v))
    (sp_more_lets {d = max (depth_lets is) (depth_maybe v)} (after b (spell_lets is)) (deeper_lets (ps b) (omega arith)) (deeper_let (p false) (omega arith)))))

pub one_const_said : {side : Side} {most : Option ℕ} (x : List ℕ) (e : Expr) → IsBinding side x → Said side most e → ConstsSaid side most (const_item x e no_consts)
one_const_said {side} {most} x e h p b = rw (append-nil (spell inner e 1)) (sp_one_const {d = max (depth inner e 1) 0} h (deeper (p false inner 1) (omega arith)))

pub consts_grow : {side : Side} {most : Option ℕ} (is : ConstItems) (x : List ℕ) (e : Expr) → no_const is ≡ false → ConstsSaid side most is → IsBinding side x → Said side most e → ConstsSaid side most (with_const is x e)
consts_grow {side} {most} is x e some ps h p b =
    rw (consts_hold is x e) (rw (consts_last is x e some) (rw (laid_append b (spell_consts is) (t.Sign g.Comma ∷ t.Name x ∷ t.Sign g.Assign ∷ spell inner e 1))
    (sp_more_consts {d = max (depth_consts is) (depth inner e 1)} (after b (spell_consts is)) false false (deeper_consts (ps b) (omega arith)) h (deeper (p false inner 1) (omega arith)))))
