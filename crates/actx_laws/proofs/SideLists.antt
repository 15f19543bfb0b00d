-- One more part is spelled at the beginning of a list.
use Rattle.std.proofs.Common.{◌≡◌, ℕ, max, Bool, false, List, [], ◌∷◌, ◌++◌, Option, None, All, sym, subst, append_assoc, arith}
use Rattle.std.proofs.lemmas.List.Elements.{All-head, All-tail}
use Rattle.actx_grammar.specs.declared.side.Side.{Side}
use Rattle.actx_grammar.specs.declared.token.Sign.TheVariants as g
use Rattle.actx_grammar.specs.declared.token.TokenKind.{TokenKind}
use Rattle.actx_grammar.specs.declared.token.TokenKind.TheVariants as t
use Rattle.actx_grammar.specs.Layout.{laid_from}
use Rattle.actx_grammar.specs.Lexemes.{Lexeme, sign, lexeme}
use Rattle.actx_grammar.specs.Names.{IsBinding}
use Rattle.actx_grammar.specs.Tree.{Expr, Exprs, MaybeExpr, PropKey, Properties, LetItems, ConstItems, also, property, let_item, const_item}
use Rattle.actx_grammar.specs.Grammar.{with_last, with_let, with_const, with_property, Spells, SpellsNames, SpellsList, SpellsProperty, SpellsSome, SpellsLet, SpellsLets, SpellsConsts, sp_one_name, sp_more_names, sp_no_params, sp_params, sp_one, sp_more, sp_one_property, sp_more_properties, sp_one_let, sp_more_lets, sp_one_const, sp_more_consts}
use Rattle.actx_grammar.specs.Spell.{spell, spell_names, spell_list, spell_prop_key, spell_properties, spell_lets, spell_consts, inner}
use Rattle.actx_grammar.specs.Depth.{depth, depth_list, depth_prop_key, depth_properties, depth_maybe, depth_lets, depth_consts}
use Rattle.actx_laws.proofs.SpellDeeper.{deeper, deeper_list, deeper_property, deeper_some, deeper_let, deeper_lets, deeper_consts}
use Rattle.actx_laws.proofs.SpellHeads.{ParamsSaid}
use Rattle.actx_laws.proofs.SpellLaid.{after, laid_append, laid_round}
use Rattle.actx_laws.proofs.SpellSaid.{Said, ListSaid, property_row, PropertySaid, SomeSaid, let_row, LetSaid, LetsSaid, ConstsSaid}

-- tokens, a comma, and more tokens with one behind them
regrouped : (x y z : List Lexeme) (w v : Lexeme) → (x ++ w ∷ y) ++ v ∷ z ≡ x ++ w ∷ (y ++ v ∷ z)
regrouped x y z w v = append_assoc x (w ∷ y) (v ∷ z)

-- NAMES
names_front : {side : Side} {x : List ℕ} {xs : List (List ℕ)} {y : List Lexeme} (b c : Bool) → IsBinding side x → SpellsNames side xs y → SpellsNames side (x ∷ xs) (lexeme (t.Name x) b ∷ sign g.Comma c ∷ y)
names_front b c h (sp_one_name i) = sp_more_names c _ (sp_one_name h) i
names_front b c h (sp_more_names f j n i) = sp_more_names f j (names_front b c h n) i

abbrev NamesSaid : Side → List (List ℕ) → Type 0
NamesSaid side xs = (b : Bool) → SpellsNames side xs (laid_from b (spell_names xs))

names_said : (side : Side) (x : List ℕ) (xs : List (List ℕ)) → All (IsBinding side) (x ∷ xs) → NamesSaid side (x ∷ xs)
names_said side x [] a b = sp_one_name (All-head (IsBinding side) x [] a)
names_said side x (z ∷ xs) a b = names_front b false (All-head (IsBinding side) x (z ∷ xs) a) (names_said side z xs (All-tail (IsBinding side) x (z ∷ xs) a) false)

pub params_spelled : (side : Side) (xs : List (List ℕ)) → All (IsBinding side) xs → ParamsSaid side None xs
params_spelled side [] a b = sp_no_params
params_spelled side (x ∷ xs) a b = rw (laid_round b (spell_names (x ∷ xs))) (sp_params b (after false (spell_names (x ∷ xs))) (names_said side x xs a false) tt)

-- EXPRESSIONS
list_front : {side : Side} {most : Option ℕ} {d : ℕ} {e : Expr} {es : Exprs} {x y : List Lexeme} (b : Bool) → Spells side most 1 d e x → SpellsList side most d es y → SpellsList side most d (also e es) (x ++ sign g.Comma b ∷ y)
list_front b p (sp_one q) = sp_more b (sp_one p) q
list_front {side} {most} {d} {e = e} {x = x} b p (sp_more {es = es} {e = v} {x = y} {y = z} c qs q) =
    subst (SpellsList side most d (with_last (also e es) v)) (regrouped x y z (sign g.Comma b) (sign g.Comma c)) (sp_more c (list_front b p qs) q)

pub list_begins : {side : Side} {most : Option ℕ} (e v : Expr) (es : Exprs) → Said side most e → ListSaid side most (also v es) → ListSaid side most (also e (also v es))
list_begins {side} {most} e v es p ps b =
    rw (laid_append b (spell inner e 1) (t.Sign g.Comma ∷ spell_list (also v es)))
    (list_front {d = max (depth inner e 1) (depth_list (also v es))} (after b (spell inner e 1)) (deeper (p b inner 1) (omega arith)) (deeper_list (ps false) (omega arith)))

-- PROPERTIES
properties_front : {side : Side} {most : Option ℕ} {d : ℕ} {key : PropKey} {e : Expr} {ps : Properties} {x y : List Lexeme} (b : Bool) → SpellsProperty side most d key e x → SpellsSome side most d ps y → SpellsSome side most d (property key e ps) (x ++ sign g.Comma b ∷ y)
properties_front b p (sp_one_property q) = sp_more_properties b (sp_one_property p) q
properties_front {side} {most} {d} {key = key} {e = e} {x = x} b p (sp_more_properties {ps = ps} {key = j} {e = v} {x = y} {y = z} c qs q) =
    subst (SpellsSome side most d (with_property (property key e ps) j v)) (regrouped x y z (sign g.Comma b) (sign g.Comma c)) (sp_more_properties c (properties_front b p qs) q)

row_joined : (key : PropKey) (e : Expr) (y : List TokenKind) → spell_prop_key key ++ t.Sign g.Colon ∷ (spell inner e 1 ++ y) ≡ property_row key e ++ y
row_joined key e y = sym (append_assoc (spell_prop_key key) (t.Sign g.Colon ∷ spell inner e 1) y)

pub properties_begin : {side : Side} {most : Option ℕ} (key : PropKey) (e : Expr) (j : PropKey) (v : Expr) (ps : Properties) → PropertySaid side most key e → SomeSaid side most (property j v ps) → SomeSaid side most (property key e (property j v ps))
properties_begin {side} {most} key e j v ps p qs b =
    rw (row_joined key e (t.Sign g.Comma ∷ spell_properties (property j v ps))) (rw (laid_append b (property_row key e) (t.Sign g.Comma ∷ spell_properties (property j v ps)))
    (properties_front {d = max (max (depth_prop_key key) (depth inner e 1)) (depth_properties (property j v ps))} (after b (property_row key e)) (deeper_property (p b) (omega arith)) (deeper_some (qs false) (omega arith))))

-- LET
lets_front : {side : Side} {most : Option ℕ} {d : ℕ} {n : List ℕ} {v : MaybeExpr} {is : LetItems} {x y : List Lexeme} (b : Bool) → SpellsLet side most d n v x → SpellsLets side most d is y → SpellsLets side most d (let_item n v is) (x ++ sign g.Comma b ∷ y)
lets_front b p (sp_one_let q) = sp_more_lets b (sp_one_let p) q
lets_front {side} {most} {d} {n = n} {v = v} {x = x} b p (sp_more_lets {is = is} {x = m} {v = w} {y = y} {z = z} c qs q) =
    subst (SpellsLets side most d (with_let (let_item n v is) m w)) (regrouped x y z (sign g.Comma b) (sign g.Comma c)) (sp_more_lets c (lets_front b p qs) q)

pub lets_begin : {side : Side} {most : Option ℕ} (x : List ℕ) (v : MaybeExpr) (y : List ℕ) (w : MaybeExpr) (is : LetItems) → LetSaid side most x v → LetsSaid side most (let_item y w is) → LetsSaid side most (let_item x v (let_item y w is))
lets_begin {side} {most} x v y w is p qs b =
    rw (laid_append b (let_row x v) (t.Sign g.Comma ∷ spell_lets (let_item y w is)))
    (lets_front {d = max (depth_maybe v) (depth_lets (let_item y w is))} (after b (let_row x v)) (deeper_let (p b) (omega arith)) (deeper_lets (qs false) (omega arith)))

-- CONST
consts_front : {side : Side} {most : Option ℕ} {d : ℕ} {n : List ℕ} {e : Expr} {is : ConstItems} {x y : List Lexeme} (a f b : Bool) → IsBinding side n → Spells side most 1 d e x → SpellsConsts side most d is y → SpellsConsts side most d (const_item n e is) (lexeme (t.Name n) a ∷ sign g.Assign f ∷ (x ++ sign g.Comma b ∷ y))
consts_front a f b h p (sp_one_const i q) = sp_more_consts b _ _ (sp_one_const h p) i q
consts_front {side} {most} {d} {n = n} {e = e} {x = x} a f b h p (sp_more_consts {is = is} {x = m} {e = v} {y = y} {z = z} c j k qs i q) =
    subst (λ w. SpellsConsts side most d (with_const (const_item n e is) m v) (lexeme (t.Name n) a ∷ sign g.Assign f ∷ w)) (regrouped x y (lexeme (t.Name m) j ∷ sign g.Assign k ∷ z) (sign g.Comma b) (sign g.Comma c)) (sp_more_consts c j k (consts_front a f b h p qs) i q)

pub consts_begin : {side : Side} {most : Option ℕ} (x : List ℕ) (e : Expr) (y : List ℕ) (v : Expr) (is : ConstItems) → IsBinding side x → Said side most e → ConstsSaid side most (const_item y v is) → ConstsSaid side most (const_item x e (const_item y v is))
consts_begin {side} {most} x e y v is h p qs b =
    rw (laid_append false (spell inner e 1) (t.Sign g.Comma ∷ spell_consts (const_item y v is)))
    (consts_front {d = max (depth inner e 1) (depth_consts (const_item y v is))} b false (after false (spell inner e 1)) h (deeper (p false inner 1) (omega arith)) (deeper_consts (qs false) (omega arith)))
