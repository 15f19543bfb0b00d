-- One more part is spelled at the end of a list.
use Rattle.std.proofs.Common.{◌≡◌, ℕ, max, Bool, true, false, List, [], ◌∷◌, ◌++◌, Option, refl, sym, ap, ◌∙◌, append_assoc, append-nil, arith, true≢false}
use Rattle.actx_grammar.specs.declared.side.Side.{Side}
use Rattle.actx_grammar.specs.declared.token.Sign.TheVariants as g
use Rattle.actx_grammar.specs.declared.token.TokenKind.{TokenKind}
use Rattle.actx_grammar.specs.declared.token.TokenKind.TheVariants as t
use Rattle.actx_grammar.specs.Lexemes.{Lexeme}
use Rattle.actx_grammar.specs.Tree.{Expr, Exprs, MaybeExpr, PropKey, Properties, LetItems, ConstItems, none, also, no_properties, property, no_lets, let_item, no_consts, const_item}
use Rattle.actx_grammar.specs.Grammar.{with_last, with_let, with_const, with_property, SpellsNames, SpellsList, SpellsSome, SpellsLets, SpellsConsts, sp_one_name, sp_more_names, sp_one, sp_more, sp_one_property, sp_more_properties, sp_one_let, sp_more_lets, sp_one_const, sp_more_consts}
use Rattle.actx_grammar.specs.Spell.{spell_more_names, spell_names, spell, spell_list, spell_more, spell_prop_key, spell_properties, spell_more_properties, spell_let, spell_lets, spell_more_lets, spell_consts, spell_more_consts, inner}
use Rattle.actx_grammar.specs.Depth.{depth, depth_list, depth_prop_key, depth_properties, depth_maybe, depth_lets, depth_consts}
use Rattle.actx_laws.proofs.SpellSaid.{property_row, let_row}

-- WHETHER A LIST HAS PARTS
abbrev pub no_name : List (List ℕ) → Bool
no_name [] = true
no_name (x ∷ xs) = false

abbrev pub empty : Exprs → Bool
empty none = true
empty (also e es) = false

abbrev pub no_property : Properties → Bool
no_property no_properties = true
no_property (property key e ps) = false

abbrev pub no_let : LetItems → Bool
no_let no_lets = true
no_let (let_item x v is) = false

abbrev pub no_const : ConstItems → Bool
no_const no_consts = true
no_const (const_item x e is) = false

-- NAMES
more_names_last : (xs : List (List ℕ)) (x : List ℕ) → spell_more_names (xs ++ x ∷ []) ≡ spell_more_names xs ++ t.Sign g.Comma ∷ t.Name x ∷ []
more_names_last [] x = refl
more_names_last (y ∷ xs) x = ap (λ z. t.Sign g.Comma ∷ t.Name y ∷ z) (more_names_last xs x)

pub names_last : (xs : List (List ℕ)) (x : List ℕ) → no_name xs ≡ false → spell_names (xs ++ x ∷ []) ≡ spell_names xs ++ t.Sign g.Comma ∷ t.Name x ∷ []
names_last [] x h = absurd (true≢false h)
names_last (y ∷ xs) x h = ap (λ z. t.Name y ∷ z) (more_names_last xs x)

some_names : (xs : List (List ℕ)) (x : List ℕ) → no_name (xs ++ x ∷ []) ≡ false
some_names [] x = refl
some_names (y ∷ xs) x = refl

pub has_names : {side : Side} {xs : List (List ℕ)} {y : List Lexeme} → SpellsNames side xs y → no_name xs ≡ false
has_names (sp_one_name h) = refl
has_names (sp_more_names {xs = xs} {x = x} b c ps h) = some_names xs x

-- EXPRESSIONS
more_last : (es : Exprs) (e : Expr) → spell_more (with_last es e) ≡ spell_more es ++ t.Sign g.Comma ∷ spell inner e 1
more_last none e = ap (λ z. t.Sign g.Comma ∷ z) (append-nil (spell inner e 1))
more_last (also f es) e = ap (λ z. t.Sign g.Comma ∷ (spell inner f 1 ++ z)) (more_last es e) ∙ ap (λ z. t.Sign g.Comma ∷ z) (sym (append_assoc (spell inner f 1) (spell_more es) (t.Sign g.Comma ∷ spell inner e 1)))

pub list_last : (es : Exprs) (e : Expr) → empty es ≡ false → spell_list (with_last es e) ≡ spell_list es ++ t.Sign g.Comma ∷ spell inner e 1
list_last none e h = absurd (true≢false h)
list_last (also f es) e h = ap (λ z. spell inner f 1 ++ z) (more_last es e) ∙ sym (append_assoc (spell inner f 1) (spell_more es) (t.Sign g.Comma ∷ spell inner e 1))

some_list : (es : Exprs) (e : Expr) → empty (with_last es e) ≡ false
some_list none e = refl
some_list (also f es) e = refl

pub has_list : {side : Side} {most : Option ℕ} {d : ℕ} {es : Exprs} {x : List Lexeme} → SpellsList side most d es x → empty es ≡ false
has_list (sp_one p) = refl
has_list (sp_more {es = es} {e = e} b ps p) = some_list es e

pub list_holds : (es : Exprs) (e : Expr) → depth_list (with_last es e) ≡ max (depth_list es) (depth inner e 1)
list_holds none e = omega arith
list_holds (also f es) e = ap (max (depth inner f 1)) (list_holds es e) ∙ omega arith

-- PROPERTIES
row_assoc : (key : PropKey) (e : Expr) (z : List TokenKind) → property_row key e ++ z ≡ spell_prop_key key ++ t.Sign g.Colon ∷ (spell inner e 1 ++ z)
row_assoc key e z = append_assoc (spell_prop_key key) (t.Sign g.Colon ∷ spell inner e 1) z

more_properties_last : (ps : Properties) (key : PropKey) (e : Expr) → spell_more_properties (with_property ps key e) ≡ spell_more_properties ps ++ t.Sign g.Comma ∷ property_row key e
more_properties_last no_properties key e = ap (λ z. t.Sign g.Comma ∷ (spell_prop_key key ++ t.Sign g.Colon ∷ z)) (append-nil (spell inner e 1))
more_properties_last (property j f ps) key e =
    ap (λ z. t.Sign g.Comma ∷ (spell_prop_key j ++ t.Sign g.Colon ∷ (spell inner f 1 ++ z))) (more_properties_last ps key e)
    ∙ ap (λ z. t.Sign g.Comma ∷ z) (properties_assoc j f (spell_more_properties ps) (t.Sign g.Comma ∷ property_row key e))
  where
    properties_assoc : (i : PropKey) (v : Expr) (x y : List TokenKind) → spell_prop_key i ++ t.Sign g.Colon ∷ (spell inner v 1 ++ (x ++ y)) ≡ (spell_prop_key i ++ t.Sign g.Colon ∷ (spell inner v 1 ++ x)) ++ y
    properties_assoc i v x y = simp append_assoc

pub properties_last : (ps : Properties) (key : PropKey) (e : Expr) → no_property ps ≡ false → spell_properties (with_property ps key e) ≡ spell_properties ps ++ t.Sign g.Comma ∷ property_row key e
properties_last no_properties key e h = absurd (true≢false h)
properties_last (property j f ps) key e h =
    ap (λ z. spell_prop_key j ++ t.Sign g.Colon ∷ (spell inner f 1 ++ z)) (more_properties_last ps key e)
    ∙ properties_assoc j f (spell_more_properties ps) (t.Sign g.Comma ∷ property_row key e)
  where
    properties_assoc : (i : PropKey) (v : Expr) (x y : List TokenKind) → spell_prop_key i ++ t.Sign g.Colon ∷ (spell inner v 1 ++ (x ++ y)) ≡ (spell_prop_key i ++ t.Sign g.Colon ∷ (spell inner v 1 ++ x)) ++ y
    properties_assoc i v x y = simp append_assoc

some_properties : (ps : Properties) (key : PropKey) (e : Expr) → no_property (with_property ps key e) ≡ false
some_properties no_properties key e = refl
some_properties (property j f ps) key e = refl

pub has_properties : {side : Side} {most : Option ℕ} {d : ℕ} {ps : Properties} {x : List Lexeme} → SpellsSome side most d ps x → no_property ps ≡ false
has_properties (sp_one_property p) = refl
has_properties (sp_more_properties {ps = ps} {key = key} {e = e} b os p) = some_properties ps key e

pub properties_hold : (ps : Properties) (key : PropKey) (e : Expr) → depth_properties (with_property ps key e) ≡ max (depth_properties ps) (max (depth_prop_key key) (depth inner e 1))
properties_hold no_properties key e = omega arith
properties_hold (property j f ps) key e = ap (max (max (depth_prop_key j) (depth inner f 1))) (properties_hold ps key e) ∙ omega arith

-- LET
more_lets_last : (is : LetItems) (x : List ℕ) (v : MaybeExpr) → spell_more_lets (with_let is x v) ≡ spell_more_lets is ++ t.Sign g.Comma ∷ let_row x v
more_lets_last no_lets x v = ap (λ z. t.Sign g.Comma ∷ t.Name x ∷ z) (append-nil (spell_let v))
more_lets_last (let_item y w is) x v = ap (λ z. t.Sign g.Comma ∷ t.Name y ∷ (spell_let w ++ z)) (more_lets_last is x v) ∙ ap (λ z. t.Sign g.Comma ∷ t.Name y ∷ z) (sym (append_assoc (spell_let w) (spell_more_lets is) (t.Sign g.Comma ∷ let_row x v)))

pub lets_last : (is : LetItems) (x : List ℕ) (v : MaybeExpr) → no_let is ≡ false → spell_lets (with_let is x v) ≡ spell_lets is ++ t.Sign g.Comma ∷ let_row x v
lets_last no_lets x v h = absurd (true≢false h)
lets_last (let_item y w is) x v h = ap (λ z. t.Name y ∷ (spell_let w ++ z)) (more_lets_last is x v) ∙ ap (λ z. t.Name y ∷ z) (sym (append_assoc (spell_let w) (spell_more_lets is) (t.Sign g.Comma ∷ let_row x v)))

some_lets : (is : LetItems) (x : List ℕ) (v : MaybeExpr) → no_let (with_let is x v) ≡ false
some_lets no_lets x v = refl
some_lets (let_item y w is) x v = refl

pub has_lets : {side : Side} {most : Option ℕ} {d : ℕ} {is : LetItems} {x : List Lexeme} → SpellsLets side most d is x → no_let is ≡ false
has_lets (sp_one_let p) = refl
has_lets (sp_more_lets {is = is} {x = x} {v = v} b ps p) = some_lets is x v

pub lets_hold : (is : LetItems) (x : List ℕ) (v : MaybeExpr) → depth_lets (with_let is x v) ≡ max (depth_lets is) (depth_maybe v)
lets_hold no_lets x v = omega arith
lets_hold (let_item y w is) x v = ap (max (depth_maybe w)) (lets_hold is x v) ∙ omega arith

-- CONST
more_consts_last : (is : ConstItems) (x : List ℕ) (e : Expr) → spell_more_consts (with_const is x e) ≡ spell_more_consts is ++ t.Sign g.Comma ∷ t.Name x ∷ t.Sign g.Assign ∷ spell inner e 1
more_consts_last no_consts x e = ap (λ z. t.Sign g.Comma ∷ t.Name x ∷ t.Sign g.Assign ∷ z) (append-nil (spell inner e 1))
more_consts_last (const_item y f is) x e = ap (λ z. t.Sign g.Comma ∷ t.Name y ∷ t.Sign g.Assign ∷ (spell inner f 1 ++ z)) (more_consts_last is x e) ∙ ap (λ z. t.Sign g.Comma ∷ t.Name y ∷ t.Sign g.Assign ∷ z) (sym (append_assoc (spell inner f 1) (spell_more_consts is) (t.Sign g.Comma ∷ t.Name x ∷ t.Sign g.Assign ∷ spell inner e 1)))

pub consts_last : (is : ConstItems) (x : List ℕ) (e : Expr) → no_const is ≡ false → spell_consts (with_const is x e) ≡ spell_consts is ++ t.Sign g.Comma ∷ t.Name x ∷ t.Sign g.Assign ∷ spell inner e 1
consts_last no_consts x e h = absurd (true≢false h)
consts_last (const_item y f is) x e h = ap (λ z. t.Name y ∷ t.Sign g.Assign ∷ (spell inner f 1 ++ z)) (more_consts_last is x e) ∙ ap (λ z. t.Name y ∷ t.Sign g.Assign ∷ z) (sym (append_assoc (spell inner f 1) (spell_more_consts is) (t.Sign g.Comma ∷ t.Name x ∷ t.Sign g.Assign ∷ spell inner e 1)))

some_consts : (is : ConstItems) (x : List ℕ) (e : Expr) → no_const (with_const is x e) ≡ false
some_consts no_consts x e = refl
some_consts (const_item y f is) x e = refl

pub has_consts : {side : Side} {most : Option ℕ} {d : ℕ} {is : ConstItems} {x : List Lexeme} → SpellsConsts side most d is x → no_const is ≡ false
has_consts (sp_one_const h p) = refl
has_consts (sp_more_consts {is = is} {x = x} {e = e} b c f ps h p) = some_consts is x e

pub consts_hold : (is : ConstItems) (x : List ℕ) (e : Expr) → depth_consts (with_const is x e) ≡ max (depth_consts is) (depth inner e 1)
consts_hold no_consts x e = omega arith
consts_hold (const_item y f is) x e = ap (max (depth inner f 1)) (consts_hold is x e) ∙ omega arith
