-- The walk notes the places of nodes: lists that grow at their ends, words of forms, and properties.
use Rattle.std.proofs.Common.{◌≡◌, ℕ, zero, suc, ◌+◌, List, [], ◌∷◌, ◌++◌, length, map, Bool, true, false, ◌&&◌, if◌then◌else◌, Option, Some, None, refl, sym, ◌∙◌, ap, subst, arith, append_assoc}
use Rattle.std.proofs.lemmas.List.{length-map, map-append}
use Rattle.actx_grammar.specs.declared.operators.Form.{Form}
use Rattle.actx_grammar.specs.declared.operators.Form.TheVariants as f
use Rattle.actx_grammar.specs.declared.operators.FunctionKind.{FunctionKind}
use Rattle.actx_grammar.specs.declared.operators.FunctionKind.TheVariants.{Normal, Arrow, Generator, Async, AsyncArrow, AsyncGenerator}
use Rattle.actx_grammar.specs.declared.side.Side.{Side}
use Rattle.actx_grammar.specs.declared.side.Side.TheVariants.{Source, Plain}
use Rattle.actx_grammar.specs.declared.token.Keyword.TheVariants as k
use Rattle.actx_grammar.specs.declared.token.Sign.TheVariants as s
use Rattle.actx_grammar.specs.declared.token.TokenKind.{TokenKind}
use Rattle.actx_grammar.specs.declared.token.TokenKind.TheVariants as t
use Rattle.actx_grammar.specs.Forms.{form_words, HasWords}
use Rattle.actx_grammar.specs.Grammar.{with_last, with_let, with_const, with_property, SpellsList, sp_one, sp_more, SpellsLets, sp_one_let, sp_more_lets, SpellsConsts, sp_one_const, sp_more_consts, SpellsSome, sp_one_property, sp_more_properties, SpellsHead, sp_normal, sp_normal_named, sp_generator, sp_generator_named, sp_async, sp_async_named}
use Rattle.actx_grammar.specs.Lexemes.{Lexeme, sign, keyword, lexeme, kinds}
use Rattle.actx_grammar.specs.Names.{key_of}
use Rattle.actx_grammar.specs.Tree.{Expr, Function, Built, Exprs, none, also, MaybeExpr, Key, PropKey, Properties, no_properties, property, code, LetItems, no_lets, let_item, ConstItems, no_consts, const_item}
use Rattle.actx_places.specs.Walk.{Group, group, Walk, walk, at, rest, places, is_sign, is_async, starts_with, begins_async, has_head, is_arrow, step, pass, pass_if, comma, mark, mark_at, own, settle, later, close, leave, begin, by_next, spine, exprs, more_exprs, properties, more_properties, prop_key, method, lets, more_lets, let_value, consts, more_consts}
use Rattle.actx_places.proofs.WalkSteps.{Goes, goes_end, goes_step, goes_before, Row, leaf}

-- LISTS
exprs_more : (es : Exprs) (e : Expr) (w : Walk) → more_exprs (with_last es e) w ≡ leave (spine e (begin (step (more_exprs es w))))
exprs_more none e w = refl
exprs_more (also f es) e w = exprs_more es e (leave (spine f (begin (step w))))

pub exprs_last : {side : Side} {most : Option ℕ} {d : ℕ} {es : Exprs} {x : List Lexeme} → SpellsList side most d es x → (e : Expr) (w : Walk) → exprs (with_last es e) w ≡ leave (spine e (begin (step (exprs es w))))
exprs_last {es = none} p e w = absurd (empty p)
  where
    empty : {side : Side} {most : Option ℕ} {d : ℕ} {x : List Lexeme} → SpellsList side most d none x → ⊥
    empty p = other p refl
      where
        other : {side : Side} {most : Option ℕ} {d : ℕ} {es : Exprs} {x : List Lexeme} → SpellsList side most d es x → es ≡ none → ⊥
        other (sp_one p) i = absurd (cc)
        other (sp_more {es = none} b p q) i = absurd (cc)
        other (sp_more {es = also f es} b p q) i = absurd (cc)
exprs_last {es = also f es} p e w = exprs_more es e (leave (spine f (begin w)))

lets_more : (is : LetItems) (x : List ℕ) (v : MaybeExpr) (w : Walk) → more_lets (with_let is x v) w ≡ let_value v (step (mark (step (more_lets is w))))
lets_more no_lets x v w = refl
lets_more (let_item y u is) x v w = lets_more is x v (let_value u (step (mark (step w))))

pub lets_last : {side : Side} {most : Option ℕ} {d : ℕ} {is : LetItems} {y : List Lexeme} → SpellsLets side most d is y → (x : List ℕ) (v : MaybeExpr) (w : Walk) → lets (with_let is x v) w ≡ let_value v (step (mark (step (lets is w))))
lets_last {is = no_lets} p x v w = absurd (other p refl)
  where
    other : {side : Side} {most : Option ℕ} {d : ℕ} {is : LetItems} {y : List Lexeme} → SpellsLets side most d is y → is ≡ no_lets → ⊥
    other (sp_one_let p) i = absurd (cc)
    other (sp_more_lets {is = no_lets} b p q) i = absurd (cc)
    other (sp_more_lets {is = let_item y u is} b p q) i = absurd (cc)
lets_last {is = let_item y u is} p x v w = lets_more is x v (let_value u (step (mark w)))

consts_more : (is : ConstItems) (x : List ℕ) (e : Expr) (w : Walk) → more_consts (with_const is x e) w ≡ leave (spine e (begin (pass 2 (mark (step (more_consts is w))))))
consts_more no_consts x e w = refl
consts_more (const_item y f is) x e w = consts_more is x e (leave (spine f (begin (pass 2 (mark (step w))))))

pub consts_last : {side : Side} {most : Option ℕ} {d : ℕ} {is : ConstItems} {y : List Lexeme} → SpellsConsts side most d is y → (x : List ℕ) (e : Expr) (w : Walk) → consts (with_const is x e) w ≡ leave (spine e (begin (pass 2 (mark (step (consts is w))))))
consts_last {is = no_consts} p x e w = absurd (other p refl)
  where
    other : {side : Side} {most : Option ℕ} {d : ℕ} {is : ConstItems} {y : List Lexeme} → SpellsConsts side most d is y → is ≡ no_consts → ⊥
    other (sp_one_const i p) j = absurd (cc)
    other (sp_more_consts {is = no_consts} b c f p i q) j = absurd (cc)
    other (sp_more_consts {is = const_item y u is} b c f p i q) j = absurd (cc)
consts_last {is = const_item y f is} p x e w = consts_more is x e (leave (spine f (begin (pass 2 (mark w)))))

-- a property with its key
abbrev pub whole : PropKey → Expr → Walk → Walk
whole key e w = by_next (λ v. leave (spine e (begin (step v)))) (method e (at w)) (mark_at (at w)) (prop_key key (pass_if (has_head e (rest w)) w))

properties_more : (ps : Properties) (key : PropKey) (e : Expr) (w : Walk) → more_properties (with_property ps key e) w ≡ whole key e (step (more_properties ps w))
properties_more no_properties key e w = refl
properties_more (property j f ps) key e w = properties_more ps key e (whole j f (step w))

pub properties_last : {side : Side} {most : Option ℕ} {d : ℕ} {ps : Properties} {y : List Lexeme} → SpellsSome side most d ps y → (key : PropKey) (e : Expr) (w : Walk) → properties (with_property ps key e) w ≡ whole key e (step (properties ps w))
properties_last {ps = no_properties} p key e w = absurd (other p refl)
  where
    other : {side : Side} {most : Option ℕ} {d : ℕ} {ps : Properties} {y : List Lexeme} → SpellsSome side most d ps y → ps ≡ no_properties → ⊥
    other (sp_one_property p) j = absurd (cc)
    other (sp_more_properties {ps = no_properties} b p q) j = absurd (cc)
    other (sp_more_properties {ps = property k f ps} b p q) j = absurd (cc)
properties_last {ps = property j f ps} p key e w = properties_more ps key e (whole j f w)

-- WORDS OF FORMS
pub goes_pass : (x : List Lexeme) → Goes (pass (length x)) x (λ n. [])
goes_pass [] = goes_end
goes_pass (t ∷ x) = goes_step t (goes_pass x)

pub words_go : (form : Form) (x : List Lexeme) → form_words form ≡ kinds x → Goes (pass (length (form_words form))) x (λ n. [])
words_go form x e = subst (λ z. Goes (pass z) x (λ n. [])) (let i : length (map (λ (w : Lexeme). w.kind) x) ≡ length x = length-map x (λ (w : Lexeme). w.kind) in let j : length x ≡ length (form_words form) = cc in j) (goes_pass x)

-- a form's first word is no parenthesis
abbrev begins_plainly : List TokenKind → Bool
begins_plainly [] = false
begins_plainly (w ∷ ws) = if is_sign s.OpenParen w then false else true

plain_words : (side : Side) (form : Form) → HasWords side form → begins_plainly (form_words form) ≡ true
plain_words side f.Log h = refl
plain_words side (f.NewError name) h = refl
plain_words side f.QueueMicrotask h = refl
plain_words Source f.NewPromise h = refl
plain_words Source f.PromiseResolve h = refl
plain_words Source f.PromiseReject h = refl
plain_words Source f.NewVariable h = refl
plain_words Source f.NewSnapshot h = refl
plain_words Source f.Wrap h = refl
plain_words Source f.HostOn h = refl
plain_words Source f.Span h = refl
plain_words Source f.CurrentSpan h = refl
plain_words Plain f.NewWeakMap h = refl
plain_words Plain f.Freeze h = refl
plain_words Plain f.Note h = refl
plain_words Plain f.On h = refl
plain_words Plain f.Leave h = refl
plain_words Source _ h = absurd h
plain_words Plain _ h = absurd h

plain_leaf : {g : Walk → Walk} {q : ℕ → List ℕ} (x : List Lexeme) → begins_plainly (kinds x) ≡ true → Goes g x q → Row (λ w. g (own w)) x (λ n. n ∷ q n)
plain_leaf [] e h = absurd (cc)
plain_leaf (w ∷ x) e h = leaf w (no_paren w.kind e) h
  where
    no_paren : (t : TokenKind) → (if is_sign s.OpenParen t then false else true) ≡ true → is_sign s.OpenParen t ≡ false
    no_paren t e = is_false (is_sign s.OpenParen t) e
      where
        is_false : (b : Bool) → (if b then false else true) ≡ true → b ≡ false
        is_false true e = absurd (cc)
        is_false false e = refl

begins_more : (ws vs : List TokenKind) → begins_plainly ws ≡ true → begins_plainly (ws ++ vs) ≡ true
begins_more [] vs e = absurd (cc)
begins_more (w ∷ ws) vs e = e

-- a form with its arguments
pub form_row : {g : Walk → Walk} {q : ℕ → List ℕ} (side : Side) (form : Form) (x y : List Lexeme) → HasWords side form → form_words form ≡ kinds x → Goes g y q → Row (λ w. g (pass (length (form_words form)) (own w))) (x ++ y) (λ n. n ∷ q (n + length x))
form_row side form x y h e a = plain_leaf (x ++ y) (let i : kinds (x ++ y) ≡ kinds x ++ kinds y = map-append (λ (w : Lexeme). w.kind) x y in let j = plain_words side form h in let m : begins_plainly (kinds x) ≡ true = cc in let n = begins_more (kinds x) (kinds y) m in cc) (goes_before (words_go form x e) a)

-- a function's first word begins it
pub head_row : {g : Walk → Walk} {q : ℕ → List ℕ} {side : Side} {kind : FunctionKind} {name : Option (List ℕ)} {x : List Lexeme} (y : List Lexeme) → SpellsHead side kind name x → Goes g (x ++ y) q → Row (λ w. g (own w)) (x ++ y) (λ n. n ∷ q n)
head_row y (sp_normal {b = b}) h = leaf (keyword k.Function b) refl h
head_row y (sp_normal_named {b = b} i) h = leaf (keyword k.Function b) refl h
head_row y (sp_generator {b = b} e) h = leaf (keyword k.Function b) refl h
head_row y (sp_generator_named {b = b} e i) h = leaf (keyword k.Function b) refl h
head_row y (sp_async {b = b} e) h = leaf (keyword k.Async b) refl h
head_row y (sp_async_named {b = b} e i) h = leaf (keyword k.Async b) refl h

pub no_arrow : {side : Side} {kind : FunctionKind} {name : Option (List ℕ)} {x : List Lexeme} → SpellsHead side kind name x → is_arrow kind ≡ false
no_arrow sp_normal = refl
no_arrow (sp_normal_named i) = refl
no_arrow (sp_generator e) = refl
no_arrow (sp_generator_named e i) = refl
no_arrow (sp_async e) = refl
no_arrow (sp_async_named e i) = refl
