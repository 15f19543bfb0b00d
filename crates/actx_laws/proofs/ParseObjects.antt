-- Object literals are read.
use Rattle.std.proofs.Common.{◌≡◌, ℕ, suc, max, ◌+◌, ◌≤◌, List, [], ◌∷◌, ◌++◌, Bool, true, false, ◌&&◌, Option, Some, None, cond, refl, ◌∙◌, ap, arith, append_assoc}
use Rattle.std.specs.Prelude.{codes}
use Rattle.actx_grammar.specs.declared.operators.FunctionKind.{FunctionKind}
use Rattle.actx_grammar.specs.declared.operators.FunctionKind.TheVariants.{Normal, Generator, Async}
use Rattle.actx_grammar.specs.declared.side.Side.{Side}
use Rattle.actx_grammar.specs.declared.side.Side.TheVariants.{Source, Plain}
use Rattle.actx_grammar.specs.declared.token.Sign.{Sign}
use Rattle.actx_grammar.specs.declared.token.Sign.TheVariants as g
use Rattle.actx_grammar.specs.declared.token.TokenKind.TheVariants as t
use Rattle.actx_grammar.specs.Grammar.{KeyFollows, with_property, SpellsParams, SpellsMethodHead, sp_method_head, sp_generator_head, sp_async_head}
use Rattle.actx_grammar.specs.Lexemes.{Lexeme, sign, lexeme, SameLine}
use Rattle.actx_grammar.specs.Names.{key_of, IsReference}
use Rattle.actx_grammar.specs.ParserFunctions.{alone}
use Rattle.actx_grammar.specs.ParserOperands.{is_binding, is_source, begins_statement, fits_below}
use Rattle.actx_grammar.specs.ParserState.{Limits, method, function_head, body, Frame, in_property, in_list, start, have, body_open, key_next, key_behind, key_name, key_async, key_end, method_key, method_open, levels, here}
use Rattle.actx_grammar.specs.Tree.{Expr, Named, Undefined, Object, Function, PropKey, Fixed, Properties, no_properties, code, Stmts, end}
use Rattle.actx_grammar.specs.Words.{word_units}
use Rattle.actx_laws.proofs.ParseKeys.{ReadsPropKey, ReadsMethodKey, params_behind}
use Rattle.actx_laws.proofs.ParseLevels.{binds}
use Rattle.actx_laws.proofs.ParseNames.{reference_free, free_binding, reference_named, undefined_free, source_passes, both}
use Rattle.actx_laws.proofs.ParseParams.{params_read}
use Rattle.actx_laws.proofs.ParseReads.{Operand, ReadsStmts}
use Rattle.actx_laws.proofs.ParseRuns.{runs, after, Gives, Fit, fit_less, if_holds}
use Rattle.actx_laws.proofs.ParseSteps.{inside, opens}

-- what stands behind a property
abbrev pub property_sign : Bool → Sign
property_sign true = g.Comma
property_sign false = g.CloseBrace

abbrev pub ReadsProperty : Limits → Side → ℕ → PropKey → Expr → List Lexeme → Type 0
ReadsProperty lim side d key e x = (ps : Properties) (n : ℕ) (s : List Frame) (w b : Bool) (r : List Lexeme) → n ≤ suc (d + levels s) → Fit lim (suc (d + levels s))
    → Gives (runs lim side (key_next ps n) s (x ++ sign (property_sign w) b ∷ r)) (suc (d + levels s)) (λ j. runs lim side (key_end (with_property ps key e) j) s (sign (property_sign w) b ∷ r))

abbrev pub ReadsSome : Limits → Side → ℕ → Properties → List Lexeme → Type 0
ReadsSome lim side d ps x = (n : ℕ) (s : List Frame) (w b : Bool) (r : List Lexeme) → n ≤ suc (d + levels s) → Fit lim (suc (d + levels s))
    → Gives (runs lim side (key_next no_properties n) s (x ++ sign (property_sign w) b ∷ r)) (suc (d + levels s)) (λ j. runs lim side (key_end ps j) s (sign (property_sign w) b ∷ r))

abbrev pub ReadsProperties : Limits → Side → ℕ → Properties → List Lexeme → Type 0
ReadsProperties lim side d ps x = (n : ℕ) (s : List Frame) (b : Bool) (r : List Lexeme) → n ≤ suc (d + levels s) → Fit lim (suc (d + levels s))
    → Gives (runs lim side (key_next no_properties n) s (x ++ sign g.CloseBrace b ∷ r)) (suc (d + levels s)) (λ j. runs lim side (have (Object ps) j) s r)

-- VALUES
ends_property : (w b : Bool) (r : List Lexeme) → binds (sign (property_sign w) b ∷ r) ≤ 1
ends_property true b r = omega arith
ends_property false b r = omega arith

value_end : (lim : Limits) (side : Side) (ps : Properties) (key : PropKey) (e : Expr) (m n : ℕ) (s : List Frame) (w b : Bool) (r : List Lexeme) → runs lim side (have e n) (in_property ps key m ∷ s) (sign (property_sign w) b ∷ r) ≡ runs lim side (key_end (with_property ps key e) (max m n)) s (sign (property_sign w) b ∷ r)
value_end lim side ps key e m n s true b r = refl
value_end lim side ps key e m n s false b r = refl

pub row_key_value : (lim : Limits) (side : Side) (c : Bool) (d : ℕ) (key : PropKey) (e : Expr) (x y : List Lexeme) → 1 ≤ d → ReadsPropKey lim side d key x → Operand lim side 1 d e y → ReadsProperty lim side d key e (x ++ sign g.Colon c ∷ y)
row_key_value lim side c d key e x y v q p ps n s w b r i f =
    let last : List Lexeme = sign (property_sign w) b ∷ r in
    let a1 = q ps n s (sign g.Colon c ∷ (y ++ last)) tt v i f in
    let a2 = p (in_property ps key a1.reach ∷ s) last (omega arith) (ends_property w b r) (record { deep = fit_less lim f (omega arith); more = refl; starts = tt }) in
    record {
      reach = max a1.reach a2.reach;
      within = omega (arith, a1.within, a2.within);
      same =
          ap (runs lim side (key_next ps n) s) (append_assoc x (sign g.Colon c ∷ y) last)
          ∙ a1.same
          ∙ a2.same
          ∙ value_end lim side ps key e a1.reach a2.reach s w b r;
    }

-- NAMES ALONE
alone_end : (lim : Limits) (side : Side) (ps : Properties) (x : List ℕ) (n : ℕ) (s : List Frame) (w b : Bool) (r : List Lexeme) → is_binding side x ≡ true
    → runs lim side (key_name ps x n) s (sign (property_sign w) b ∷ r) ≡ runs lim side (key_end (alone ps x) (max n (suc (here s)))) s (sign (property_sign w) b ∷ r)
alone_end lim side ps x n s true b r h = if_holds lim side (is_binding side x) (key_next (alone ps x) (max n (suc (here s)))) s r h
alone_end lim side ps x n s false b r h = if_holds lim side (is_binding side x) (have (Object (alone ps x)) (max n (suc (here s)))) s r h

pub row_name_alone : (lim : Limits) (side : Side) (c : Bool) (d : ℕ) (x u : List ℕ) → key_of (t.Name x) ≡ Some u → IsReference side x → ReadsProperty lim side (suc d) (Fixed u) (Named x) (lexeme (t.Name x) c ∷ [])
row_name_alone lim side c d x u q h ps n s w b r i f =
    let e : word_units x ≡ u = cc in
    record {
      reach = max n (suc (here s));
      within = omega arith;
      same =
          if_holds lim side (fits_below lim s) (key_name ps x n) s (sign (property_sign w) b ∷ r) (f (suc (here s)) (omega arith))
          ∙ alone_end lim side ps x n s w b r (free_binding side x (reference_free h))
          ∙ ap (λ z. runs lim side (key_end (with_property ps (Fixed (word_units x)) z) (max n (suc (here s)))) s (sign (property_sign w) b ∷ r)) (reference_named h)
          ∙ ap (λ z. runs lim side (key_end (with_property ps (Fixed z) (Named x)) (max n (suc (here s)))) s (sign (property_sign w) b ∷ r)) e;
    }

pub row_undefined_alone : (lim : Limits) (side : Side) (c : Bool) (d : ℕ) → ReadsProperty lim side (suc d) (Fixed (codes "undefined")) Undefined (lexeme (t.Name (codes "undefined")) c ∷ [])
row_undefined_alone lim side c d ps n s w b r i f =
    record {
      reach = max n (suc (here s));
      within = omega arith;
      same =
          if_holds lim side (fits_below lim s) (key_name ps (codes "undefined") n) s (sign (property_sign w) b ∷ r) (f (suc (here s)) (omega arith))
          ∙ alone_end lim side ps (codes "undefined") n s w b r (free_binding side (codes "undefined") (undefined_free side));
    }

-- METHODS
-- a method up to its body
pub record Opened (lim : Limits) (side : Side) (d : ℕ) (ps : Properties) (kind : FunctionKind) (key : PropKey) (xs : List (List ℕ)) (from : Option Stmts) (s : List Frame) (r : List Lexeme) : Type 0 where
  pub reach : ℕ
  pub within : reach ≤ suc (suc d + levels s)
  pub same : from ≡ runs lim side (body_open (function_head (method ps key reach) kind None) xs) s r

method_opens : {side : Side} {kind : FunctionKind} {w y : List Lexeme} {xs : List (List ℕ)} (lim : Limits) (d : ℕ) (key : PropKey) (x : List Lexeme) (h : SpellsMethodHead side kind w) (p : SpellsParams side lim.most xs y) → KeyFollows kind x → ReadsPropKey lim side (suc d) key x → ReadsMethodKey lim side (suc d) key x
    → ((ps : Properties) (n : ℕ) (s : List Frame) (r : List Lexeme) → SameLine x → runs lim side (key_async ps n) s (x ++ r) ≡ runs lim side (method_key ps Async n) s (x ++ r))
    → (ps : Properties) (n : ℕ) (s : List Frame) (r : List Lexeme) → n ≤ suc (suc d + levels s) → Fit lim (suc (suc d + levels s)) → Opened lim side d ps kind key xs (runs lim side (key_next ps n) s (w ++ (x ++ (y ++ r)))) s r
method_opens {side = side} {y = y} lim d key x sp_method_head p i q o g ps n s r j f =
    let a = q ps n s (y ++ r) (params_behind p r) (omega arith) j f in
    record {
      reach = a.reach;
      within = a.within;
      same = a.same ∙ params_read lim p (key_behind ps key a.reach) (function_head (method ps key a.reach) Normal None) s r (λ b. refl);
    }
method_opens {side = side} {y = y} lim d key x (sp_generator_head c) p i q o g ps n s r j f =
    let a = o ps Generator n s (y ++ r) j f in
    record {
      reach = a.reach;
      within = a.within;
      same =
          if_holds lim side (is_source side && fits_below lim s) (method_key ps Generator n) s (x ++ (y ++ r)) (both (is_source side) (fits_below lim s) (source_passes c) (f (suc (here s)) (omega arith)))
          ∙ a.same
          ∙ params_read lim p (method_open ps Generator key a.reach) (function_head (method ps key a.reach) Generator None) s r (λ b. refl);
    }
method_opens {side = Source} {y = y} lim d key x (sp_async_head c) p i q o g ps n s r j f =
    let a = o ps Async n s (y ++ r) j f in
    record {
      reach = a.reach;
      within = a.within;
      same =
          if_holds lim Source (fits_below lim s) (key_async ps n) s (x ++ (y ++ r)) (f (suc (here s)) (omega arith))
          ∙ g ps n s (y ++ r) i
          ∙ a.same
          ∙ params_read lim p (method_open ps Async key a.reach) (function_head (method ps key a.reach) Async None) s r (λ b. refl);
    }
method_opens {side = Plain} lim d key x (sp_async_head c) p i q o g ps n s r j f = absurd (cc)

pub row_method : {side : Side} {kind : FunctionKind} {xs : List (List ℕ)} (lim : Limits) (b c : Bool) (d : ℕ) (key : PropKey) (ss : Stmts) (w x y z : List Lexeme) (h : SpellsMethodHead side kind w) (p : SpellsParams side lim.most xs y) → KeyFollows kind x → ReadsPropKey lim side (suc d) key x → ReadsMethodKey lim side (suc d) key x
    → ((ps : Properties) (n : ℕ) (s : List Frame) (r : List Lexeme) → SameLine x → runs lim side (key_async ps n) s (x ++ r) ≡ runs lim side (method_key ps Async n) s (x ++ r))
    → ReadsStmts lim side d ss z
    → ReadsProperty lim side (suc d) key (Function (code None kind xs ss)) (w ++ x ++ y ++ sign g.OpenBrace b ∷ (z ++ sign g.CloseBrace c ∷ []))
row_method {side = side} {kind = kind} {xs = xs} lim b c d key ss w x y z h p i q o a v ps n s e l r j f =
    let last : List Lexeme = sign (property_sign e) l ∷ r in
    let tail : List Lexeme = sign g.OpenBrace b ∷ (z ++ sign g.CloseBrace c ∷ []) in
    let head = method_opens lim d key x h p i q o a ps n s (tail ++ last) j f in
    let m : ℕ = max head.reach (suc (here s)) in
    let inner = v (body (function_head (method ps key head.reach) kind None) xs) end m s (sign g.CloseBrace c ∷ last) tt (fit_less lim f (omega arith)) in
    record {
      reach = inner.reach;
      within = omega (arith, head.within, inner.within);
      same =
          ap (runs lim side (key_next ps n) s) (append_assoc (w ++ x ++ y) tail last ∙ append_assoc (w ++ x) y (tail ++ last) ∙ append_assoc w x (y ++ (tail ++ last)))
          ∙ head.same
          ∙ ap (runs lim side start (in_list (body (function_head (method ps key head.reach) kind None) xs) end m ∷ s)) (append_assoc z (sign g.CloseBrace c ∷ []) last)
          ∙ inner.same;
    }

-- LISTS OF PROPERTIES
pub row_one_property : (lim : Limits) (side : Side) (d : ℕ) (key : PropKey) (e : Expr) (x : List Lexeme) → ReadsProperty lim side d key e x → ReadsSome lim side d (with_property no_properties key e) x
row_one_property lim side d key e x p n s w b r i f = p no_properties n s w b r i f

pub row_more_properties : (lim : Limits) (side : Side) (c : Bool) (d : ℕ) (ps : Properties) (key : PropKey) (e : Expr) (x y : List Lexeme) → ReadsSome lim side d ps x → ReadsProperty lim side d key e y → ReadsSome lim side d (with_property ps key e) (x ++ sign g.Comma c ∷ y)
row_more_properties lim side c d ps key e x y q p n s w b r i f =
    let last : List Lexeme = sign (property_sign w) b ∷ r in
    let a1 = q n s true c (y ++ last) i f in
    let a2 = p ps a1.reach s w b r a1.within f in
    record {
      reach = a2.reach;
      within = a2.within;
      same = ap (runs lim side (key_next no_properties n) s) (append_assoc x (sign g.Comma c ∷ y) last) ∙ a1.same ∙ a2.same;
    }

pub row_no_properties : (lim : Limits) (side : Side) (d : ℕ) → ReadsProperties lim side d no_properties []
row_no_properties lim side d n s b r i f = record { reach = n; within = i; same = refl }

pub row_properties : (lim : Limits) (side : Side) (d : ℕ) (ps : Properties) (x : List Lexeme) → ReadsSome lim side d ps x → ReadsProperties lim side d ps x
row_properties lim side d ps x p n s b r i f = let a = p n s false b r i f in record { reach = a.reach; within = a.within; same = a.same }

pub row_properties_comma : (lim : Limits) (side : Side) (c : Bool) (d : ℕ) (ps : Properties) (x : List Lexeme) → ReadsSome lim side d ps x → ReadsProperties lim side d ps (x ++ sign g.Comma c ∷ [])
row_properties_comma lim side c d ps x p n s b r i f =
    let a = p n s true c (sign g.CloseBrace b ∷ r) i f in
    record { reach = a.reach; within = a.within; same = ap (runs lim side (key_next no_properties n) s) (append_assoc x (sign g.Comma c ∷ []) (sign g.CloseBrace b ∷ r)) ∙ a.same }

pub row_object : (lim : Limits) (side : Side) (b c : Bool) (l d : ℕ) (ps : Properties) (x : List Lexeme) → ReadsProperties lim side d ps x → Operand lim side l (suc d) (Object ps) (sign g.OpenBrace b ∷ (x ++ sign g.CloseBrace c ∷ []))
row_object lim side b c l d ps x p s r i j m =
    let a = p (here s) s c r (omega arith) (fit_less lim m.deep (omega arith)) in
    record {
      reach = a.reach;
      within = omega (arith, a.within);
      same =
          ap (after lim side ((x ++ sign g.CloseBrace c ∷ []) ++ r)) (opens lim side s (t.Sign g.OpenBrace) (m.deep (here s) (omega arith)) m.more)
          ∙ if_holds lim side (cond (begins_statement s) false true) (key_next no_properties (here s)) s ((x ++ sign g.CloseBrace c ∷ []) ++ r) (ap (λ e. cond e false true) (inside s (sign g.OpenBrace b ∷ (x ++ sign g.CloseBrace c ∷ [])) (λ e. e) m.starts))
          ∙ ap (runs lim side (key_next no_properties (here s)) s) (append_assoc x (sign g.CloseBrace c ∷ []) r)
          ∙ a.same;
    }
