-- The keys of properties are read.
use Rattle.std.proofs.Common.{◌≡◌, ℕ, suc, max, ◌+◌, ◌≤◌, List, [], ◌∷◌, ◌++◌, Bool, true, false, Option, Some, None, refl, ◌∙◌, ap, arith, append_assoc}
use Rattle.std.specs.Prelude.{codes}
use Rattle.actx_grammar.specs.declared.operators.FunctionKind.{FunctionKind}
use Rattle.actx_grammar.specs.declared.operators.FunctionKind.TheVariants.{Async}
use Rattle.actx_grammar.specs.declared.side.Side.{Side}
use Rattle.actx_grammar.specs.declared.side.Side.TheVariants.{Source, Plain}
use Rattle.actx_grammar.specs.declared.token.Keyword.{Keyword}
use Rattle.actx_grammar.specs.declared.token.Keyword.TheVariants as k
use Rattle.actx_grammar.specs.declared.token.Sign.TheVariants as g
use Rattle.actx_grammar.specs.declared.token.TokenKind.{TokenKind}
use Rattle.actx_grammar.specs.declared.token.TokenKind.TheVariants as t
use Rattle.actx_grammar.specs.Grammar.{SpellsParams, sp_no_params, sp_params, sp_params_comma, SpellsPropKey, sp_fixed, sp_computed}
use Rattle.actx_grammar.specs.Lexemes.{Lexeme, sign, SameLine}
use Rattle.actx_grammar.specs.Names.{key_of}
use Rattle.actx_grammar.specs.Parser.{move}
use Rattle.actx_grammar.specs.ParserFunctions.{at_method_key}
use Rattle.actx_grammar.specs.ParserOperands.{fits_below}
use Rattle.actx_grammar.specs.ParserState.{Limits, Frame, in_computed, need, key_next, key_behind, key_name, key_async, method_key, method_open, go, levels, here}
use Rattle.actx_grammar.specs.Tree.{Expr, PropKey, Fixed, Computed, Properties}
use Rattle.actx_grammar.specs.Words.{keyword_text, word_units}
use Rattle.actx_laws.proofs.ParseReads.{Operand}
use Rattle.actx_laws.proofs.ParseRuns.{runs, after, Gives, Fit, fit_less, if_holds}

-- what stands behind the key of a value or of a method
abbrev pub BehindKeyKind : TokenKind → Type 0
BehindKeyKind (t.Sign g.Colon) = Unit {0}
BehindKeyKind (t.Sign g.OpenParen) = Unit {0}
BehindKeyKind _ = ⊥

abbrev pub BehindKey : List Lexeme → Type 0
BehindKey [] = ⊥
BehindKey (w ∷ r) = BehindKeyKind w.kind

-- the key of a value or a plain method, and that of a method of another kind
abbrev pub ReadsPropKey : Limits → Side → ℕ → PropKey → List Lexeme → Type 0
ReadsPropKey lim side d key x = (ps : Properties) (n : ℕ) (s : List Frame) (r : List Lexeme) → BehindKey r → 1 ≤ d → n ≤ suc (d + levels s) → Fit lim (suc (d + levels s)) → Gives (runs lim side (key_next ps n) s (x ++ r)) (suc (d + levels s)) (λ j. runs lim side (key_behind ps key j) s r)

abbrev pub ReadsMethodKey : Limits → Side → ℕ → PropKey → List Lexeme → Type 0
ReadsMethodKey lim side d key x = (ps : Properties) (kind : FunctionKind) (n : ℕ) (s : List Frame) (r : List Lexeme) → n ≤ suc (d + levels s) → Fit lim (suc (d + levels s)) → Gives (runs lim side (method_key ps kind n) s (x ++ r)) (suc (d + levels s)) (λ j. runs lim side (method_open ps kind key j) s r)

-- FIXED KEYS
name_move : (lim : Limits) (side : Side) (ps : Properties) (y : List ℕ) (n : ℕ) (s : List Frame) (u : TokenKind) (b : Bool) → BehindKeyKind u → move lim side (key_name ps y n) s u b ≡ move lim side (key_behind ps (Fixed (word_units y)) n) s u b
name_move lim side ps y n s (t.Sign g.Colon) b h = refl
name_move lim side ps y n s (t.Sign g.OpenParen) b h = refl
name_move lim side ps y n s (t.Sign _) b h = absurd h
name_move lim side ps y n s _ b h = absurd h

async_move : (lim : Limits) (side : Side) (ps : Properties) (n : ℕ) (s : List Frame) (u : TokenKind) (b : Bool) → BehindKeyKind u → move lim side (key_async ps n) s u b ≡ move lim side (key_behind ps (Fixed (word_units (codes "async"))) n) s u b
async_move lim side ps n s (t.Sign g.Colon) b h = refl
async_move lim side ps n s (t.Sign g.OpenParen) b h = refl
async_move lim side ps n s (t.Sign _) b h = absurd h
async_move lim side ps n s _ b h = absurd h

name_behind : (lim : Limits) (side : Side) (ps : Properties) (y : List ℕ) (n : ℕ) (s : List Frame) (r : List Lexeme) → BehindKey r → runs lim side (key_name ps y n) s r ≡ runs lim side (key_behind ps (Fixed (word_units y)) n) s r
name_behind lim side ps y n s [] h = absurd h
name_behind lim side ps y n s (w ∷ r) h = ap (after lim side r) (name_move lim side ps y n s w.kind w.line_before h)

async_behind : (lim : Limits) (side : Side) (ps : Properties) (n : ℕ) (s : List Frame) (r : List Lexeme) → BehindKey r → runs lim side (key_async ps n) s r ≡ runs lim side (key_behind ps (Fixed (word_units (codes "async"))) n) s r
async_behind lim side ps n s [] h = absurd h
async_behind lim side ps n s (w ∷ r) h = ap (after lim side r) (async_move lim side ps n s w.kind w.line_before h)

word_read : (lim : Limits) (side : Side) (ps : Properties) (w : Keyword) (b : Bool) (n : ℕ) (s : List Frame) (r : List Lexeme) → BehindKey r → fits_below lim s ≡ true
    → after lim side r (move lim side (key_next ps n) s (t.Keyword w) b) ≡ runs lim side (key_behind ps (Fixed (word_units (keyword_text w))) n) s r
word_read lim Source ps k.Async b n s r h f = if_holds lim Source (fits_below lim s) (key_async ps n) s r f ∙ async_behind lim Source ps n s r h
word_read lim Plain ps k.Async b n s r h f = if_holds lim Plain (fits_below lim s) (key_behind ps (Fixed (word_units (keyword_text k.Async))) n) s r f
word_read lim side ps w b n s r h f = if_holds lim side (fits_below lim s) (key_behind ps (Fixed (word_units (keyword_text w))) n) s r f

fixed_read : (lim : Limits) (side : Side) (ps : Properties) (w : TokenKind) (b : Bool) (u : List ℕ) (n : ℕ) (s : List Frame) (r : List Lexeme) → key_of w ≡ Some u → BehindKey r → fits_below lim s ≡ true
    → after lim side r (move lim side (key_next ps n) s w b) ≡ runs lim side (key_behind ps (Fixed u) n) s r
fixed_read lim side ps (t.Name y) b u n s r q h f =
    let e : word_units y ≡ u = cc in
    if_holds lim side (fits_below lim s) (key_name ps y n) s r f
    ∙ name_behind lim side ps y n s r h
    ∙ ap (λ z. runs lim side (key_behind ps (Fixed z) n) s r) e
fixed_read lim side ps (t.Keyword y) b u n s r q h f =
    let e : word_units (keyword_text y) ≡ u = cc in
    word_read lim side ps y b n s r h f
    ∙ ap (λ z. runs lim side (key_behind ps (Fixed z) n) s r) e
fixed_read lim side ps (t.Text y) b u n s r q h f =
    let e : y ≡ u = cc in
    if_holds lim side (fits_below lim s) (key_behind ps (Fixed y) n) s r f
    ∙ ap (λ z. runs lim side (key_behind ps (Fixed z) n) s r) e
fixed_read lim side ps (t.Number y) b u n s r q h f = absurd (cc)
fixed_read lim side ps (t.Sign y) b u n s r q h f = absurd (cc)

pub row_fixed : (lim : Limits) (side : Side) (w : Lexeme) (u : List ℕ) (d : ℕ) → key_of w.kind ≡ Some u → ReadsPropKey lim side d (Fixed u) (w ∷ [])
row_fixed lim side w u d q ps n s r h i j f =
    record { reach = n; within = j; same = fixed_read lim side ps w.kind w.line_before u n s r q h (f (suc (here s)) (omega arith)) }

method_fixed : (lim : Limits) (side : Side) (ps : Properties) (kind : FunctionKind) (w : TokenKind) (u : List ℕ) (n : ℕ) (s : List Frame) → key_of w ≡ Some u → at_method_key ps kind n s w ≡ go (method_open ps kind (Fixed u) n) s
method_fixed lim side ps kind (t.Name y) u n s q = let e : word_units y ≡ u = cc in ap (λ z. go (method_open ps kind (Fixed z) n) s) e
method_fixed lim side ps kind (t.Keyword y) u n s q = let e : word_units (keyword_text y) ≡ u = cc in ap (λ z. go (method_open ps kind (Fixed z) n) s) e
method_fixed lim side ps kind (t.Text y) u n s q = let e : y ≡ u = cc in ap (λ z. go (method_open ps kind (Fixed z) n) s) e
method_fixed lim side ps kind (t.Number y) u n s q = absurd (cc)
method_fixed lim side ps kind (t.Sign y) u n s q = absurd (cc)

pub row_method_fixed : (lim : Limits) (side : Side) (w : Lexeme) (u : List ℕ) (d : ℕ) → key_of w.kind ≡ Some u → ReadsMethodKey lim side d (Fixed u) (w ∷ [])
row_method_fixed lim side w u d q ps kind n s r j f =
    record { reach = n; within = j; same = ap (after lim side r) (method_fixed lim side ps kind w.kind u n s q) }

-- COMPUTED KEYS
pub row_computed : (lim : Limits) (side : Side) (b c : Bool) (d : ℕ) (e : Expr) (x : List Lexeme) → Operand lim side 1 d e x → ReadsPropKey lim side d (Computed e) (sign g.OpenBracket b ∷ (x ++ sign g.CloseBracket c ∷ []))
row_computed lim side b c d e x p ps n s r h i j f =
    let a = p (in_computed ps None n ∷ s) (sign g.CloseBracket c ∷ r) (omega arith) (omega arith) (record { deep = fit_less lim f (omega arith); more = refl; starts = tt }) in
    record {
      reach = max n a.reach;
      within = omega (arith, a.within);
      same =
          if_holds lim side (fits_below lim s) need (in_computed ps None n ∷ s) ((x ++ sign g.CloseBracket c ∷ []) ++ r) (f (suc (here s)) (omega arith))
          ∙ ap (runs lim side need (in_computed ps None n ∷ s)) (append_assoc x (sign g.CloseBracket c ∷ []) r)
          ∙ a.same;
    }

pub row_method_computed : (lim : Limits) (side : Side) (b c : Bool) (d : ℕ) (e : Expr) (x : List Lexeme) → Operand lim side 1 d e x → ReadsMethodKey lim side d (Computed e) (sign g.OpenBracket b ∷ (x ++ sign g.CloseBracket c ∷ []))
row_method_computed lim side b c d e x p ps kind n s r j f =
    let a = p (in_computed ps (Some kind) n ∷ s) (sign g.CloseBracket c ∷ r) (omega arith) (omega arith) (record { deep = fit_less lim f (omega arith); more = refl; starts = tt }) in
    record {
      reach = max n a.reach;
      within = omega (arith, a.within);
      same =
          ap (runs lim side need (in_computed ps (Some kind) n ∷ s)) (append_assoc x (sign g.CloseBracket c ∷ []) r)
          ∙ a.same;
    }

-- BEHIND ASYNC
key_move : (ps : Properties) (n : ℕ) (lim : Limits) (side : Side) (s : List Frame) (w : TokenKind) (u : List ℕ) → key_of w ≡ Some u → move lim side (key_async ps n) s w false ≡ at_method_key ps Async n s w
key_move ps n lim side s (t.Name y) u q = refl
key_move ps n lim side s (t.Keyword y) u q = refl
key_move ps n lim side s (t.Text y) u q = refl
key_move ps n lim side s (t.Number y) u q = absurd (cc)
key_move ps n lim side s (t.Sign y) u q = absurd (cc)

pub async_key : {side : Side} {most : Option ℕ} {d : ℕ} {key : PropKey} {x : List Lexeme} (lim : Limits) (p : SpellsPropKey side most d key x) (ps : Properties) (n : ℕ) (s : List Frame) (r : List Lexeme) → SameLine x → runs lim side (key_async ps n) s (x ++ r) ≡ runs lim side (method_key ps Async n) s (x ++ r)
async_key {side = side} lim (sp_fixed {u = u} {w = w} h q) ps n s r i =
    ap (λ b. after lim side r (move lim side (key_async ps n) s w.kind b)) i
    ∙ ap (after lim side r) (key_move ps n lim side s w.kind u q)
async_key lim (sp_computed false c p) ps n s r i = refl
async_key lim (sp_computed true c p) ps n s r i = absurd (cc)

pub params_behind : {side : Side} {most : Option ℕ} {xs : List (List ℕ)} {y : List Lexeme} → SpellsParams side most xs y → (r : List Lexeme) → BehindKey (y ++ r)
params_behind sp_no_params r = tt
params_behind (sp_params b c n a) r = tt
params_behind (sp_params_comma b c d n a) r = tt
