-- The items of a let and of a const are read.
use Rattle.std.proofs.Common.{◌≡◌, ℕ, suc, max, ◌+◌, ◌≤◌, List, [], ◌∷◌, ◌++◌, Bool, true, false, refl, ◌∙◌, ap, arith, append_assoc}
use Rattle.actx_grammar.specs.declared.side.Side.{Side}
use Rattle.actx_grammar.specs.declared.token.Sign.{Sign}
use Rattle.actx_grammar.specs.declared.token.Sign.TheVariants as g
use Rattle.actx_grammar.specs.declared.token.TokenKind.TheVariants as t
use Rattle.actx_grammar.specs.Grammar.{with_let, with_const}
use Rattle.actx_grammar.specs.Lexemes.{Lexeme, sign, lexeme}
use Rattle.actx_grammar.specs.Names.{IsBinding}
use Rattle.actx_grammar.specs.ParserOperands.{is_binding, fits_below, end_lets, end_consts}
use Rattle.actx_grammar.specs.ParserState.{Limits, ItemsOf, Frame, in_let, in_const, need, have, let_name, let_behind, const_name, const_behind, Move, go, levels, here}
use Rattle.actx_grammar.specs.Tree.{Expr, MaybeExpr, no_expr, some_expr, LetItems, no_lets, ConstItems, no_consts}
use Rattle.actx_laws.proofs.ParseLevels.{binds}
use Rattle.actx_laws.proofs.ParseNames.{binding_passes}
use Rattle.actx_laws.proofs.ParseReads.{Operand}
use Rattle.actx_laws.proofs.ParseRuns.{runs, after, Gives, Fit, fit_less, if_holds}

-- what stands behind an item
abbrev pub item_sign : Bool → Sign
item_sign true = g.Comma
item_sign false = g.Semicolon

ends_item : (w b : Bool) (r : List Lexeme) → binds (sign (item_sign w) b ∷ r) ≤ 1
ends_item true b r = omega arith
ends_item false b r = omega arith

abbrev pub lets_go : Bool → ItemsOf → LetItems → ℕ → List Frame → Move
lets_go true of is n s = go (let_name of is n) s
lets_go false of is n s = end_lets of is n s

abbrev pub consts_go : Bool → ItemsOf → ConstItems → ℕ → List Frame → Move
consts_go true of is n s = go (const_name of is n) s
consts_go false of is n s = end_consts of is n s

abbrev pub ReadsLet : Limits → Side → ℕ → List ℕ → MaybeExpr → List Lexeme → Type 0
ReadsLet lim side d x v y = (of : ItemsOf) (is : LetItems) (n : ℕ) (s : List Frame) (w b : Bool) (r : List Lexeme) → n ≤ suc (d + levels s) → Fit lim (suc (d + levels s))
    → Gives (runs lim side (let_name of is n) s (y ++ sign (item_sign w) b ∷ r)) (suc (d + levels s)) (λ j. after lim side r (lets_go w of (with_let is x v) j s))

abbrev pub ReadsLets : Limits → Side → ℕ → LetItems → List Lexeme → Type 0
ReadsLets lim side d is y = (of : ItemsOf) (n : ℕ) (s : List Frame) (w b : Bool) (r : List Lexeme) → n ≤ suc (d + levels s) → Fit lim (suc (d + levels s))
    → Gives (runs lim side (let_name of no_lets n) s (y ++ sign (item_sign w) b ∷ r)) (suc (d + levels s)) (λ j. after lim side r (lets_go w of is j s))

abbrev pub ReadsConsts : Limits → Side → ℕ → ConstItems → List Lexeme → Type 0
ReadsConsts lim side d is y = (of : ItemsOf) (n : ℕ) (s : List Frame) (w b : Bool) (r : List Lexeme) → n ≤ suc (d + levels s) → Fit lim (suc (d + levels s))
    → Gives (runs lim side (const_name of no_consts n) s (y ++ sign (item_sign w) b ∷ r)) (suc (d + levels s)) (λ j. after lim side r (consts_go w of is j s))

-- LET
let_read : (lim : Limits) (side : Side) (of : ItemsOf) (is : LetItems) (x : List ℕ) (c : Bool) (n : ℕ) (s : List Frame) (r : List Lexeme) → IsBinding side x → runs lim side (let_name of is n) s (lexeme (t.Name x) c ∷ r) ≡ runs lim side (let_behind of is x n) s r
let_read lim side of is x c n s r h = if_holds lim side (is_binding side x) (let_behind of is x n) s r (binding_passes h)

alone_end : (lim : Limits) (side : Side) (of : ItemsOf) (is : LetItems) (x : List ℕ) (n : ℕ) (s : List Frame) (w b : Bool) (r : List Lexeme) → runs lim side (let_behind of is x n) s (sign (item_sign w) b ∷ r) ≡ after lim side r (lets_go w of (with_let is x no_expr) n s)
alone_end lim side of is x n s true b r = refl
alone_end lim side of is x n s false b r = refl

let_end : (lim : Limits) (side : Side) (of : ItemsOf) (is : LetItems) (x : List ℕ) (e : Expr) (m n : ℕ) (s : List Frame) (w b : Bool) (r : List Lexeme)
    → runs lim side (have e n) (in_let of is x m ∷ s) (sign (item_sign w) b ∷ r) ≡ after lim side r (lets_go w of (with_let is x (some_expr e)) (max m n) s)
let_end lim side of is x e m n s true b r = refl
let_end lim side of is x e m n s false b r = refl

pub row_let_alone : (lim : Limits) (side : Side) (c : Bool) (d : ℕ) (x : List ℕ) → IsBinding side x → ReadsLet lim side d x no_expr (lexeme (t.Name x) c ∷ [])
row_let_alone lim side c d x h of is n s w b r i f =
    record { reach = n; within = i; same = let_read lim side of is x c n s (sign (item_sign w) b ∷ r) h ∙ alone_end lim side of is x n s w b r }

pub row_let_value : (lim : Limits) (side : Side) (c l : Bool) (d : ℕ) (x : List ℕ) (e : Expr) (y : List Lexeme) → 1 ≤ d → IsBinding side x → Operand lim side 1 d e y → ReadsLet lim side d x (some_expr e) (lexeme (t.Name x) c ∷ sign g.Assign l ∷ y)
row_let_value lim side c l d x e y v h p of is n s w b r i f =
    let last : List Lexeme = sign (item_sign w) b ∷ r in
    let a = p (in_let of is x n ∷ s) last (omega arith) (ends_item w b r) (record { deep = fit_less lim f (omega arith); more = refl; starts = tt }) in
    record {
      reach = max n a.reach;
      within = omega (arith, a.within);
      same =
          let_read lim side of is x c n s (sign g.Assign l ∷ (y ++ last)) h
          ∙ if_holds lim side (fits_below lim s) need (in_let of is x n ∷ s) (y ++ last) (f (suc (here s)) (omega arith))
          ∙ a.same
          ∙ let_end lim side of is x e n a.reach s w b r;
    }

pub row_one_let : (lim : Limits) (side : Side) (d : ℕ) (x : List ℕ) (v : MaybeExpr) (y : List Lexeme) → ReadsLet lim side d x v y → ReadsLets lim side d (with_let no_lets x v) y
row_one_let lim side d x v y p of n s w b r i f = p of no_lets n s w b r i f

pub row_more_lets : (lim : Limits) (side : Side) (c : Bool) (d : ℕ) (is : LetItems) (x : List ℕ) (v : MaybeExpr) (y z : List Lexeme) → ReadsLets lim side d is y → ReadsLet lim side d x v z → ReadsLets lim side d (with_let is x v) (y ++ sign g.Comma c ∷ z)
row_more_lets lim side c d is x v y z q p of n s w b r i f =
    let last : List Lexeme = sign (item_sign w) b ∷ r in
    let a1 = q of n s true c (z ++ last) i f in
    let a2 = p of is a1.reach s w b r a1.within f in
    record { reach = a2.reach; within = a2.within; same = ap (runs lim side (let_name of no_lets n) s) (append_assoc y (sign g.Comma c ∷ z) last) ∙ a1.same ∙ a2.same }

-- CONST
const_end : (lim : Limits) (side : Side) (of : ItemsOf) (is : ConstItems) (x : List ℕ) (e : Expr) (m n : ℕ) (s : List Frame) (w b : Bool) (r : List Lexeme)
    → runs lim side (have e n) (in_const of is x m ∷ s) (sign (item_sign w) b ∷ r) ≡ after lim side r (consts_go w of (with_const is x e) (max m n) s)
const_end lim side of is x e m n s true b r = refl
const_end lim side of is x e m n s false b r = refl

-- one item behind others
const_read : (lim : Limits) (side : Side) (c l : Bool) (d : ℕ) (is : ConstItems) (x : List ℕ) (e : Expr) (y : List Lexeme) → IsBinding side x → Operand lim side 1 d e y → (of : ItemsOf) (n : ℕ) (s : List Frame) (w b : Bool) (r : List Lexeme) → n ≤ suc (d + levels s) → Fit lim (suc (d + levels s))
    → Gives (runs lim side (const_name of is n) s (lexeme (t.Name x) c ∷ sign g.Assign l ∷ (y ++ sign (item_sign w) b ∷ r))) (suc (d + levels s)) (λ j. after lim side r (consts_go w of (with_const is x e) j s))
const_read lim side c l d is x e y h p of n s w b r i f =
    let last : List Lexeme = sign (item_sign w) b ∷ r in
    let a = p (in_const of is x n ∷ s) last (omega arith) (ends_item w b r) (record { deep = fit_less lim f (omega arith); more = refl; starts = tt }) in
    record {
      reach = max n a.reach;
      within = omega (arith, a.within);
      same =
          if_holds lim side (is_binding side x) (const_behind of is x n) s (sign g.Assign l ∷ (y ++ last)) (binding_passes h)
          ∙ a.same
          ∙ const_end lim side of is x e n a.reach s w b r;
    }

pub row_one_const : (lim : Limits) (side : Side) (c l : Bool) (d : ℕ) (x : List ℕ) (e : Expr) (y : List Lexeme) → IsBinding side x → Operand lim side 1 d e y → ReadsConsts lim side d (with_const no_consts x e) (lexeme (t.Name x) c ∷ sign g.Assign l ∷ y)
row_one_const lim side c l d x e y h p of n s w b r i f = const_read lim side c l d no_consts x e y h p of n s w b r i f

pub row_more_consts : (lim : Limits) (side : Side) (k c l : Bool) (d : ℕ) (is : ConstItems) (x : List ℕ) (e : Expr) (y z : List Lexeme) → ReadsConsts lim side d is y → IsBinding side x → Operand lim side 1 d e z → ReadsConsts lim side d (with_const is x e) (y ++ sign g.Comma k ∷ lexeme (t.Name x) c ∷ sign g.Assign l ∷ z)
row_more_consts lim side k c l d is x e y z q h p of n s w b r i f =
    let last : List Lexeme = sign (item_sign w) b ∷ r in
    let item : List Lexeme = lexeme (t.Name x) c ∷ sign g.Assign l ∷ z in
    let a1 = q of n s true k (item ++ last) i f in
    let a2 = const_read lim side c l d is x e z h p of a1.reach s w b r a1.within f in
    record { reach = a2.reach; within = a2.within; same = ap (runs lim side (const_name of no_consts n) s) (append_assoc y (sign g.Comma k ∷ item) last) ∙ a1.same ∙ a2.same }
