-- A step within the items of a let or const, or within the head of a for, keeps what was read in order.
use Rattle.std.proofs.Common.{◌≡◌, ℕ, List, [], ◌∷◌, ◌++◌, Bool, true, false, Option, refl, sym, subst, arith, append_assoc}
use Rattle.std.specs.Prelude.{codes}
use Rattle.actx_grammar.specs.declared.side.Side.{Side}
use Rattle.actx_grammar.specs.declared.side.Side.TheVariants.{Source, Plain}
use Rattle.actx_grammar.specs.declared.token.Keyword.TheVariants as k
use Rattle.actx_grammar.specs.declared.token.Sign.TheVariants as g
use Rattle.actx_grammar.specs.declared.token.TokenKind.{TokenKind}
use Rattle.actx_grammar.specs.declared.token.TokenKind.TheVariants as t
use Rattle.actx_grammar.specs.Grammar.{with_let, SpellsLets, sp_one_let, sp_more_lets, SpellsConsts, sp_one_const, sp_more_consts, sp_let_alone, sp_absent, sp_init_nothing}
use Rattle.actx_grammar.specs.Lexemes.{Lexeme, sign, keyword, lexeme}
use Rattle.actx_grammar.specs.Names.{IsBinding}
use Rattle.actx_grammar.specs.Parser.{at_of, at_let_name, at_let_behind, at_const_name, at_const_behind, at_for, at_for_test, at_for_update}
use Rattle.actx_grammar.specs.ParserOperands.{same_word, is_binding, fits_below, end_lets}
use Rattle.actx_grammar.specs.ParserState.{Limits, fits, ItemsOf, of_statement, of_for, Frame, in_let, in_for_init, in_for_test, in_for_update, in_for_over, need, let_name, let_behind, const_behind, here}
use Rattle.actx_grammar.specs.Tree.{LetItems, no_lets, let_item, ConstItems, no_consts, const_item, no_expr, Init, MaybeExpr}
use Rattle.actx_grammar.specs.Words.{HasForm}
use Rattle.actx_laws.proofs.ParseNames.{same_decides}
use Rattle.actx_laws.proofs.ViableTests.{binding_is}
use Rattle.actx_laws.proofs.ViableParts.{Deep, none_begun_lets, all_begun_lets, none_begun_consts, all_begun_consts}
use Rattle.actx_laws.proofs.ViableOpen.{Opens, op_let, op_const, op_for_init, op_for_test, op_for_update, op_for_over, op_for, items_of_for, InLets, in_lets, InConsts, in_consts, InFor, in_for, InTest, in_test}
use Rattle.actx_laws.proofs.ViableModes.{Viable, v_body_start, v_need, v_let_name, v_let_behind, v_const_behind, v_for_test, v_for_update, After, chosen, opens_along, viable_along, after_along}
use Rattle.actx_laws.proofs.ViableLists.{lets_more}
use Rattle.actx_laws.proofs.ViableEnded.{end_lets_viable}
use Rattle.actx_laws.proofs.ViableBehind.{here_deep}
use Rattle.actx_laws.proofs.ViableBegin.{need_viable}
use Rattle.actx_laws.proofs.ViableStart.{lets_begun, consts_begun}

-- no items are no list
some_lets : {side : Side} {most : Option ℕ} {n : ℕ} {is : LetItems} {y : List Lexeme} → SpellsLets side most n is y → is ≡ no_lets → ⊥
some_lets (sp_one_let p) q = absurd (cc)
some_lets (sp_more_lets {is = no_lets} b ps p) q = absurd (cc)
some_lets (sp_more_lets {is = let_item x v is} b ps p) q = absurd (cc)

some_consts : {side : Side} {most : Option ℕ} {n : ℕ} {is : ConstItems} {y : List Lexeme} → SpellsConsts side most n is y → is ≡ no_consts → ⊥
some_consts (sp_one_const h p) q = absurd (cc)
some_consts (sp_more_consts {is = no_consts} b c f ps h p) q = absurd (cc)
some_consts (sp_more_consts {is = const_item x e is} b c f ps h p) q = absurd (cc)

-- LET
pub let_name_viable : {lim : Limits} {side : Side} (of : ItemsOf) (is : LetItems) (r : ℕ) (s : List Frame) (u : TokenKind) (b : Bool) (q : List Lexeme) → InLets lim side of is r s q → HasForm u → After lim side (at_let_name side of is r s u) (q ++ lexeme u b ∷ [])
let_name_viable {lim} {side} of is r s (t.Name x) b q o f = chosen lim side (is_binding side x) (let_behind of is x r) s (q ++ lexeme (t.Name x) b ∷ []) (λ w. v_let_behind b o (binding_is side x f w))
let_name_viable of is r s _ b q o f = tt

let_comma : {lim : Limits} {side : Side} {of : ItemsOf} {is : LetItems} {r : ℕ} {s : List Frame} {q : List Lexeme} (x : List ℕ) (c b : Bool) → InLets lim side of is r s q → IsBinding side x → Viable lim side (let_name of (with_let is x no_expr) r) s ((q ++ lexeme (t.Name x) c ∷ []) ++ sign g.Comma b ∷ [])
let_comma x c b (in_lets {q = q} {y = y} {n = n} it ls d) w = viable_along (simp append_assoc) (v_let_name (in_lets it (all_begun_lets b (lets_more n ls (sp_let_alone {d = n} {b = c} w) (omega arith) (omega arith))) d))

let_ended : {lim : Limits} {side : Side} {of : ItemsOf} {is : LetItems} {r : ℕ} {s : List Frame} {q : List Lexeme} (x : List ℕ) (c b : Bool) → InLets lim side of is r s q → IsBinding side x → After lim side (end_lets of (with_let is x no_expr) r s) ((q ++ lexeme (t.Name x) c ∷ []) ++ sign g.Semicolon b ∷ [])
let_ended {lim} {side} {of} {is} {r} {s} x c b (in_lets {q = q} {y = y} {n = n} it ls d) w = after_along lim side (end_lets of (with_let is x no_expr) r s) (simp append_assoc) (end_lets_viable b it (lets_more n ls (sp_let_alone {d = n} {b = c} w) (omega arith) (omega arith)) d)

let_over : {lim : Limits} (side : Side) {r : ℕ} {s : List Frame} {q : List Lexeme} (x z : List ℕ) (c b : Bool) → InLets lim side of_for no_lets r s q → IsBinding side x → After lim side (at_of side false x z s) ((q ++ lexeme (t.Name x) c ∷ []) ++ lexeme (t.Name z) b ∷ [])
let_over Plain x z c b o w = tt
let_over {lim} Source {s = s} x z c b (in_lets (items_of_for {p = p} i j h o) none_begun_lets d) w =
    chosen lim Source (same_word z (codes "of")) need (in_for_over false x ∷ s) ((((p ++ keyword k.For i ∷ sign g.OpenParen j ∷ keyword k.Let h ∷ []) ++ []) ++ lexeme (t.Name x) c ∷ []) ++ lexeme (t.Name z) b ∷ []) (λ v.
    let same : codes "of" ≡ z = sym ((same_decides z (codes "of")).0 v) in
    subst (λ y. Viable lim Source need (in_for_over false x ∷ s) ((((p ++ keyword k.For i ∷ sign g.OpenParen j ∷ keyword k.Let h ∷ []) ++ []) ++ lexeme (t.Name x) c ∷ []) ++ lexeme (t.Name y) b ∷ [])) same
    (v_need (opens_along (simp append_assoc) (op_for_over {constant = false} i j h c b refl w o)) (λ y u l. tt)))
let_over {lim} Source x z c b (in_lets it (all_begun_lets {is = no_lets} i ls) d) w = absurd (some_lets ls refl)

pub let_behind_viable : {lim : Limits} {side : Side} (of : ItemsOf) (is : LetItems) (x : List ℕ) (r : ℕ) (s : List Frame) (c : Bool) (u : TokenKind) (b : Bool) (q : List Lexeme) → InLets lim side of is r s q → IsBinding side x → After lim side (at_let_behind lim side of is x r s u) ((q ++ lexeme (t.Name x) c ∷ []) ++ lexeme u b ∷ [])
let_behind_viable {lim} {side} of is x r s c (t.Sign g.Assign) b q o w = chosen lim side (fits_below lim s) need (in_let of is x r ∷ s) ((q ++ lexeme (t.Name x) c ∷ []) ++ sign g.Assign b ∷ []) (λ v. v_need (opens_along (sym (append_assoc q (lexeme (t.Name x) c ∷ []) (sign g.Assign b ∷ []))) (op_let c b o w)) (λ y u i. tt))
let_behind_viable of is x r s c (t.Sign g.Comma) b q o w = let_comma x c b o w
let_behind_viable of is x r s c (t.Sign g.Semicolon) b q o w = let_ended x c b o w
let_behind_viable {side = side} of_for no_lets x r s c (t.Name z) b q o w = let_over side x z c b o w
let_behind_viable of_for (let_item y v is) x r s c (t.Name z) b q o w = tt
let_behind_viable of_statement is x r s c (t.Name z) b q o w = tt
let_behind_viable of is x r s c (t.Sign _) b q o w = tt
let_behind_viable of is x r s c _ b q o w = tt

-- CONST
pub const_name_viable : {lim : Limits} {side : Side} (of : ItemsOf) (is : ConstItems) (r : ℕ) (s : List Frame) (u : TokenKind) (b : Bool) (q : List Lexeme) → InConsts lim side of is r s q → HasForm u → After lim side (at_const_name side of is r s u) (q ++ lexeme u b ∷ [])
const_name_viable {lim} {side} of is r s (t.Name x) b q o f = chosen lim side (is_binding side x) (const_behind of is x r) s (q ++ lexeme (t.Name x) b ∷ []) (λ w. v_const_behind b o (binding_is side x f w))
const_name_viable of is r s _ b q o f = tt

const_over : {lim : Limits} (side : Side) {r : ℕ} {s : List Frame} {q : List Lexeme} (x z : List ℕ) (c b : Bool) → InConsts lim side of_for no_consts r s q → IsBinding side x → After lim side (at_of side true x z s) ((q ++ lexeme (t.Name x) c ∷ []) ++ lexeme (t.Name z) b ∷ [])
const_over Plain x z c b o w = tt
const_over {lim} Source {s = s} x z c b (in_consts (items_of_for {p = p} i j h o) none_begun_consts d) w =
    chosen lim Source (same_word z (codes "of")) need (in_for_over true x ∷ s) ((((p ++ keyword k.For i ∷ sign g.OpenParen j ∷ keyword k.Const h ∷ []) ++ []) ++ lexeme (t.Name x) c ∷ []) ++ lexeme (t.Name z) b ∷ []) (λ v.
    let same : codes "of" ≡ z = sym ((same_decides z (codes "of")).0 v) in
    subst (λ y. Viable lim Source need (in_for_over true x ∷ s) ((((p ++ keyword k.For i ∷ sign g.OpenParen j ∷ keyword k.Const h ∷ []) ++ []) ++ lexeme (t.Name x) c ∷ []) ++ lexeme (t.Name y) b ∷ [])) same
    (v_need (opens_along (simp append_assoc) (op_for_over {constant = true} i j h c b refl w o)) (λ y u l. tt)))
const_over {lim} Source x z c b (in_consts it (all_begun_consts {is = no_consts} i ls) d) w = absurd (some_consts ls refl)

pub const_behind_viable : {lim : Limits} {side : Side} (of : ItemsOf) (is : ConstItems) (x : List ℕ) (r : ℕ) (s : List Frame) (c : Bool) (u : TokenKind) (b : Bool) (q : List Lexeme) → InConsts lim side of is r s q → IsBinding side x → After lim side (at_const_behind side of is x r s u) ((q ++ lexeme (t.Name x) c ∷ []) ++ lexeme u b ∷ [])
const_behind_viable of is x r s c (t.Sign g.Assign) b q o w = v_need (opens_along (sym (append_assoc q (lexeme (t.Name x) c ∷ []) (sign g.Assign b ∷ []))) (op_const c b o w)) (λ y u i. tt)
const_behind_viable {side = side} of_for no_consts x r s c (t.Name z) b q o w = const_over side x z c b o w
const_behind_viable of_for (const_item y v is) x r s c (t.Name z) b q o w = tt
const_behind_viable of_statement is x r s c (t.Name z) b q o w = tt
const_behind_viable of is x r s c (t.Sign _) b q o w = tt
const_behind_viable of is x r s c _ b q o w = tt

-- FOR
pub for_viable : {lim : Limits} {side : Side} (s : List Frame) (c i : Bool) (u : TokenKind) (b : Bool) (p : List Lexeme) → Opens lim side s p → fits lim (here s) ≡ true → HasForm u → After lim side (at_for lim side s u) ((p ++ keyword k.For c ∷ sign g.OpenParen i ∷ []) ++ lexeme u b ∷ [])
for_viable s c i (t.Keyword k.Let) b p o w f = viable_along (simp append_assoc) (lets_begun (items_of_for c i b o) w)
for_viable s c i (t.Keyword k.Const) b p o w f = viable_along (simp append_assoc) (consts_begun (items_of_for c i b o) w)
for_viable s c i (t.Sign g.Semicolon) b p o w f = viable_along (simp append_assoc) (v_for_test (in_for {w = []} {n = 0} c i b o sp_init_nothing (here_deep w)))
for_viable s c i (t.Keyword v) b p o w f = need_viable (in_for_init ∷ s) (t.Keyword v) b (p ++ keyword k.For c ∷ sign g.OpenParen i ∷ []) (op_for_init c i o) (λ y u. tt) f
for_viable s c i (t.Sign v) b p o w f = need_viable (in_for_init ∷ s) (t.Sign v) b (p ++ keyword k.For c ∷ sign g.OpenParen i ∷ []) (op_for_init c i o) (λ y u. tt) f
for_viable s c i (t.Name v) b p o w f = need_viable (in_for_init ∷ s) (t.Name v) b (p ++ keyword k.For c ∷ sign g.OpenParen i ∷ []) (op_for_init c i o) (λ y u. tt) f
for_viable s c i (t.Number v) b p o w f = need_viable (in_for_init ∷ s) (t.Number v) b (p ++ keyword k.For c ∷ sign g.OpenParen i ∷ []) (op_for_init c i o) (λ y u. tt) f
for_viable s c i (t.Text v) b p o w f = need_viable (in_for_init ∷ s) (t.Text v) b (p ++ keyword k.For c ∷ sign g.OpenParen i ∷ []) (op_for_init c i o) (λ y u. tt) f

for_least : {lim : Limits} {side : Side} {i : Init} {r : ℕ} {s : List Frame} {q : List Lexeme} → InFor lim side i r s q → Deep lim 1 s r
for_least (in_for b c f o p d) = record { reach = omega (arith, d.reach); within = d.within }

test_least : {lim : Limits} {side : Side} {i : Init} {test : MaybeExpr} {r : ℕ} {s : List Frame} {q : List Lexeme} → InTest lim side i test r s q → Deep lim 1 s r
test_least (in_test f o p d) = record { reach = omega (arith, d.reach); within = d.within }

pub for_test_viable : {lim : Limits} {side : Side} (i : Init) (r : ℕ) (s : List Frame) (u : TokenKind) (b : Bool) (q : List Lexeme) → InFor lim side i r s q → HasForm u → After lim side (at_for_test lim side i r s u) (q ++ lexeme u b ∷ [])
for_test_viable i r s (t.Sign g.Semicolon) b q o f = v_for_update (in_test {x = []} {n = 0} b o sp_absent (for_least o))
for_test_viable i r s (t.Sign v) b q o f = need_viable (in_for_test i r ∷ s) (t.Sign v) b q (op_for_test o) (λ y u. tt) f
for_test_viable i r s (t.Name v) b q o f = need_viable (in_for_test i r ∷ s) (t.Name v) b q (op_for_test o) (λ y u. tt) f
for_test_viable i r s (t.Keyword v) b q o f = need_viable (in_for_test i r ∷ s) (t.Keyword v) b q (op_for_test o) (λ y u. tt) f
for_test_viable i r s (t.Number v) b q o f = need_viable (in_for_test i r ∷ s) (t.Number v) b q (op_for_test o) (λ y u. tt) f
for_test_viable i r s (t.Text v) b q o f = need_viable (in_for_test i r ∷ s) (t.Text v) b q (op_for_test o) (λ y u. tt) f

pub for_update_viable : {lim : Limits} {side : Side} (i : Init) (test : MaybeExpr) (r : ℕ) (s : List Frame) (u : TokenKind) (b : Bool) (q : List Lexeme) → InTest lim side i test r s q → HasForm u → After lim side (at_for_update lim side i test r s u) (q ++ lexeme u b ∷ [])
for_update_viable i test r s (t.Sign g.CloseParen) b q o f = v_body_start (op_for {y = []} {n = 0} b o sp_absent (test_least o))
for_update_viable i test r s (t.Sign v) b q o f = need_viable (in_for_update i test r ∷ s) (t.Sign v) b q (op_for_update o) (λ y u. tt) f
for_update_viable i test r s (t.Name v) b q o f = need_viable (in_for_update i test r ∷ s) (t.Name v) b q (op_for_update o) (λ y u. tt) f
for_update_viable i test r s (t.Keyword v) b q o f = need_viable (in_for_update i test r ∷ s) (t.Keyword v) b q (op_for_update o) (λ y u. tt) f
for_update_viable i test r s (t.Number v) b q o f = need_viable (in_for_update i test r ∷ s) (t.Number v) b q (op_for_update o) (λ y u. tt) f
for_update_viable i test r s (t.Text v) b q o f = need_viable (in_for_update i test r ∷ s) (t.Text v) b q (op_for_update o) (λ y u. tt) f
