-- Each row of an expression is spelled by its own tokens where its parts are.
use Rattle.std.proofs.Common.{◌≡◌, ℕ, suc, ◌≤◌, max, Bool, true, false, List, [], ◌∷◌, ◌++◌, Option, Some, refl, sym, ap, ◌∙◌, arith, codes, nat_lt}
use Rattle.actx_grammar.specs.declared.operators.BinaryOp.{BinaryOp}
use Rattle.actx_grammar.specs.declared.operators.BinaryOp.TheVariants as o
use Rattle.actx_grammar.specs.declared.operators.Form.{Form}
use Rattle.actx_grammar.specs.declared.operators.Form.TheVariants as f
use Rattle.actx_grammar.specs.declared.operators.LogicOp.TheVariants.{And}
use Rattle.actx_grammar.specs.declared.operators.UnaryOp.{UnaryOp}
use Rattle.actx_grammar.specs.declared.side.Side.{Side}
use Rattle.actx_grammar.specs.declared.side.Side.TheVariants.{Source, Plain}
use Rattle.actx_grammar.specs.declared.token.Keyword.TheVariants as k
use Rattle.actx_grammar.specs.declared.token.Sign.{Sign}
use Rattle.actx_grammar.specs.declared.token.Sign.TheVariants as g
use Rattle.actx_grammar.specs.declared.token.TokenKind.TheVariants as t
use Rattle.actx_grammar.specs.Forms.{unary_word, level_of, sign_of, change_of, bump_sign, form_words, HasWords, Suits}
use Rattle.actx_grammar.specs.Layout.{ends_line, laid_from}
use Rattle.actx_grammar.specs.Names.{IsBinding, IsReference}
use Rattle.actx_grammar.specs.Words.{greatest_number, HasForm}
use Rattle.actx_grammar.specs.Tree.{Expr, Exprs, Key, Properties, Num, Text, Truth, Null, Undefined, This, Named, Unary, Binary, Logic, Choice, SetName, SetMember, Change, Bump, Member, Call, Object, Yield, YieldAll, Await, Built, also, no_expr, some_expr}
use Rattle.actx_grammar.specs.Grammar.{count, Spells, sp_yield_nothing, sp_yield, sp_yield_all, sp_set_name, sp_set_member, sp_change, sp_choice, sp_and, sp_binary, sp_unary, sp_await, sp_bump_before, sp_bump_behind, sp_member, sp_call, sp_form, sp_call_with, sp_name, sp_number, sp_text, sp_true, sp_false, sp_null, sp_undefined, sp_this, sp_object}
use Rattle.actx_grammar.specs.Spell.{Start, begins, round, braced, in_parens, change_sign, spell, spell_key, spell_list, spell_properties, inner}
use Rattle.actx_grammar.specs.Depth.{with_parens, depth, depth_key, depth_list, depth_properties}
use Rattle.actx_laws.proofs.SpellDeeper.{deeper, deeper_key, deeper_arguments}
use Rattle.actx_laws.proofs.SpellLaid.{after, laid_append, kinds_laid, same_line, laid_braced, leveled, parted}
use Rattle.actx_laws.proofs.SpellSaid.{Said, Chained, Exact, KeySaid, ArgumentsSaid, PropertiesSaid}

-- WITHOUT LEVELS
leaf : {side : Side} {most : Option ℕ} {e : Expr} → Said side most e → Chained side most e → Exact side most e
leaf p q = record { said = p; chained = q }

pub number_exact : {side : Side} {most : Option ℕ} (n : ℕ) → n ≤ greatest_number → Exact side most (Num n)
number_exact n h = leaf (λ b st m. sp_number h) tt

pub text_exact : {side : Side} {most : Option ℕ} (u : List ℕ) → HasForm (t.Text u) → Exact side most (Text u)
text_exact u h = leaf (λ b st m. sp_text h) tt

pub true_exact : {side : Side} {most : Option ℕ} → Exact side most (Truth true)
true_exact = leaf (λ b st m. sp_true) tt

pub false_exact : {side : Side} {most : Option ℕ} → Exact side most (Truth false)
false_exact = leaf (λ b st m. sp_false) tt

pub null_exact : {side : Side} {most : Option ℕ} → Exact side most Null
null_exact = leaf (λ b st m. sp_null) tt

pub undefined_exact : {side : Side} {most : Option ℕ} → Exact side most Undefined
undefined_exact = leaf (λ b st m. sp_undefined) tt

pub this_exact : {side : Side} {most : Option ℕ} → Exact side most This
this_exact = leaf (λ b st m. sp_this) tt

pub name_exact : {side : Side} {most : Option ℕ} (x : List ℕ) → IsReference side x → Exact side most (Named x)
name_exact x h = leaf (λ b st m. sp_name h) tt

pub object_exact : {side : Side} {most : Option ℕ} (ps : Properties) → PropertiesSaid side most ps → Exact side most (Object ps)
object_exact ps p = leaf (λ b st m. parted (braced (spell_properties ps)) (suc (depth_properties ps)) (begins st) (λ c n. rw (laid_braced c (spell_properties ps)) (sp_object c (after true (spell_properties ps)) (p true))) b m) tt

-- WITH THEIR PARTS INSIDE
pub yield_nothing_exact : {side : Side} {most : Option ℕ} → side ≡ Source → Exact side most (Yield no_expr)
yield_nothing_exact s = leaf (leveled 1 (λ st. t.Keyword k.Yield ∷ []) (λ st. 1) (omega arith) (λ b st m i. sp_yield_nothing s i)) tt

pub yield_exact : {side : Side} {most : Option ℕ} (e : Expr) → side ≡ Source → Said side most e → Exact side most (Yield (some_expr e))
yield_exact e s p = leaf (leveled 1 (λ st. t.Keyword k.Yield ∷ spell inner e 1) (λ st. suc (depth inner e 1)) (omega arith) (λ b st m i. sp_yield s i (p false inner 1) (same_line (spell inner e 1)))) tt

pub yield_all_exact : {side : Side} {most : Option ℕ} (e : Expr) → side ≡ Source → Said side most e → Exact side most (YieldAll e)
yield_all_exact e s p = leaf (leveled 1 (λ st. t.Keyword k.Yield ∷ t.Sign g.Star ∷ spell inner e 1) (λ st. suc (depth inner e 1)) (omega arith) (λ b st m i. sp_yield_all s i (p false inner 1))) tt

pub await_exact : {side : Side} {most : Option ℕ} (e : Expr) → side ≡ Source → Said side most e → Exact side most (Await e)
await_exact e s p = leaf (leveled 9 (λ st. t.Keyword k.Await ∷ spell inner e 9) (λ st. suc (depth inner e 9)) (omega arith) (λ b st m i. sp_await s i (p false inner 9))) tt

pub unary_exact : {side : Side} {most : Option ℕ} (op : UnaryOp) (e : Expr) → Said side most e → Exact side most (Unary op e)
unary_exact op e p = leaf (leveled 9 (λ st. unary_word op ∷ spell inner e 9) (λ st. suc (depth inner e 9)) (omega arith) (λ b st m i. sp_unary op i (p (ends_line (unary_word op)) inner 9))) tt

pub set_name_exact : {side : Side} {most : Option ℕ} (x : List ℕ) (e : Expr) → IsBinding side x → Said side most e → Exact side most (SetName x e)
set_name_exact x e h p = leaf (leveled 1 (λ st. t.Name x ∷ t.Sign g.Assign ∷ spell inner e 1) (λ st. suc (depth inner e 1)) (omega arith) (λ b st m i. sp_set_name i h (p false inner 1))) tt

change_signs : (op : BinaryOp) (sg : Sign) → change_of op ≡ Some sg → change_sign op ≡ sg
change_signs o.Add sg h = cc
change_signs o.Sub sg h = cc
change_signs o.Mul sg h = cc
change_signs _ sg h = absurd (cc)

pub change_exact : {side : Side} {most : Option ℕ} (x : List ℕ) (op : BinaryOp) (sg : Sign) (e : Expr) → IsBinding side x → change_of op ≡ Some sg → Said side most e → Exact side most (Change x op e)
change_exact x op sg e h q p =
    let r : change_of op ≡ Some (change_sign op) = q ∙ ap Some (sym (change_signs op sg q)) in
    leaf (leveled 1 (λ st. t.Name x ∷ t.Sign (change_sign op) ∷ spell inner e 1) (λ st. suc (depth inner e 1)) (omega arith) (λ b st m i. sp_change i h r (p (ends_line (t.Sign (change_sign op))) inner 1))) tt

pub bump_before_exact : {side : Side} {most : Option ℕ} (x : List ℕ) (up : Bool) → IsBinding side x → Exact side most (Bump x up true)
bump_before_exact x up h = leaf (leveled 10 (λ st. t.Sign (bump_sign up) ∷ t.Name x ∷ []) (λ st. 1) (omega arith) (λ b st m i. sp_bump_before i h)) tt

pub bump_behind_exact : {side : Side} {most : Option ℕ} (x : List ℕ) (up : Bool) → IsBinding side x → Exact side most (Bump x up false)
bump_behind_exact x up h = leaf (leveled 10 (λ st. t.Name x ∷ t.Sign (bump_sign up) ∷ []) (λ st. 1) (omega arith) (λ b st m i. sp_bump_behind i h)) tt

-- WITH A PART ON THE LEFT
level_some : (op : BinaryOp) → 1 ≤ level_of op
level_some o.Same = omega arith
level_some _ = omega arith

binary_row : {side : Side} {most : Option ℕ} (op : BinaryOp) (e f : Expr) → Said side most e → Said side most f → (b : Bool) (st : Start) (m : ℕ) → m ≤ level_of op
    → Spells side most m (suc (max (depth st e (level_of op)) (depth inner f (suc (level_of op))))) (Binary op e f) (laid_from b (spell st e (level_of op) ++ t.Sign (sign_of op) ∷ spell inner f (suc (level_of op))))
binary_row op e f p q b st m i =
    rw (laid_append b (spell st e (level_of op)) (t.Sign (sign_of op) ∷ spell inner f (suc (level_of op))))
    (sp_binary {d = max (depth st e (level_of op)) (depth inner f (suc (level_of op)))} op (after b (spell st e (level_of op))) i (deeper (p b st (level_of op)) (omega arith)) (deeper (q (ends_line (t.Sign (sign_of op))) inner (suc (level_of op))) (omega arith)))

pub binary_exact : {side : Side} {most : Option ℕ} (op : BinaryOp) (e f : Expr) → Said side most e → Said side most f → Exact side most (Binary op e f)
binary_exact op e f p q =
    leaf (leveled (level_of op) (λ st. spell st e (level_of op) ++ t.Sign (sign_of op) ∷ spell inner f (suc (level_of op))) (λ st. suc (max (depth st e (level_of op)) (depth inner f (suc (level_of op))))) (level_some op) (binary_row op e f p q)) tt

pub and_exact : {side : Side} {most : Option ℕ} (e f : Expr) → Said side most e → Said side most f → Exact side most (Logic And e f)
and_exact {side} {most} e f p q =
    leaf (leveled 4 (λ st. spell st e 4 ++ t.Sign g.And ∷ spell inner f 5) (λ st. suc (max (depth st e 4) (depth inner f 5))) (omega arith)
    (λ b st m i. rw (laid_append b (spell st e 4) (t.Sign g.And ∷ spell inner f 5)) (sp_and {d = max (depth st e 4) (depth inner f 5)} (after b (spell st e 4)) i (deeper (p b st 4) (omega arith)) (deeper (q false inner 5) (omega arith))))) tt

pub choice_exact : {side : Side} {most : Option ℕ} (e f v : Expr) → Said side most e → Said side most f → Said side most v → Exact side most (Choice e f v)
choice_exact {side} {most} e f v p q r =
    leaf (leveled 2 (λ st. spell st e 3 ++ t.Sign g.Question ∷ (spell inner f 1 ++ t.Sign g.Colon ∷ spell inner v 1)) (λ st. suc (max (depth st e 3) (max (depth inner f 1) (depth inner v 1)))) (omega arith)
    (λ b st m i. rw (laid_append b (spell st e 3) (t.Sign g.Question ∷ (spell inner f 1 ++ t.Sign g.Colon ∷ spell inner v 1))) (rw (laid_append false (spell inner f 1) (t.Sign g.Colon ∷ spell inner v 1))
    (sp_choice {d = max (depth st e 3) (max (depth inner f 1) (depth inner v 1))} (after b (spell st e 3)) (after false (spell inner f 1)) i (deeper (p b st 3) (omega arith)) (deeper (q false inner 1) (omega arith)) (deeper (r false inner 1) (omega arith)))))) tt

pub member_exact : {side : Side} {most : Option ℕ} (e : Expr) (key : Key) → Said side most e → KeySaid side most key → Exact side most (Member e key)
member_exact {side} {most} e key p q =
    leaf (leveled 11 (λ st. spell st e 11 ++ spell_key key) (λ st. suc (max (depth st e 11) (depth_key key))) (omega arith)
    (λ b st m i. rw (laid_append b (spell st e 11) (spell_key key)) (sp_member {d = max (depth st e 11) (depth_key key)} i (deeper (p b st 11) (omega arith)) (deeper_key (q (after b (spell st e 11))) (omega arith))))) tt

pub set_member_exact : {side : Side} {most : Option ℕ} (e : Expr) (key : Key) (v : Expr) → Said side most e → KeySaid side most key → Said side most v → Exact side most (SetMember e key v)
set_member_exact {side} {most} e key v p q r =
    leaf (leveled 1 (λ st. spell st e 11 ++ spell_key key ++ t.Sign g.Assign ∷ spell inner v 1) (λ st. suc (max (depth st e 11) (max (depth_key key) (depth inner v 1)))) (omega arith)
    (λ b st m i. rw (laid_append b (spell st e 11 ++ spell_key key) (t.Sign g.Assign ∷ spell inner v 1)) (rw (laid_append b (spell st e 11) (spell_key key))
    (sp_set_member {d = max (depth st e 11) (max (depth_key key) (depth inner v 1))} (after b (spell st e 11 ++ spell_key key)) i (deeper (p b st 11) (omega arith)) (deeper_key (q (after b (spell st e 11))) (omega arith)) (deeper (r false inner 1) (omega arith)))))) tt

pub call_exact : {side : Side} {most : Option ℕ} (f : Expr) (es : Exprs) → Said side most f → ArgumentsSaid side most es → Exact side most (Call f es)
call_exact {side} {most} f es p q =
    leaf (leveled 11 (λ st. spell st f 11 ++ round (spell_list es)) (λ st. suc (max (depth st f 11) (depth_list es))) (omega arith)
    (λ b st m i. rw (laid_append b (spell st f 11) (round (spell_list es))) (sp_call {d = max (depth st f 11) (depth_list es)} i (deeper (p b st 11) (omega arith)) (deeper_arguments (q (after b (spell st f 11))) (omega arith))))) tt

-- FORMS
pub call_with_exact : {side : Side} {most : Option ℕ} (e : Expr) (es : Exprs) → side ≡ Plain → Said side most e → ArgumentsSaid side most es → Exact side most (Built f.CallWith (also e es))
call_with_exact {side} {most} e es s p q =
    leaf (leveled 11 (λ st. spell st e 11 ++ t.Sign g.Dot ∷ t.Name (codes "call") ∷ round (spell_list es)) (λ st. suc (max (depth st e 11) (depth_list es))) (omega arith)
    (λ b st m i. rw (laid_append b (spell st e 11) (t.Sign g.Dot ∷ t.Name (codes "call") ∷ round (spell_list es))) (sp_call_with {d = max (depth st e 11) (depth_list es)} (after b (spell st e 11)) false s i (deeper (p b st 11) (omega arith)) (deeper_arguments (q false) (omega arith))))) tt

form_said : {side : Side} {most : Option ℕ} (form : Form) (es : Exprs) → HasWords side form → ArgumentsSaid side most es → Suits form (count es) → (b : Bool) (m : ℕ) → m ≤ 11
    → Spells side most m (suc (depth_list es)) (Built form es) (laid_from b (form_words form ++ round (spell_list es)))
form_said form es w q s b m i = rw (laid_append b (form_words form) (round (spell_list es))) (sp_form form (laid_from b (form_words form)) i w (sym (kinds_laid b (form_words form))) (q (after b (form_words form))) s)

form_spelled : (side : Side) (form : Form) (es : Exprs) → HasWords side form → (st : Start) (m : ℕ) → spell st (Built form es) m ≡ in_parens (nat_lt 11 m) (form_words form ++ round (spell_list es))
form_spelled Source f.CallWith es w st m = absurd w
form_spelled Plain f.CallWith es w st m = absurd w
form_spelled side f.Log es w st m = refl
form_spelled side _ es w st m = refl

form_deep : (side : Side) (form : Form) (es : Exprs) → HasWords side form → (st : Start) (m : ℕ) → depth st (Built form es) m ≡ with_parens (nat_lt 11 m) (suc (depth_list es))
form_deep Source f.CallWith es w st m = absurd w
form_deep Plain f.CallWith es w st m = absurd w
form_deep side f.Log es w st m = refl
form_deep side _ es w st m = refl

pub form_exact : {side : Side} {most : Option ℕ} (form : Form) (es : Exprs) → HasWords side form → ArgumentsSaid side most es → Suits form (count es) → Exact side most (Built form es)
form_exact {side} {most} form es w q s =
    leaf (λ b st m. rw (form_spelled side form es w st m) (rw (form_deep side form es w st m) (leveled 11 (λ z. form_words form ++ round (spell_list es)) (λ z. suc (depth_list es)) (omega arith) (λ c z n i. form_said form es w q s c n i) b st m))) tt
