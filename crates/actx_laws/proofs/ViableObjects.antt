-- A step within an object literal, behind a dot or within the words of a form keeps what was read in order.
use Rattle.std.proofs.Common.{◌≡◌, ℕ, suc, max, List, [], ◌∷◌, ◌++◌, Bool, true, false, ◌&&◌, Option, Some, None, cond, refl, sym, ◌∙◌, ap, subst, arith, append_assoc}
use Rattle.std.proofs.lemmas.Bool.Decides.{not_from_Decides}
use Rattle.std.specs.Prelude.{codes, if◌then◌else◌}
use Rattle.actx_grammar.specs.declared.operators.Form.{Form}
use Rattle.actx_grammar.specs.declared.operators.FunctionKind.{FunctionKind}
use Rattle.actx_grammar.specs.declared.operators.FunctionKind.TheVariants.{Generator, Async}
use Rattle.actx_grammar.specs.declared.side.Side.{Side}
use Rattle.actx_grammar.specs.declared.side.Side.TheVariants.{Source, Plain}
use Rattle.actx_grammar.specs.declared.token.Keyword.{Keyword}
use Rattle.actx_grammar.specs.declared.token.Keyword.TheVariants as k
use Rattle.actx_grammar.specs.declared.token.Sign.TheVariants as g
use Rattle.actx_grammar.specs.declared.token.TokenKind.{TokenKind}
use Rattle.actx_grammar.specs.declared.token.TokenKind.TheVariants as t
use Rattle.actx_grammar.specs.Forms.{form_words, HasWords}
use Rattle.actx_grammar.specs.Grammar.{SpellsPropKey, SpellsProperty, SpellsMethodHead, sp_method_head, sp_async_head, KeyFollows, sp_fixed, sp_name_alone, sp_undefined_alone, SpellsSome, sp_properties, sp_dot}
use Rattle.actx_grammar.specs.Lexemes.{Lexeme, sign, keyword, lexeme, kinds}
use Rattle.actx_grammar.specs.Names.{IsBinding, IsKey, word_of, key_of}
use Rattle.actx_grammar.specs.ParserFunctions.{at_key, at_fixed, at_key_word, behind_key, behind_key_name, alone, at_method_key, behind_async, at_method, behind_property, member_word, at_call, open_form, at_words}
use Rattle.actx_grammar.specs.ParserOperands.{same_word, is_binding, is_source, named, fits_below, forms_of, same_token, begins_with, goes_on, form_with, words_go}
use Rattle.actx_grammar.specs.ParserState.{Limits, fits, Frame, in_computed, need, have, key_next, key_behind, key_name, key_async, method_key, method_open, have_member, call_open, words_next, here, go}
use Rattle.actx_grammar.specs.Tree.{Expr, Undefined, Named, Object, Properties, PropKey, Fixed, Dot}
use Rattle.actx_grammar.specs.Words.{HasForm, IsName, keyword_text, word_units}
use Rattle.actx_laws.proofs.ParseBegins.{kinds_append}
use Rattle.actx_laws.proofs.ParseNames.{same_decides}
use Rattle.actx_laws.proofs.ViableTests.{and_left, and_right, none_allowed, source_is, binding_is, reference_is}
use Rattle.actx_laws.proofs.ViableParts.{Deep, none_begun, all_begun_properties, opening_key, opening_method}
use Rattle.actx_laws.proofs.ViableOpen.{Sp, op_computed, op_property, op_form, op_call_with, Place, InObject, in_object, head_method}
use Rattle.actx_laws.proofs.ViableModes.{Viable, v_need, v_have, v_have_member, v_param_next, v_key_next, v_key_behind, v_key_name, v_key_async, v_method_key, v_method_open, v_call_open, v_words_next, After, chosen, fits_of, place_on, opens_along, viable_along}
use Rattle.actx_laws.proofs.ViableParts.{none_begun_names}
use Rattle.actx_laws.proofs.ViableClosed.{object_made, object_closed, object_more}
use Rattle.actx_laws.proofs.ViableLists.{properties_done}
use Rattle.actx_laws.proofs.ViableBehind.{here_deep}

-- KEYS
-- as deep as the literal itself
least_deep : {lim : Limits} {side : Side} {ps : Properties} {r : ℕ} {s : List Frame} {q : List Lexeme} → InObject lim side ps r s q → Deep lim 1 s r
least_deep (in_object b at ps d) = record { reach = omega (arith, d.reach); within = d.within }

fixed_viable : {lim : Limits} {side : Side} (ps : Properties) (x : List ℕ) (r : ℕ) (s : List Frame) (q : List Lexeme) (w : Lexeme) → InObject lim side ps r s q → HasForm w.kind → key_of w.kind ≡ Some x → After lim side (at_fixed lim ps x r s) (q ++ w ∷ [])
fixed_viable {lim} {side} ps x r s q w o f i = chosen lim side (fits_below lim s) (key_behind ps (Fixed x) r) s (q ++ w ∷ []) (λ v. v_key_behind {n = 0} v o (sp_fixed f i) (least_deep o))

key_word_viable : {lim : Limits} (side : Side) (ps : Properties) (r : ℕ) (s : List Frame) (q : List Lexeme) (key : Keyword) (b : Bool) → InObject lim side ps r s q → After lim side (at_key_word lim side ps key r s) (q ++ keyword key b ∷ [])
key_word_viable {lim} Source ps r s q k.Async b o = chosen lim Source (fits_below lim s) (key_async ps r) s (q ++ keyword k.Async b ∷ []) (λ w. v_key_async b refl w o)
key_word_viable Source ps r s q key b o = fixed_viable ps (word_units (keyword_text key)) r s q (keyword key b) o tt refl
key_word_viable Plain ps r s q key b o = fixed_viable ps (word_units (keyword_text key)) r s q (keyword key b) o tt refl

object_ended : {lim : Limits} {side : Side} {ps : Properties} {r : ℕ} {s : List Frame} {q : List Lexeme} (b : Bool) → InObject lim side ps r s q → Viable lim side (have (Object ps) r) s (q ++ sign g.CloseBrace b ∷ [])
object_ended b (in_object c at ps d) = v_have (object_made c b at (properties_done ps) d)

pub key_next_viable : {lim : Limits} {side : Side} (ps : Properties) (r : ℕ) (s : List Frame) (q : List Lexeme) (v : TokenKind) (b : Bool) → InObject lim side ps r s q → HasForm v → After lim side (at_key lim side ps r s v) (q ++ lexeme v b ∷ [])
key_next_viable ps r s q (t.Sign g.CloseBrace) b o f = object_ended b o
key_next_viable {lim} {side} ps r s q (t.Name x) b o f = chosen lim side (fits_below lim s) (key_name ps x r) s (q ++ lexeme (t.Name x) b ∷ []) (λ w. v_key_name b w o f)
key_next_viable {lim} {side} ps r s q (t.Keyword key) b o f = key_word_viable side ps r s q key b o
key_next_viable ps r s q (t.Text x) b o f = fixed_viable ps x r s q (lexeme (t.Text x) b) o f refl
key_next_viable {lim} {side} ps r s q (t.Sign g.OpenBracket) b o f = chosen lim side (fits_below lim s) need (in_computed ps None r ∷ s) (q ++ sign g.OpenBracket b ∷ []) (λ w. v_need (op_computed b o opening_key) (λ y z i. tt))
key_next_viable {lim} {side} ps r s q (t.Sign g.Star) b o f = chosen lim side (is_source side && fits_below lim s) (method_key ps Generator r) s (q ++ sign g.Star b ∷ []) (λ w. v_method_key b (source_is (and_left (is_source side) (fits_below lim s) w)) (and_right (is_source side) (fits_below lim s) w) o)
key_next_viable ps r s q (t.Sign _) b o f = tt
key_next_viable ps r s q (t.Number n) b o f = tt

pub key_behind_viable : {lim : Limits} {side : Side} {n : ℕ} (ps : Properties) (key : PropKey) (r : ℕ) (s : List Frame) (q x : List Lexeme) (v : TokenKind) (b : Bool) → fits lim (suc (here s)) ≡ true → InObject lim side ps r s q → SpellsPropKey side lim.most n key x → Deep lim (suc n) s r → After lim side (behind_key ps key r s v) ((q ++ x) ++ lexeme v b ∷ [])
key_behind_viable ps key r s q x (t.Sign g.Colon) b w o d deep = v_need (opens_along (simp append_assoc) (op_property b o d deep)) (λ y z i. tt)
key_behind_viable ps key r s q x (t.Sign g.OpenParen) b w o d deep = v_param_next b (head_method {w = []} w o sp_method_head d tt deep) none_begun_names
key_behind_viable ps key r s q x (t.Sign _) b w o d deep = tt
key_behind_viable ps key r s q x _ b w o d deep = tt

alone_spells : {side : Side} {most : Option ℕ} (x : List ℕ) (b : Bool) → IsBinding side x → SpellsProperty side most 1 (Fixed (word_units x)) (named x) (lexeme (t.Name x) b ∷ [])
alone_spells {side} {most} x b h = pick (same_word x (codes "undefined")) refl
  where
    pick : (c : Bool) → same_word x (codes "undefined") ≡ c → SpellsProperty side most 1 (Fixed (word_units x)) (cond c Undefined (Named x)) (lexeme (t.Name x) b ∷ [])
    pick true q = let same : codes "undefined" ≡ x = sym ((same_decides x (codes "undefined")).0 q) in subst (λ z. SpellsProperty side most 1 (Fixed (word_units z)) Undefined (lexeme (t.Name z) b ∷ [])) same sp_undefined_alone
    pick false q = sp_name_alone refl (reference_is x h q)

alone_deep : {lim : Limits} {s : List Frame} → fits lim (suc (here s)) ≡ true → Deep lim 2 s (suc (here s))
alone_deep w = record { reach = omega arith; within = w }

pub key_name_viable : {lim : Limits} {side : Side} (ps : Properties) (x : List ℕ) (r : ℕ) (s : List Frame) (q : List Lexeme) (c : Bool) (v : TokenKind) (b : Bool) → fits lim (suc (here s)) ≡ true → InObject lim side ps r s q → IsName x → After lim side (behind_key_name side ps x r s v) ((q ++ lexeme (t.Name x) c ∷ []) ++ lexeme v b ∷ [])
key_name_viable {lim} {side} ps x r s q c (t.Sign g.Comma) b w o n = chosen lim side (is_binding side x) (key_next (alone ps x) (max r (suc (here s)))) s ((q ++ lexeme (t.Name x) c ∷ []) ++ sign g.Comma b ∷ []) (λ i. object_more b o (alone_spells x c (binding_is side x n i)) (alone_deep w))
key_name_viable {lim} {side} ps x r s q c (t.Sign g.CloseBrace) b w o n = chosen lim side (is_binding side x) (have (Object (alone ps x)) (max r (suc (here s)))) s ((q ++ lexeme (t.Name x) c ∷ []) ++ sign g.CloseBrace b ∷ []) (λ i. v_have (object_closed b o (alone_spells x c (binding_is side x n i)) (alone_deep w)))
key_name_viable ps x r s q c (t.Sign v) b w o n = key_behind_viable {n = 0} ps (Fixed (word_units x)) r s q (lexeme (t.Name x) c ∷ []) (t.Sign v) b w o (sp_fixed n refl) (least_deep o)
key_name_viable ps x r s q c (t.Name v) b w o n = tt
key_name_viable ps x r s q c (t.Keyword v) b w o n = tt
key_name_viable ps x r s q c (t.Number v) b w o n = tt
key_name_viable ps x r s q c (t.Text v) b w o n = tt

-- METHODS
method_fixed : {lim : Limits} {side : Side} {ps : Properties} {kind : FunctionKind} {r : ℕ} {s : List Frame} {q h : List Lexeme} (x : List ℕ) (w : Lexeme) → fits lim (suc (here s)) ≡ true → InObject lim side ps r s q → SpellsMethodHead side kind h → KeyFollows kind (w ∷ []) → HasForm w.kind → key_of w.kind ≡ Some x → Viable lim side (method_open ps kind (Fixed x) r) s ((q ++ h) ++ w ∷ [])
method_fixed {q = q} {h = h} x w fit o head follows f i = viable_along (sym (append_assoc q h (w ∷ []))) (v_method_open {n = 0} fit o head (sp_fixed f i) follows (least_deep o))

pub method_key_viable : {lim : Limits} {side : Side} (ps : Properties) (kind : FunctionKind) (r : ℕ) (s : List Frame) (q h : List Lexeme) (v : TokenKind) (b : Bool) → fits lim (suc (here s)) ≡ true → InObject lim side ps r s q → SpellsMethodHead side kind h → KeyFollows kind (lexeme v b ∷ []) → HasForm v → After lim side (at_method_key ps kind r s v) ((q ++ h) ++ lexeme v b ∷ [])
method_key_viable ps kind r s q h (t.Name x) b w o head follows f = method_fixed (word_units x) (lexeme (t.Name x) b) w o head follows f refl
method_key_viable ps kind r s q h (t.Keyword key) b w o head follows f = method_fixed (word_units (keyword_text key)) (keyword key b) w o head follows f refl
method_key_viable ps kind r s q h (t.Text x) b w o head follows f = method_fixed x (lexeme (t.Text x) b) w o head follows f refl
method_key_viable ps Async r s q h (t.Sign g.OpenBracket) b w o head follows f = v_need (opens_along (sym (append_assoc q h (sign g.OpenBracket b ∷ []))) (op_computed b o (opening_method head follows))) (λ y z i. tt)
method_key_viable ps kind r s q h (t.Sign g.OpenBracket) b w o head follows f = v_need (opens_along (sym (append_assoc q h (sign g.OpenBracket b ∷ []))) (op_computed b o (opening_method head follows))) (λ y z i. tt)
method_key_viable ps kind r s q h (t.Sign _) b w o head follows f = tt
method_key_viable ps kind r s q h (t.Number n) b w o head follows f = tt

pub key_async_viable : {lim : Limits} {side : Side} (ps : Properties) (r : ℕ) (s : List Frame) (q : List Lexeme) (c : Bool) (v : TokenKind) (b : Bool) → side ≡ Source → fits lim (suc (here s)) ≡ true → InObject lim side ps r s q → HasForm v → After lim side (behind_async ps r s v b) ((q ++ keyword k.Async c ∷ []) ++ lexeme v b ∷ [])
key_async_viable ps r s q c (t.Sign g.Colon) b i w o f = key_behind_viable {n = 0} ps (Fixed (codes "async")) r s q (keyword k.Async c ∷ []) (t.Sign g.Colon) b w o (sp_fixed tt refl) (least_deep o)
key_async_viable ps r s q c (t.Sign g.OpenParen) b i w o f = key_behind_viable {n = 0} ps (Fixed (codes "async")) r s q (keyword k.Async c ∷ []) (t.Sign g.OpenParen) b w o (sp_fixed tt refl) (least_deep o)
key_async_viable ps r s q c (t.Sign v) false i w o f = method_key_viable ps Async r s q (keyword k.Async c ∷ []) (t.Sign v) false w o (sp_async_head i) refl f
key_async_viable ps r s q c (t.Name v) false i w o f = method_key_viable ps Async r s q (keyword k.Async c ∷ []) (t.Name v) false w o (sp_async_head i) refl f
key_async_viable ps r s q c (t.Keyword v) false i w o f = method_key_viable ps Async r s q (keyword k.Async c ∷ []) (t.Keyword v) false w o (sp_async_head i) refl f
key_async_viable ps r s q c (t.Number v) false i w o f = method_key_viable ps Async r s q (keyword k.Async c ∷ []) (t.Number v) false w o (sp_async_head i) refl f
key_async_viable ps r s q c (t.Text v) false i w o f = method_key_viable ps Async r s q (keyword k.Async c ∷ []) (t.Text v) false w o (sp_async_head i) refl f
key_async_viable ps r s q c (t.Sign v) true i w o f = tt
key_async_viable ps r s q c _ true i w o f = tt

pub method_viable : {lim : Limits} {side : Side} {n : ℕ} (ps : Properties) (kind : FunctionKind) (key : PropKey) (r : ℕ) (s : List Frame) (q h x : List Lexeme) (v : TokenKind) (b : Bool) → fits lim (suc (here s)) ≡ true → InObject lim side ps r s q → SpellsMethodHead side kind h → SpellsPropKey side lim.most n key x → KeyFollows kind x → Deep lim (suc n) s r → After lim side (at_method ps kind key r s v) ((q ++ (h ++ x)) ++ lexeme v b ∷ [])
method_viable ps kind key r s q h x (t.Sign g.OpenParen) b w o head d follows deep = v_param_next b (head_method w o head d follows deep) none_begun_names
method_viable ps kind key r s q h x (t.Sign _) b w o head d follows deep = tt
method_viable ps kind key r s q h x _ b w o head d follows deep = tt

pub key_end_viable : {lim : Limits} {side : Side} {n : ℕ} (ps : Properties) (r : ℕ) (s : List Frame) (p y : List Lexeme) (c : Bool) (v : TokenKind) (b : Bool) → Place lim side s (sign g.OpenBrace c ∷ []) p → SpellsSome side lim.most n ps y → Deep lim (suc n) s r → After lim side (behind_property ps r s v) ((p ++ sign g.OpenBrace c ∷ y) ++ lexeme v b ∷ [])
key_end_viable ps r s p y c (t.Sign g.Comma) b at d deep = viable_along (simp append_assoc) (v_key_next (in_object c at (all_begun_properties b d) deep))
key_end_viable ps r s p y c (t.Sign g.CloseBrace) b at d deep = v_have (object_made c b at (sp_properties d) deep)
key_end_viable ps r s p y c (t.Sign _) b at d deep = tt
key_end_viable ps r s p y c _ b at d deep = tt

-- MEMBERS
key_is_word : (key : Keyword) → same_word (keyword_text key) (codes "call") ≡ false
key_is_word k.Async = refl
key_is_word _ = refl

plain_key : (x : List ℕ) → same_word x (codes "call") ≡ false → IsKey Plain x
plain_key x h = not_from_Decides (same_word x (codes "call")) (same_decides x (codes "call")) h

dotted : {lim : Limits} {side : Side} {n : ℕ} (e : Expr) (x : List ℕ) (r : ℕ) (s : List Frame) (p z : List Lexeme) (c : Bool) (w : Lexeme) → word_of w.kind ≡ Some x → HasForm w.kind → IsKey side x → Place lim side s z p → Sp lim side 11 n e z → Deep lim (suc n) s r → Viable lim side (have_member e (Dot x) r) s ((p ++ (z ++ sign g.Dot c ∷ [])) ++ w ∷ [])
dotted e x r s p z c w i f key at d deep = viable_along (simp append_assoc) (v_have_member at d (sp_dot {w = w} {b = c} i f key) deep)

pub member_name_viable : {lim : Limits} (side : Side) {n : ℕ} (e : Expr) (r : ℕ) (s : List Frame) (p z : List Lexeme) (c : Bool) (v : TokenKind) (b : Bool) → Place lim side s z p → Sp lim side 11 n e z → Deep lim (suc n) s r → HasForm v → After lim side (member_word side e (word_of v) r s) ((p ++ (z ++ sign g.Dot c ∷ [])) ++ lexeme v b ∷ [])
member_name_viable Source e r s p z c (t.Name x) b at d deep f = dotted e x r s p z c (lexeme (t.Name x) b) refl f tt at d deep
member_name_viable Source e r s p z c (t.Keyword key) b at d deep f = dotted e (keyword_text key) r s p z c (keyword key b) refl f tt at d deep
member_name_viable {lim} Plain e r s p z c (t.Name x) b at d deep f = pick (same_word x (codes "call")) refl
  where
    pick : (i : Bool) → same_word x (codes "call") ≡ i → After lim Plain (if i then go (call_open e r) s else go (have_member e (Dot x) r) s) ((p ++ (z ++ sign g.Dot c ∷ [])) ++ lexeme (t.Name x) b ∷ [])
    pick true q = let same : codes "call" ≡ x = sym ((same_decides x (codes "call")).0 q) in subst (λ y. Viable lim Plain (call_open e r) s ((p ++ (z ++ sign g.Dot c ∷ [])) ++ lexeme (t.Name y) b ∷ [])) same (viable_along (simp append_assoc) (v_call_open c b refl at d deep))
    pick false q = dotted e x r s p z c (lexeme (t.Name x) b) refl f (plain_key x q) at d deep
member_name_viable {lim} Plain e r s p z c (t.Keyword key) b at d deep f = pick (same_word (keyword_text key) (codes "call")) (key_is_word key)
  where
    pick : (i : Bool) → i ≡ false → After lim Plain (if i then go (call_open e r) s else go (have_member e (Dot (keyword_text key)) r) s) ((p ++ (z ++ sign g.Dot c ∷ [])) ++ keyword key b ∷ [])
    pick true q = absurd (cc)
    pick false q = dotted e (keyword_text key) r s p z c (keyword key b) refl f (plain_key (keyword_text key) (key_is_word key)) at d deep
member_name_viable side e r s p z c (t.Number n) b at d deep f = tt
member_name_viable side e r s p z c (t.Text n) b at d deep f = tt
member_name_viable side e r s p z c (t.Sign n) b at d deep f = tt

pub call_open_viable : {lim : Limits} {side : Side} {n : ℕ} (e : Expr) (r : ℕ) (s : List Frame) (p z : List Lexeme) (c i : Bool) (v : TokenKind) (b : Bool) → side ≡ Plain → Place lim side s z p → Sp lim side 11 n e z → Deep lim (suc n) s r → After lim side (at_call e r s v) ((p ++ (z ++ sign g.Dot c ∷ lexeme (t.Name (codes "call")) i ∷ [])) ++ lexeme v b ∷ [])
call_open_viable {lim} e r s p z c i (t.Sign g.OpenParen) b plain at d deep = v_need (opens_along (simp append_assoc) (op_call_with c i b plain at d none_begun (none_allowed lim.most) deep)) (λ y u j. tt)
call_open_viable e r s p z c i (t.Sign _) b plain at d deep = tt
call_open_viable e r s p z c i _ b plain at d deep = tt

-- FORMS
pub same_token_is : (v w : TokenKind) → same_token v w ≡ true → v ≡ w
same_token_is (t.Name x) (t.Name y) h = ap t.Name ((same_decides x y).0 h)
same_token_is (t.Keyword k.New) (t.Keyword k.New) h = refl
same_token_is (t.Sign g.Dot) (t.Sign g.Dot) h = refl
same_token_is _ _ h = absurd (cc)

pub same_words : (v w : List TokenKind) → begins_with v w ≡ true → begins_with w v ≡ true → v ≡ w
same_words [] [] h i = refl
same_words [] (w ∷ ws) h i = absurd (cc)
same_words (v ∷ vs) [] h i = absurd (cc)
same_words (v ∷ vs) (w ∷ ws) h i =
    let a : v ≡ w = same_token_is v w (and_left (same_token v w) (begins_with vs ws) h) in
    let b : vs ≡ ws = same_words vs ws (and_right (same_token v w) (begins_with vs ws) h) (and_right (same_token w v) (begins_with ws vs) i) in
    ap (λ z. z ∷ vs) a ∙ ap (λ z. w ∷ z) b

abbrev pub Worded : Side → List Form → Type 0
Worded side [] = Unit {0}
Worded side (form ∷ forms) = HasWords side form × Worded side forms

pub worded : (side : Side) → Worded side (forms_of side)
worded Source = (tt, (tt, (tt, (tt, (tt, (tt, (tt, (tt, (tt, (tt, (tt, (tt, (tt, (tt, (tt, tt)))))))))))))))
worded Plain = (tt, (tt, (tt, (tt, (tt, (tt, (tt, (tt, (tt, (tt, (tt, tt)))))))))))

pub record Found (side : Side) (ws : List TokenKind) (form : Form) : Type 0 where
  pub has : HasWords side form
  pub words : form_words form ≡ ws

pub found : {side : Side} (ws : List TokenKind) (forms : List Form) (form : Form) → Worded side forms → form_with ws forms ≡ Some form → Found side ws form
found ws [] form h q = absurd (cc)
found {side} ws (f ∷ forms) form h q = pick (begins_with (form_words f) ws && begins_with ws (form_words f)) refl q (λ j. found ws forms form h.1 j)
  where
    pick : (b : Bool) → (begins_with (form_words f) ws && begins_with ws (form_words f)) ≡ b → (if b then Some f else form_with ws forms) ≡ Some form → (form_with ws forms ≡ Some form → Found side ws form) → Found side ws form
    pick true i j on = let same : f ≡ form = cc in subst (λ z. Found side ws z) same (record { has = h.0; words = same_words (form_words f) ws (and_left (begins_with (form_words f) ws) (begins_with ws (form_words f)) i) (and_right (begins_with (form_words f) ws) (begins_with ws (form_words f)) i) })
    pick false i j on = on j

open_form_viable : {lim : Limits} {side : Side} (s : List Frame) (p x : List Lexeme) (b : Bool) (o : Option Form) → Place lim side s x p → ((form : Form) → o ≡ Some form → Found side (kinds x) form) → After lim side (open_form o s) ((p ++ x) ++ sign g.OpenParen b ∷ [])
open_form_viable s p x b None at h = tt
open_form_viable {lim} s p x b (Some form) at h = let f = h form refl in v_need (opens_along (simp append_assoc) (op_form {n = 0} b f.has f.words at none_begun (none_allowed lim.most) (here_deep (fits_of at)))) (λ y u j. tt)

more_words : {lim : Limits} {side : Side} (s : List Frame) (p x : List Lexeme) (w : Lexeme) → Place lim side s x p → After lim side (words_go lim side (kinds x ++ w.kind ∷ []) s) ((p ++ x) ++ w ∷ [])
more_words {lim} {side} s p x w at = chosen lim side (goes_on lim (here s) (kinds x ++ w.kind ∷ []) (forms_of side)) (words_next (kinds x ++ w.kind ∷ [])) s ((p ++ x) ++ w ∷ []) (λ i. viable_along (sym (append_assoc p x (w ∷ []))) (v_words_next (place_on (w ∷ []) at) (sym (kinds_append x (w ∷ [])))))

pub words_viable : {lim : Limits} {side : Side} (s : List Frame) (p x : List Lexeme) (v : TokenKind) (b : Bool) → Place lim side s x p → After lim side (at_words lim side (kinds x) s v) ((p ++ x) ++ lexeme v b ∷ [])
words_viable {lim} {side} s p x (t.Sign g.OpenParen) b at = open_form_viable s p x b (form_with (kinds x) (forms_of side)) at (λ form q. found (kinds x) (forms_of side) form (worded side) q)
words_viable s p x (t.Sign v) b at = more_words s p x (sign v b) at
words_viable s p x (t.Name v) b at = more_words s p x (lexeme (t.Name v) b) at
words_viable s p x (t.Keyword v) b at = more_words s p x (lexeme (t.Keyword v) b) at
words_viable s p x (t.Number v) b at = more_words s p x (lexeme (t.Number v) b) at
words_viable s p x (t.Text v) b at = more_words s p x (lexeme (t.Text v) b) at
