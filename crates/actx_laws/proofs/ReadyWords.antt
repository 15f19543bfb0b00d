-- A form whose words were read has room for its arguments, and words that begin a form go on to all of it.
use Rattle.std.proofs.Common.{◌≡◌, ℕ, suc, ◌≤◌, ◌⊎◌, inl, inr, List, [], ◌∷◌, ◌++◌, Bool, true, false, ◌&&◌, ◌||◌, nat_eq, Some, refl, sym, ap, ◌∙◌, subst, arith}
use Rattle.actx_grammar.specs.declared.operators.Form.{Form}
use Rattle.actx_grammar.specs.declared.operators.Form.TheVariants as f
use Rattle.actx_grammar.specs.declared.side.Side.{Side}
use Rattle.actx_grammar.specs.declared.side.Side.TheVariants.{Source, Plain}
use Rattle.actx_grammar.specs.declared.token.TokenKind.{TokenKind}
use Rattle.actx_grammar.specs.Forms.{form_words, HasWords}
use Rattle.actx_grammar.specs.ParserOperands.{least_parts, forms_of, same_token, begins_with, goes_on, form_with}
use Rattle.actx_grammar.specs.ParserState.{Limits, fits}
use Rattle.actx_laws.proofs.ViableObjects.{same_token_is, Worded, worded, Found, found}
use Rattle.actx_laws.proofs.ViableTests.{and_left, and_right}

-- ALL WORDS
or_false : (b : Bool) → (b || false) ≡ true → b ≡ true
or_false true h = refl
or_false false h = h

-- no form's words begin another's
room_of_words : (lim : Limits) (side : Side) (depth : ℕ) (form : Form) → HasWords side form → goes_on lim depth (form_words form) (forms_of side) ≡ true → (least_parts form ≤ 0) ⊎ (fits lim (suc depth) ≡ true)
room_of_words lim side depth f.Log w h = inl (omega arith)
room_of_words lim side depth (f.NewError name) w h = inl (omega arith)
room_of_words lim Source depth f.QueueMicrotask w h = inr (or_false (fits lim (suc depth)) h)
room_of_words lim Plain depth f.QueueMicrotask w h = inr (or_false (fits lim (suc depth)) h)
room_of_words lim Source depth f.NewPromise w h = inr (or_false (fits lim (suc depth)) h)
room_of_words lim Source depth f.PromiseResolve w h = inl (omega arith)
room_of_words lim Source depth f.PromiseReject w h = inl (omega arith)
room_of_words lim Source depth f.NewVariable w h = inl (omega arith)
room_of_words lim Source depth f.NewSnapshot w h = inl (omega arith)
room_of_words lim Source depth f.Wrap w h = inr (or_false (fits lim (suc depth)) h)
room_of_words lim Source depth f.HostOn w h = inr (or_false (fits lim (suc depth)) h)
room_of_words lim Source depth f.Span w h = inr (or_false (fits lim (suc depth)) h)
room_of_words lim Source depth f.CurrentSpan w h = inl (omega arith)
room_of_words lim Plain depth f.NewWeakMap w h = inl (omega arith)
room_of_words lim Plain depth f.Freeze w h = inr (or_false (fits lim (suc depth)) h)
room_of_words lim Plain depth f.Note w h = inr (or_false (fits lim (suc depth)) h)
room_of_words lim Plain depth f.On w h = inr (or_false (fits lim (suc depth)) h)
room_of_words lim Plain depth f.Leave w h = inl (omega arith)
room_of_words lim Source depth _ w h = absurd w
room_of_words lim Plain depth _ w h = absurd w

pub opened_form : (lim : Limits) (side : Side) (depth : ℕ) (ws : List TokenKind) (form : Form) → goes_on lim depth ws (forms_of side) ≡ true → form_with ws (forms_of side) ≡ Some form → (least_parts form ≤ 0) ⊎ (fits lim (suc depth) ≡ true)
opened_form lim side depth ws form h q =
    let a : Found side ws form = found ws (forms_of side) form (worded side) q in
    room_of_words lim side depth form a.has (subst (λ z. goes_on lim depth z (forms_of side) ≡ true) (sym a.words) h)

-- SOME WORDS
-- a form that goes on with them, and the words that it lacks
pub record Forms (lim : Limits) (side : Side) (depth : ℕ) (ws : List TokenKind) : Type 0 where
  pub form : Form
  pub lacks : List TokenKind
  pub has : HasWords side form
  pub is : ws ++ lacks ≡ form_words form
  pub room : (nat_eq (least_parts form) 0 || fits lim (suc depth)) ≡ true

rest_of : (vs ws : List TokenKind) → begins_with vs ws ≡ true → (us : List TokenKind) × (ws ++ us ≡ vs)
rest_of vs [] h = (vs, refl)
rest_of [] (w ∷ ws) h = absurd (cc)
rest_of (v ∷ vs) (w ∷ ws) h =
    let a : v ≡ w = same_token_is v w (and_left (same_token v w) (begins_with vs ws) h) in
    let b = rest_of vs ws (and_right (same_token v w) (begins_with vs ws) h) in
    (b.0, ap (λ z. z ∷ (ws ++ b.0)) (sym a) ∙ ap (λ z. v ∷ z) b.1)

pub forms_goes : (lim : Limits) (side : Side) (depth : ℕ) (ws : List TokenKind) (forms : List Form) → Worded side forms → goes_on lim depth ws forms ≡ true → Forms lim side depth ws
forms_goes lim side depth ws [] w h = absurd (cc)
forms_goes lim side depth ws (form ∷ forms) w h = pick (begins_with (form_words form) ws && (nat_eq (least_parts form) 0 || fits lim (suc depth))) refl h (λ q. forms_goes lim side depth ws forms w.1 q)
  where
    pick : (b : Bool) → (begins_with (form_words form) ws && (nat_eq (least_parts form) 0 || fits lim (suc depth))) ≡ b → (b || goes_on lim depth ws forms) ≡ true → (goes_on lim depth ws forms ≡ true → Forms lim side depth ws) → Forms lim side depth ws
    pick true q i on =
        let a = rest_of (form_words form) ws (and_left (begins_with (form_words form) ws) (nat_eq (least_parts form) 0 || fits lim (suc depth)) q) in
        record { form = form; lacks = a.0; has = w.0; is = a.1; room = and_right (begins_with (form_words form) ws) (nat_eq (least_parts form) 0 || fits lim (suc depth)) q }
    pick false q i on = on i
