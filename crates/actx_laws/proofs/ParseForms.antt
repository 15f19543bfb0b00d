-- The words of forms are read.
use Rattle.std.proofs.Common.{◌≡◌, ℕ, zero, suc, ◌≤◌, List, [], ◌∷◌, ◌++◌, Bool, true, false, ◌&&◌, ◌||◌, Some, cond, refl, sym, ◌∙◌, ap, subst, arith, append_assoc}
use Rattle.std.proofs.lemmas.List.{append-nil}
use Rattle.std.specs.Prelude.{nat_eq}
use Rattle.actx_data.specs.declared.shown.ErrorName.TheVariants as n
use Rattle.actx_grammar.specs.declared.operators.Form.{Form}
use Rattle.actx_grammar.specs.declared.operators.Form.TheVariants as f
use Rattle.actx_grammar.specs.declared.side.Side.{Side}
use Rattle.actx_grammar.specs.declared.side.Side.TheVariants.{Source, Plain}
use Rattle.actx_grammar.specs.declared.token.Keyword.TheVariants as k
use Rattle.actx_grammar.specs.declared.token.Sign.TheVariants as g
use Rattle.actx_grammar.specs.declared.token.TokenKind.{TokenKind}
use Rattle.actx_grammar.specs.declared.token.TokenKind.TheVariants as t
use Rattle.actx_grammar.specs.Forms.{form_words, HasWords, Suits}
use Rattle.actx_grammar.specs.Lexemes.{Lexeme, kinds}
use Rattle.actx_grammar.specs.ParserFunctions.{at_words}
use Rattle.actx_grammar.specs.ParserOperands.{is_built_in, least_parts, most_parts, forms_of, same_token, begins_with, goes_on, form_with, has_room, words_go, operand, begin_operand, at_need}
use Rattle.actx_grammar.specs.ParserState.{Limits, at_most, fits, Frame, need, have_name, words_next, go, here}
use Rattle.actx_laws.proofs.ParseNames.{same_self, le_true, both, either_right}
use Rattle.actx_laws.proofs.ParseRuns.{runs, after, if_holds}
use Rattle.actx_laws.proofs.ParseSteps.{opens}

-- WORDS
abbrev pub is_word : TokenKind → Bool
is_word (t.Name x) = true
is_word (t.Keyword k.New) = true
is_word (t.Sign g.Dot) = true
is_word _ = false

abbrev pub all_words : List TokenKind → Bool
all_words [] = true
all_words (w ∷ ws) = is_word w && all_words ws

pub form_all_words : (form : Form) → all_words (form_words form) ≡ true
form_all_words f.Log = refl
form_all_words _ = refl

and_left : (a b : Bool) → (a && b) ≡ true → a ≡ true
and_left true b h = refl
and_left false b h = absurd (cc)

and_right : (a b : Bool) → (a && b) ≡ true → b ≡ true
and_right true b h = h
and_right false b h = absurd (cc)

-- a word in the middle of words, and the words up to it
pub middle : (ws : List TokenKind) (w : TokenKind) (vs : List TokenKind) → all_words (ws ++ w ∷ vs) ≡ true → is_word w ≡ true
middle [] w vs h = and_left (is_word w) (all_words vs) h
middle (v ∷ ws) w vs h = middle ws w vs (and_right (is_word v) (all_words (ws ++ w ∷ vs)) h)

pub before : (ws vs : List TokenKind) → all_words (ws ++ vs) ≡ true → all_words ws ≡ true
before [] vs h = refl
before (w ∷ ws) vs h = both (is_word w) (all_words ws) (and_left (is_word w) (all_words (ws ++ vs)) h) (before ws vs (and_right (is_word w) (all_words (ws ++ vs)) h))

token_self : (w : TokenKind) → is_word w ≡ true → same_token w w ≡ true
token_self (t.Name x) h = same_self x
token_self (t.Keyword k.New) h = refl
token_self (t.Keyword _) h = absurd (cc)
token_self (t.Sign g.Dot) h = refl
token_self (t.Sign _) h = absurd (cc)
token_self _ h = absurd (cc)

pub begins_so : (ws vs : List TokenKind) → all_words ws ≡ true → begins_with (ws ++ vs) ws ≡ true
begins_so [] vs h = refl
begins_so (w ∷ ws) vs h = both (same_token w w) (begins_with (ws ++ vs) ws) (token_self w (and_left (is_word w) (all_words ws) h)) (begins_so ws vs (and_right (is_word w) (all_words ws) h))

-- FORMS OF A SIDE
pub form_is : (side : Side) (form : Form) → HasWords side form → form_with (form_words form) (forms_of side) ≡ Some form
form_is Source f.Log h = refl
form_is Source (f.NewError n.Error) h = refl
form_is Source (f.NewError n.TypeError) h = refl
form_is Source (f.NewError n.RangeError) h = refl
form_is Source (f.NewError n.ReferenceError) h = refl
form_is Source f.QueueMicrotask h = refl
form_is Source f.NewPromise h = refl
form_is Source f.PromiseResolve h = refl
form_is Source f.PromiseReject h = refl
form_is Source f.NewVariable h = refl
form_is Source f.NewSnapshot h = refl
form_is Source f.Wrap h = refl
form_is Source f.HostOn h = refl
form_is Source f.Span h = refl
form_is Source f.CurrentSpan h = refl
form_is Plain f.Log h = refl
form_is Plain (f.NewError n.Error) h = refl
form_is Plain (f.NewError n.TypeError) h = refl
form_is Plain (f.NewError n.RangeError) h = refl
form_is Plain (f.NewError n.ReferenceError) h = refl
form_is Plain f.QueueMicrotask h = refl
form_is Plain f.NewWeakMap h = refl
form_is Plain f.Freeze h = refl
form_is Plain f.Note h = refl
form_is Plain f.On h = refl
form_is Plain f.Leave h = refl
form_is Source _ h = absurd h
form_is Plain _ h = absurd h

-- the first word begins an operand
abbrev is_first : Side → TokenKind → Bool
is_first side (t.Name x) = is_built_in side x
is_first side (t.Keyword k.New) = true
is_first side _ = false

abbrev first_of : Side → List TokenKind → Bool
first_of side [] = false
first_of side (w ∷ ws) = is_first side w

first_begins : (side : Side) (form : Form) → HasWords side form → first_of side (form_words form) ≡ true
first_begins Source f.Log h = refl
first_begins Plain f.Log h = refl
first_begins side (f.NewError name) h = refl
first_begins Source f.QueueMicrotask h = refl
first_begins Plain f.QueueMicrotask h = refl
first_begins Source f.NewPromise h = refl
first_begins Source f.PromiseResolve h = refl
first_begins Source f.PromiseReject h = refl
first_begins Source f.NewVariable h = refl
first_begins Source f.NewSnapshot h = refl
first_begins Source f.Wrap h = refl
first_begins Source f.HostOn h = refl
first_begins Source f.Span h = refl
first_begins Source f.CurrentSpan h = refl
first_begins Plain f.NewWeakMap h = refl
first_begins Plain f.Freeze h = refl
first_begins Plain f.Note h = refl
first_begins Plain f.On h = refl
first_begins Plain f.Leave h = refl
first_begins Source _ h = absurd h
first_begins Plain _ h = absurd h

first_operand : (lim : Limits) (side : Side) (s : List Frame) (w : TokenKind) → is_first side w ≡ true → operand lim side s w ≡ words_go lim side (w ∷ []) s
first_operand lim side s (t.Name x) h = ap (λ b. cond b (words_go lim side (t.Name x ∷ []) s) (go (have_name x) s)) h
first_operand lim side s (t.Keyword k.New) h = refl
first_operand lim side s (t.Keyword _) h = absurd (cc)
first_operand lim side s _ h = absurd (cc)

-- a form that goes on with some words
pub found_goes : (lim : Limits) (depth : ℕ) (vs ws : List TokenKind) (forms : List Form) (form : Form) → form_with ws forms ≡ Some form → begins_with (form_words form) vs ≡ true → (nat_eq (least_parts form) 0 || fits lim (suc depth)) ≡ true
    → goes_on lim depth vs forms ≡ true
found_goes lim depth vs ws [] form h i j = absurd (cc)
found_goes lim depth vs ws (e ∷ forms) form h i j =
    pick (begins_with (form_words e) ws && begins_with ws (form_words e)) h (λ q. found_goes lim depth vs ws forms form q i j)
  where
    here_found : e ≡ form → (begins_with (form_words e) vs && (nat_eq (least_parts e) 0 || fits lim (suc depth))) ≡ true
    here_found q = subst (λ c. (begins_with (form_words c) vs && (nat_eq (least_parts c) 0 || fits lim (suc depth))) ≡ true) (sym q) (both (begins_with (form_words form) vs) (nat_eq (least_parts form) 0 || fits lim (suc depth)) i j)

    pick : (b : Bool) → cond b (Some e) (form_with ws forms) ≡ Some form → (form_with ws forms ≡ Some form → goes_on lim depth vs forms ≡ true) → goes_on lim depth vs (e ∷ forms) ≡ true
    pick true q on = ap (λ c. c || goes_on lim depth vs forms) (here_found (cc))
    pick false q on = either_right (begins_with (form_words e) vs && (nat_eq (least_parts e) 0 || fits lim (suc depth))) (goes_on lim depth vs forms) (on q)

-- READING
pub word_move : (lim : Limits) (side : Side) (ws : List TokenKind) (s : List Frame) (w : TokenKind) → is_word w ≡ true → at_words lim side ws s w ≡ words_go lim side (ws ++ w ∷ []) s
word_move lim side ws s (t.Name x) h = refl
word_move lim side ws s (t.Keyword _) h = refl
word_move lim side ws s (t.Sign g.OpenParen) h = absurd (cc)
word_move lim side ws s (t.Sign _) h = refl
word_move lim side ws s _ h = refl

words_gone : (lim : Limits) (side : Side) (form : Form) (ws vs : List TokenKind) (s : List Frame) (r : List Lexeme) → HasWords side form → (nat_eq (least_parts form) 0 || fits lim (suc (here s))) ≡ true → ws ++ vs ≡ form_words form
    → after lim side r (words_go lim side ws s) ≡ runs lim side (words_next ws) s r
words_gone lim side form ws vs s r h j q =
    if_holds lim side (goes_on lim (here s) ws (forms_of side)) (words_next ws) s r
    (found_goes lim (here s) ws (form_words form) (forms_of side) form (form_is side form h) (subst (λ z. begins_with z ws ≡ true) q (begins_so ws vs (before ws vs (ap all_words q ∙ form_all_words form)))) j)

words_on : (lim : Limits) (side : Side) (form : Form) (x : List Lexeme) (ws : List TokenKind) (s : List Frame) (r : List Lexeme) → HasWords side form → (nat_eq (least_parts form) 0 || fits lim (suc (here s))) ≡ true → ws ++ kinds x ≡ form_words form
    → runs lim side (words_next ws) s (x ++ r) ≡ runs lim side (words_next (form_words form)) s r
words_on lim side form [] ws s r h j q = ap (λ z. runs lim side (words_next z) s r) (sym (append-nil ws) ∙ q)
words_on lim side form (w ∷ x) ws s r h j q =
    let e : (ws ++ w.kind ∷ []) ++ kinds x ≡ form_words form = append_assoc ws (w.kind ∷ []) (kinds x) ∙ q in
    ap (after lim side (x ++ r)) (word_move lim side ws s w.kind (middle ws w.kind (kinds x) (ap all_words q ∙ form_all_words form)))
    ∙ words_gone lim side form (ws ++ w.kind ∷ []) (kinds x) s (x ++ r) h j e
    ∙ words_on lim side form x (ws ++ w.kind ∷ []) s r h j e

pub words_read : (lim : Limits) (side : Side) (form : Form) (x : List Lexeme) (s : List Frame) (r : List Lexeme) → HasWords side form → (nat_eq (least_parts form) 0 || fits lim (suc (here s))) ≡ true → form_words form ≡ kinds x → fits lim (here s) ≡ true → has_room lim s ≡ true
    → runs lim side need s (x ++ r) ≡ runs lim side (words_next (form_words form)) s r
words_read lim side form [] s r h j q m room = let e : first_of side [] ≡ true = sym (ap (first_of side) q) ∙ first_begins side form h in absurd (cc)
words_read lim side form (w ∷ x) s r h j q m room =
    let i : is_first side w.kind ≡ true = sym (ap (first_of side) q) ∙ first_begins side form h in
    ap (after lim side (x ++ r)) (need_word w.kind i ∙ opens lim side s w.kind m room ∙ first_operand lim side s w.kind i)
    ∙ words_gone lim side form (w.kind ∷ []) (kinds x) s (x ++ r) h j (sym q)
    ∙ words_on lim side form x (w.kind ∷ []) s r h j (sym q)
  where
    need_word : (u : TokenKind) → is_first side u ≡ true → at_need lim side s u ≡ begin_operand lim side s u
    need_word (t.Sign _) i = absurd (cc)
    need_word _ i = refl

-- THE NUMBER OF PARTS
pub least_most : (side : Side) (form : Form) (m : ℕ) → HasWords side form → Suits form m → (least_parts form ≤ m) × (at_most (most_parts form) m ≡ true)
least_most side f.Log m w h = (omega arith, refl)
least_most side (f.NewError name) m w h = (omega arith, le_true m 1 h)
least_most side f.QueueMicrotask m w h = (h.0, le_true m 1 h.1)
least_most Source f.NewPromise m w h = (h.0, le_true m 1 h.1)
least_most Source f.PromiseResolve m w h = (omega arith, le_true m 1 h)
least_most Source f.PromiseReject m w h = (omega arith, le_true m 1 h)
least_most Source f.NewVariable m w h = (omega arith, le_true m 1 h)
least_most Source f.NewSnapshot m w h = (omega arith, le_true m 0 h)
least_most Source f.Wrap m w h = (h.0, le_true m 1 h.1)
least_most Source f.HostOn m w h = (h.0, le_true m 2 h.1)
least_most Source f.Span m w h = (h.0, le_true m 2 h.1)
least_most Source f.CurrentSpan m w h = (omega arith, le_true m 0 h)
least_most Plain f.NewWeakMap m w h = (omega arith, le_true m 0 h)
least_most Plain f.Freeze m w h = (h.0, le_true m 1 h.1)
least_most Plain f.Note m w h = (h.0, le_true m 4 h.1)
least_most Plain f.On m w h = (h.0, le_true m 2 h.1)
least_most Plain f.Leave m w h = (omega arith, le_true m 0 h)
least_most Source _ m w h = absurd w
least_most Plain _ m w h = absurd w

-- a form with no parts needs none, and one with parts has room for them
pub parts_fit : (lim : Limits) (least m depth : ℕ) → least ≤ m → (1 ≤ m → fits lim (suc depth) ≡ true) → (nat_eq least 0 || fits lim (suc depth)) ≡ true
parts_fit lim zero m depth h on = refl
parts_fit lim (suc least) m depth h on = either_right (nat_eq (suc least) 0) (fits lim (suc depth)) (on (omega arith))
