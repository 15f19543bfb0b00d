-- What the parser's tests say once they pass.
use Rattle.std.proofs.Common.{◌≡◌, ℕ, suc, max, ◌≤◌, List, [], ◌∷◌, Bool, true, false, ◌&&◌, Option, Some, None, cond, refl, sym, subst, arith}
use Rattle.std.proofs.lemmas.Bool.Decides.{not_from_Decides}
use Rattle.std.specs.Prelude.{codes, nat_le}
use Rattle.actx_grammar.specs.declared.operators.Form.{Form}
use Rattle.actx_grammar.specs.declared.operators.Form.TheVariants as f
use Rattle.actx_grammar.specs.declared.operators.LogicOp.TheVariants.{And, Or, Coalesce}
use Rattle.actx_grammar.specs.declared.side.Side.{Side}
use Rattle.actx_grammar.specs.declared.side.Side.TheVariants.{Source, Plain}
use Rattle.actx_grammar.specs.declared.token.TokenKind.TheVariants as t
use Rattle.actx_grammar.specs.Forms.{HasWords, Suits}
use Rattle.actx_grammar.specs.Grammar.{Allows, Spells, sp_arrow, sp_short_arrow, sp_yield_nothing, sp_yield, sp_yield_all, sp_set_name, sp_set_member, sp_change, sp_choice, sp_or, sp_coalesce, sp_and, sp_binary, sp_unary, sp_await, sp_bump_before, sp_bump_behind, sp_member, sp_call, sp_form, sp_call_with, sp_name, sp_number, sp_text, sp_true, sp_false, sp_null, sp_undefined, sp_this, sp_object, sp_function, sp_paren}
use Rattle.actx_grammar.specs.Lexemes.{Lexeme, lexeme}
use Rattle.actx_grammar.specs.Names.{built_in, IsBinding, IsReference}
use Rattle.actx_grammar.specs.ParserOperands.{same_word, is_built_in, is_binding, is_source, named, takes_whole, suits}
use Rattle.actx_grammar.specs.ParserState.{Limits, at_most, fits, takes_more, Frame, in_unary, in_await, in_binary, in_logic}
use Rattle.actx_grammar.specs.Tree.{Expr, Undefined, Named}
use Rattle.actx_grammar.specs.Words.{IsName}
use Rattle.actx_laws.proofs.ParseLevels.{level_in, level_small}
use Rattle.actx_laws.proofs.ParseNames.{same_decides, one_of_decides, le_true, le_from, at_most_less}

pub and_left : (b c : Bool) → (b && c) ≡ true → b ≡ true
and_left true c h = refl
and_left false c h = absurd (cc)

pub and_right : (b c : Bool) → (b && c) ≡ true → c ≡ true
and_right true c h = h
and_right false c h = absurd (cc)

-- LIMITS
allowed_from : (o : Option ℕ) (n : ℕ) → at_most o n ≡ true → Allows o n
allowed_from None n h = tt
allowed_from (Some m) n h = le_from n m h

pub one_allowed : (lim : Limits) (n : ℕ) → takes_more lim n ≡ true → Allows lim.most (suc n)
one_allowed lim n h = allowed_from lim.most (suc n) h

pub none_allowed : (o : Option ℕ) → Allows o 0
none_allowed None = tt
none_allowed (Some m) = omega arith

pub fits_less : (lim : Limits) (m n : ℕ) → fits lim n ≡ true → m ≤ n → fits lim m ≡ true
fits_less lim m n h i = at_most_less lim.depth m n i h

max_most : (o : Option ℕ) (m n : ℕ) → at_most o m ≡ true → at_most o n ≡ true → at_most o (max m n) ≡ true
max_most None m n h i = refl
max_most (Some k) m n h i = let a : m ≤ k = le_from m k h in let b : n ≤ k = le_from n k i in le_true (max m n) k (omega arith)

pub fits_max : (lim : Limits) (m n : ℕ) → fits lim m ≡ true → fits lim n ≡ true → fits lim (max m n) ≡ true
fits_max lim m n h i = max_most lim.depth m n h i

-- FORMS
between : (a b n : ℕ) → (nat_le a n && nat_le n b) ≡ true → (a ≤ n) × (n ≤ b)
between a b n h = (le_from a n (and_left (nat_le a n) (nat_le n b) h), le_from n b (and_right (nat_le a n) (nat_le n b) h))

pub suits_is : (side : Side) (form : Form) (n : ℕ) → HasWords side form → suits form n ≡ true → Suits form n
suits_is side f.Log n w h = tt
suits_is side f.NewPromise n w h = between 1 1 n h
suits_is side f.PromiseResolve n w h = (between 0 1 n h).1
suits_is side f.PromiseReject n w h = (between 0 1 n h).1
suits_is side f.NewVariable n w h = (between 0 1 n h).1
suits_is side f.NewSnapshot n w h = (between 0 0 n h).1
suits_is side f.Wrap n w h = between 1 1 n h
suits_is side (f.NewError name) n w h = (between 0 1 n h).1
suits_is side f.QueueMicrotask n w h = between 1 1 n h
suits_is side f.HostOn n w h = between 2 2 n h
suits_is side f.Span n w h = between 2 2 n h
suits_is side f.CurrentSpan n w h = (between 0 0 n h).1
suits_is side f.NewWeakMap n w h = (between 0 0 n h).1
suits_is side f.Freeze n w h = between 1 1 n h
suits_is side f.Note n w h = between 4 4 n h
suits_is side f.On n w h = between 2 2 n h
suits_is side f.Leave n w h = (between 0 0 n h).1
suits_is Source _ n w h = absurd w
suits_is Plain _ n w h = absurd w

pub call_suits : (n : ℕ) → suits f.CallWith n ≡ true → 1 ≤ n
call_suits n h = le_from 1 n (and_left (nat_le 1 n) true h)

-- LEVELS
pub whole_level : (s : List Frame) → takes_whole s ≡ true → level_in s ≤ 1
whole_level (in_unary op ∷ s) h = absurd (cc)
whole_level (in_await ∷ s) h = absurd (cc)
whole_level (in_binary op a r ∷ s) h = absurd (cc)
whole_level (in_logic op a r ∷ s) h = absurd (cc)
whole_level [] h = omega arith
whole_level (_ ∷ s) h = omega arith

pub level_in_small : (s : List Frame) → level_in s ≤ 9
level_in_small (in_binary op a r ∷ s) = omega (arith, level_small op)
level_in_small (in_logic And a r ∷ s) = omega arith
level_in_small (in_logic Or a r ∷ s) = omega arith
level_in_small (in_logic Coalesce a r ∷ s) = omega arith
level_in_small [] = omega arith
level_in_small (_ ∷ s) = omega arith

-- NAMES
pub source_is : {side : Side} → is_source side ≡ true → side ≡ Source
source_is {side = Source} h = refl
source_is {side = Plain} h = absurd (cc)

pub free_is : (side : Side) (x : List ℕ) → IsName x → is_built_in side x ≡ false → IsBinding side x
free_is side x n h = record { name = n; own = not_from_Decides (is_built_in side x) (one_of_decides (built_in side) x) h }

pub binding_is : (side : Side) (x : List ℕ) → IsName x → is_binding side x ≡ true → IsBinding side x
binding_is side x n h = pick (is_built_in side x) refl h
  where
    pick : (b : Bool) → is_built_in side x ≡ b → cond b false true ≡ true → IsBinding side x
    pick true q i = absurd (cc)
    pick false q i = free_is side x n q

pub reference_is : {side : Side} (x : List ℕ) → IsBinding side x → same_word x (codes "undefined") ≡ false → IsReference side x
reference_is x b h = record { name = b.name; own = b.own; not_undefined = not_from_Decides (same_word x (codes "undefined")) (same_decides x (codes "undefined")) h }

pub named_spells : {side : Side} {most : Option ℕ} (l d : ℕ) (x : List ℕ) (b : Bool) → IsBinding side x → Spells side most l (suc d) (named x) (lexeme (t.Name x) b ∷ [])
named_spells {side} {most} l d x b h = pick (same_word x (codes "undefined")) refl
  where
    pick : (c : Bool) → same_word x (codes "undefined") ≡ c → Spells side most l (suc d) (cond c Undefined (Named x)) (lexeme (t.Name x) b ∷ [])
    pick true q = let same : codes "undefined" ≡ x = sym ((same_decides x (codes "undefined")).0 q) in subst (λ z. Spells side most l (suc d) Undefined (lexeme (t.Name z) b ∷ [])) same sp_undefined
    pick false q = sp_name (reference_is x h q)

-- what stands at a level stands at every lower one
pub looser : {side : Side} {most : Option ℕ} {l k d : ℕ} {e : Expr} {x : List Lexeme} → Spells side most l d e x → k ≤ l → Spells side most k d e x
looser (sp_arrow b c h ps p) i = sp_arrow b c (omega arith) ps p
looser (sp_short_arrow h ps p w) i = sp_short_arrow (omega arith) ps p w
looser (sp_yield_nothing q h) i = sp_yield_nothing q (omega arith)
looser (sp_yield q h p w) i = sp_yield q (omega arith) p w
looser (sp_yield_all q h p) i = sp_yield_all q (omega arith) p
looser (sp_set_name h n p) i = sp_set_name (omega arith) n p
looser (sp_set_member b h p o q) i = sp_set_member b (omega arith) p o q
looser (sp_change h n c p) i = sp_change (omega arith) n c p
looser (sp_choice b c h p q r) i = sp_choice b c (omega arith) p q r
looser (sp_or h p) i = sp_or (omega arith) p
looser (sp_coalesce h p) i = sp_coalesce (omega arith) p
looser (sp_and b h p q) i = sp_and b (omega arith) p q
looser (sp_binary op b h p q) i = sp_binary op b (omega arith) p q
looser (sp_unary op h p) i = sp_unary op (omega arith) p
looser (sp_await w h p) i = sp_await w (omega arith) p
looser (sp_bump_before h n) i = sp_bump_before (omega arith) n
looser (sp_bump_behind h n) i = sp_bump_behind (omega arith) n
looser (sp_member h p o) i = sp_member (omega arith) p o
looser (sp_call h p a) i = sp_call (omega arith) p a
looser (sp_form form x h w q a o) i = sp_form form x (omega arith) w q a o
looser (sp_call_with b c w h p a) i = sp_call_with b c w (omega arith) p a
looser (sp_name h) i = sp_name h
looser (sp_number h) i = sp_number h
looser (sp_text h) i = sp_text h
looser sp_true i = sp_true
looser sp_false i = sp_false
looser sp_null i = sp_null
looser sp_undefined i = sp_undefined
looser sp_this i = sp_this
looser (sp_object b c p) i = sp_object b c p
looser (sp_function p) i = sp_function p
looser (sp_paren b c p) i = sp_paren b c p
