-- How deep the rows of an expression go in print: within the depth of what spells them where no parentheses are needed, and one
-- level more at most.
use Rattle.std.proofs.Common.{◌≡◌, ℕ, suc, ◌≤◌, max, Bool, true, false, List, ◌∷◌, Option, None, refl, arith, nat_lt}
use Rattle.std.proofs.lemmas.Bool.Decides.{nat_tests}
use Rattle.actx_grammar.specs.declared.operators.Form.{Form}
use Rattle.actx_grammar.specs.declared.operators.Form.TheVariants as f
use Rattle.actx_grammar.specs.declared.operators.FunctionKind.{FunctionKind}
use Rattle.actx_grammar.specs.declared.side.Side.{Side}
use Rattle.actx_grammar.specs.declared.side.Side.TheVariants.{Source, Plain}
use Rattle.actx_grammar.specs.declared.token.Sign.TheVariants as g
use Rattle.actx_grammar.specs.Forms.{HasWords}
use Rattle.actx_grammar.specs.Lexemes.{Lexeme, sign, kinds}
use Rattle.actx_grammar.specs.Tree.{Expr, Exprs, Properties, Stmts, Object, Function, Built, code}
use Rattle.actx_grammar.specs.Grammar.{SpellsHead, SpellsArrow, sp_normal, sp_normal_named, sp_generator, sp_generator_named, sp_async, sp_async_named, sp_arrow_head, sp_async_arrow_head}
use Rattle.actx_grammar.specs.Spell.{Start, begins, begins_statement, within, wrapped, inner, statement, body}
use Rattle.actx_grammar.specs.Depth.{with_parens, depth, depth_list, depth_properties, depth_program}
use Rattle.actx_laws.proofs.SpellPlaces.{May, head_starts}

pub record Bound (l d : ℕ) (e : Expr) (x : List Lexeme) : Type 0 where
  pub bare : (st : Start) (m : ℕ) → m ≤ l → May st (kinds x) → depth st e m ≤ d
  pub any : (st : Start) (m : ℕ) → depth st e m ≤ suc d

no_parens : (k m : ℕ) → m ≤ k → nat_lt k m ≡ false
no_parens k m h = grind (arith, nat_tests)

parens_most : (w : Bool) (n d : ℕ) → n ≤ d → with_parens w n ≤ suc d
parens_most true n d h = omega arith
parens_most false n d h = omega arith

-- ROWS WITH A LEVEL
abbrev pub Levels : Expr → ℕ → (Start → ℕ) → Type 0
Levels e k D = (st : Start) (m : ℕ) → depth st e m ≡ with_parens (nat_lt k m) (D (within (nat_lt k m) st))

bare_row : (st : Start) (k m d : ℕ) (D : Start → ℕ) → m ≤ k → D st ≤ d → with_parens (nat_lt k m) (D (within (nat_lt k m) st)) ≤ d
bare_row st k m d D i h = rw (no_parens k m i) h

any_row : (st : Start) (w : Bool) (d : ℕ) (D : Start → ℕ) → D inner ≤ d → D st ≤ suc d → with_parens w (D (within w st)) ≤ suc d
any_row st true d D h i = omega arith
any_row st false d D h i = i

leveled_bound : {l d : ℕ} {e : Expr} {x : List Lexeme} (k : ℕ) (D : Start → ℕ) → l ≤ k → Levels e k D → ((st : Start) → May st (kinds x) → D st ≤ d) → ((st : Start) → D st ≤ suc d) → Bound l d e x
leveled_bound {l} {d} {e} {x} k D h q f g = record {
  bare = λ st m i a. rw (q st m) (bare_row st k m d D (omega arith) (f st a));
  any = λ st m. rw (q st m) (any_row st (nat_lt k m) d D (f inner tt) (g st));
}

-- whose first part stands on the left
pub left_bound : {l d j : ℕ} {e f : Expr} {x y : List Lexeme} (k i r : ℕ) → l ≤ k → Levels e k (λ st. suc (max (depth st f i) r)) → Bound j d f x → i ≤ j → ((st : Start) → May st (kinds y) → May st (kinds x)) → r ≤ d → Bound l (suc d) e y
left_bound {d = d} {f = f} k i r h q p s first n =
    leveled_bound k (λ st. suc (max (depth st f i) r)) h q (λ st a. let b : depth st f i ≤ d = p.bare st i s (first st a) in omega arith) (λ st. let b : depth st f i ≤ suc d = p.any st i in omega arith)

-- whose parts stand inside
pub inner_bound : {l d : ℕ} {e : Expr} {x : List Lexeme} (k r : ℕ) → l ≤ k → Levels e k (λ st. suc r) → r ≤ d → Bound l (suc d) e x
inner_bound k r h q n = leveled_bound k (λ st. suc r) h q (λ st a. omega arith) (λ st. omega arith)

-- ROWS WITHOUT
pub leaf_bound : {l d : ℕ} {e : Expr} {x : List Lexeme} → ((st : Start) (m : ℕ) → depth st e m ≡ 1) → Bound l (suc d) e x
leaf_bound q = record { bare = λ st m i a. omega (arith, q st m); any = λ st m. omega (arith, q st m) }

pub object_bound : {l d : ℕ} (ps : Properties) (y : List Lexeme) (b : Bool) → depth_properties ps ≤ d → Bound l (suc d) (Object ps) (sign g.OpenBrace b ∷ y)
object_bound {l} {d} ps y b n = record { bare = λ st m i a. bare_object st a; any = λ st m. parens_most (begins st) (suc (depth_properties ps)) (suc d) (omega arith) }
  where
    bare_object : (st : Start) → May st (kinds (sign g.OpenBrace b ∷ y)) → with_parens (begins st) (suc (depth_properties ps)) ≤ suc d
    bare_object inner a = omega arith
    bare_object body a = absurd a
    bare_object statement a = absurd a

function_bound : (side : Side) {l d : ℕ} {kind : FunctionKind} {name : Option (List ℕ)} {xs : List (List ℕ)} (ss : Stmts) {x y : List Lexeme} → ((st : Start) (m : ℕ) → wrapped kind st m ≡ begins_statement st) → SpellsHead side kind name x → (May statement (kinds y) → May statement (kinds x)) → depth_program ss ≤ d → Bound l (suc d) (Function (code name kind xs ss)) y
function_bound side {d = d} {kind = kind} ss {y = y} q h first n = record {
  bare = λ st m i a. rw (q st m) (bare_function st a);
  any = λ st m. parens_most (wrapped kind st m) (suc (depth_program ss)) (suc d) (omega arith);
}
  where
    bare_function : (st : Start) → May st (kinds y) → with_parens (begins_statement st) (suc (depth_program ss)) ≤ suc d
    bare_function inner a = omega arith
    bare_function body a = omega arith
    bare_function statement a = absurd (head_starts h (first a))

pub code_bound : (side : Side) {l d : ℕ} {kind : FunctionKind} {name : Option (List ℕ)} {xs : List (List ℕ)} (ss : Stmts) {x y : List Lexeme} → SpellsHead side kind name x → (May statement (kinds y) → May statement (kinds x)) → depth_program ss ≤ d → Bound l (suc d) (Function (code name kind xs ss)) y
code_bound side ss (sp_normal {b = b}) first n = function_bound side ss (λ st m. refl) (sp_normal {b = b}) first n
code_bound side ss (sp_normal_named {b = b} {c = c} h) first n = function_bound side ss (λ st m. refl) (sp_normal_named {b = b} {c = c} h) first n
code_bound side ss (sp_generator {b = b} {c = c} s) first n = function_bound side ss (λ st m. refl) (sp_generator {b = b} {c = c} s) first n
code_bound side ss (sp_generator_named {b = b} {c = c} {d = d} s h) first n = function_bound side ss (λ st m. refl) (sp_generator_named {b = b} {c = c} {d = d} s h) first n
code_bound side ss (sp_async {b = b} s) first n = function_bound side ss (λ st m. refl) (sp_async {b = b} s) first n
code_bound side ss (sp_async_named {b = b} {c = c} s h) first n = function_bound side ss (λ st m. refl) (sp_async_named {b = b} {c = c} s h) first n

pub arrow_bound : {side : Side} {most : Option ℕ} {l d : ℕ} {kind : FunctionKind} {xs : List (List ℕ)} {x : List Lexeme} (ss : Stmts) {y : List Lexeme} → l ≤ 1 → SpellsArrow side most kind xs x → depth_program ss ≤ d → Bound l (suc d) (Function (code None kind xs ss)) y
arrow_bound ss h (sp_arrow_head ps) n = inner_bound 1 (depth_program ss) h (λ st m. refl) n
arrow_bound ss h (sp_async_arrow_head s ps r) n = inner_bound 1 (depth_program ss) h (λ st m. refl) n

form_depth : (side : Side) (form : Form) (es : Exprs) → HasWords side form → Levels (Built form es) 11 (λ st. suc (depth_list es))
form_depth side f.CallWith es w = absurd (no_words side w)
  where
    no_words : (s : Side) → HasWords s f.CallWith → ⊥
    no_words Source w = w
    no_words Plain w = w
form_depth side f.Log es w = λ st m. refl
form_depth side _ es w = λ st m. refl

pub form_bound : (side : Side) {l d : ℕ} (form : Form) (es : Exprs) {x : List Lexeme} → l ≤ 11 → HasWords side form → depth_list es ≤ d → Bound l (suc d) (Built form es) x
form_bound side form es h w n = inner_bound 11 (depth_list es) h (form_depth side form es w) n

-- PARENTHESES
pub paren_bound : {l d : ℕ} {e : Expr} {x y : List Lexeme} → Bound 1 d e x → Bound l (suc d) e y
paren_bound p = record { bare = λ st m i a. p.any st m; any = λ st m. omega (arith, p.any st m) }

-- what a place inside takes
pub within_bound : {l d : ℕ} {e : Expr} {x : List Lexeme} → Bound l d e x → (m : ℕ) → m ≤ l → depth inner e m ≤ d
within_bound p m i = p.bare inner m i tt

pub lower_bound : {l k d : ℕ} {e : Expr} {x : List Lexeme} → l ≤ k → Bound k d e x → Bound l d e x
lower_bound h p = record { bare = λ st m i a. p.bare st m (omega (arith, i, h)) a; any = p.any }
