-- The parser's tests of names and limits pass where the grammar says so.
use Rattle.std.proofs.Common.{◌≡◌, ℕ, suc, ◌≤◌, ◌<◌, List, Bool, true, false, ◌&&◌, ◌||◌, Option, Some, None, cond, refl, sym, ◌∙◌, ap, arith}
use Rattle.std.proofs.lemmas.Bool.Decides.{nat_tests, Decides-by_or, Decides-like}
use Rattle.std.specs.Prelude.{Contains, codes, nat_le}
use Rattle.std.specs.Bool.{Decides}
use Rattle.std.proofs.lemmas.List.Elements.{Decides-contains}
use Rattle.std.proofs.lemmas.Slice.Eq.{bytes_eq-Decides}
use Rattle.actx_grammar.specs.declared.side.Side.{Side}
use Rattle.actx_grammar.specs.declared.side.Side.TheVariants.{Source, Plain}
use Rattle.actx_grammar.specs.Grammar.{Allows, count, with_last}
use Rattle.actx_grammar.specs.Names.{built_in, IsBinding, IsReference}
use Rattle.actx_grammar.specs.ParserOperands.{same_word, is_one_of, is_built_in, is_binding, is_source, named}
use Rattle.actx_grammar.specs.ParserState.{at_most}
use Rattle.actx_grammar.specs.Tree.{Expr, Undefined, Named, Exprs, none, also}

pub same_decides : (x y : List ℕ) → Decides (same_word x y) (x ≡ y)
same_decides x y = bytes_eq-Decides x y

pub same_self : (x : List ℕ) → same_word x x ≡ true
same_self x = (same_decides x x).1 refl

pub one_of_decides : (ys : List (List ℕ)) (x : List ℕ) → Decides (is_one_of ys x) (Contains ys x)
one_of_decides ys x =
    Decides-contains ys x (is_one_of ys x)
    (Decides-by_or (λ y. same_word x y) (λ y. y ≡ x) (λ zs. is_one_of zs x) (λ y. Decides-like (same_word x y) (λ e. sym e) (λ e. sym e) (same_decides x y)) refl (λ _ _. refl) ys)

false_unless : (b : Bool) → (b ≡ true → ⊥) → b ≡ false
false_unless true h = absurd (h refl)
false_unless false h = refl

pub differs : (x y : List ℕ) → (x ≡ y → ⊥) → same_word x y ≡ false
differs x y h = false_unless (same_word x y) (λ e. h ((same_decides x y).0 e))

-- BINDINGS AND REFERENCES
pub not_built_in : (side : Side) (x : List ℕ) → (Contains (built_in side) x → ⊥) → is_built_in side x ≡ false
not_built_in side x h = false_unless (is_one_of (built_in side) x) (λ e. h ((one_of_decides (built_in side) x).0 e))

pub binding_free : {side : Side} {x : List ℕ} → IsBinding side x → is_built_in side x ≡ false
binding_free {side = side} {x = x} h = not_built_in side x h.own

pub reference_free : {side : Side} {x : List ℕ} → IsReference side x → is_built_in side x ≡ false
reference_free {side = side} {x = x} h = not_built_in side x h.own

pub undefined_free : (side : Side) → is_built_in side (codes "undefined") ≡ false
undefined_free Source = refl
undefined_free Plain = refl

pub free_binding : (side : Side) (x : List ℕ) → is_built_in side x ≡ false → is_binding side x ≡ true
free_binding side x h = ap (λ b. cond b false true) h

pub binding_passes : {side : Side} {x : List ℕ} → IsBinding side x → is_binding side x ≡ true
binding_passes {side = side} {x = x} h = free_binding side x (binding_free h)

pub reference_named : {side : Side} {x : List ℕ} → IsReference side x → named x ≡ Named x
reference_named {x = x} h = ap (λ b. cond b Undefined (Named x)) (differs x (codes "undefined") h.not_undefined)

pub source_passes : {side : Side} → side ≡ Source → is_source side ≡ true
source_passes h = ap is_source h

-- LIMITS
pub le_true : (m n : ℕ) → m ≤ n → nat_le m n ≡ true
le_true m n h = grind (arith, nat_tests)

pub le_false : (m n : ℕ) → n < m → nat_le m n ≡ false
le_false m n h = grind (arith, nat_tests)

pub le_from : (m n : ℕ) → nat_le m n ≡ true → m ≤ n
le_from m n h = grind (arith, nat_tests)

pub allowed : (o : Option ℕ) (n : ℕ) → Allows o n → at_most o n ≡ true
allowed None n h = refl
allowed (Some m) n h = le_true n m h

pub allows_less : (o : Option ℕ) (m n : ℕ) → m ≤ n → Allows o n → Allows o m
allows_less None m n h a = tt
allows_less (Some k) m n h a = omega arith

pub at_most_less : (o : Option ℕ) (m n : ℕ) → m ≤ n → at_most o n ≡ true → at_most o m ≡ true
at_most_less None m n h a = refl
at_most_less (Some k) m n h a = let i : n ≤ k = le_from n k a in le_true m k (omega arith)

pub both : (a b : Bool) → a ≡ true → b ≡ true → a && b ≡ true
both a b h k = ap (λ c. c && b) h ∙ k

pub either_right : (a b : Bool) → b ≡ true → a || b ≡ true
either_right true b h = refl
either_right false b h = h

pub count_last : (es : Exprs) (e : Expr) → count (with_last es e) ≡ suc (count es)
count_last none e = refl
count_last (also f es) e = ap suc (count_last es e)
