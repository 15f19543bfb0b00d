-- The word `of` stands behind the first name of a for alone.
use Rattle.std.proofs.Common.{◌≡◌, ℕ, suc, List, [], ◌∷◌, length, true, false, refl, arith}
use Rattle.std.specs.Prelude.{nat_eq}
use Rattle.std.proofs.lemmas.Bool.Decides.{nat_tests}
use Rattle.actx_grammar.specs.declared.side.Side.{Side}
use Rattle.actx_ast.specs.declared.tree.ConstItem.{ConstItem}
use Rattle.actx_ast.specs.declared.tree.LetItem.{LetItem}
use Rattle.actx_grammar.specs.Parser.{at_of, let_of, const_of}
use Rattle.actx_grammar.specs.ParserState.{Frame, of_for, refuse}
use Rattle.actx_ast.specs.View.{lets_view, consts_view}

some_length : (n : ℕ) → nat_eq (suc n) 0 ≡ true → ⊥
some_length n h = grind (arith, nat_tests)

no_length : nat_eq 0 0 ≡ false → ⊥
no_length h = grind (arith, nat_tests)

pub first_let : (side : Side) (is : List LetItem) (x y : List ℕ) (s : List Frame) → nat_eq (length is) 0 ≡ true → let_of side of_for (lets_view is) x y s ≡ at_of side false x y s
first_let side [] x y s h = refl
first_let side (i ∷ is) x y s h = absurd (some_length (length is) h)

pub later_let : (side : Side) (is : List LetItem) (x y : List ℕ) (s : List Frame) → nat_eq (length is) 0 ≡ false → let_of side of_for (lets_view is) x y s ≡ refuse
later_let side [] x y s h = absurd (no_length h)
later_let side (i ∷ is) x y s h = refl

pub first_const : (side : Side) (is : List ConstItem) (x y : List ℕ) (s : List Frame) → nat_eq (length is) 0 ≡ true → const_of side of_for (consts_view is) x y s ≡ at_of side true x y s
first_const side [] x y s h = refl
first_const side (i ∷ is) x y s h = absurd (some_length (length is) h)

pub later_const : (side : Side) (is : List ConstItem) (x y : List ℕ) (s : List Frame) → nat_eq (length is) 0 ≡ false → const_of side of_for (consts_view is) x y s ≡ refuse
later_const side [] x y s h = absurd (no_length h)
later_const side (i ∷ is) x y s h = refl
