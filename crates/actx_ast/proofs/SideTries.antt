-- A `try` is of a side if its parts are.
use Rattle.std.proofs.Common.{◌≡◌, ◌↔◌, Bool, true, false, List, ℕ, Option, IsTrue, sym, subst}
use Rattle.actx_grammar.specs.declared.side.Side.{Side}
use Rattle.actx_grammar.specs.Sides.{StmtOn, StmtsOn, CatchOn}
use Rattle.actx_grammar.specs.Tree.{catch, no_catch, no_last, last, Stmt, Stmts, Try}

seen_as : (side : Side) (st try : Stmt) (q : Bool) → st ≡ try → IsTrue q ↔ StmtOn side try → IsTrue q ↔ StmtOn side st
seen_as side st try q e h = subst (λ s. IsTrue q ↔ StmtOn side s) (sym e) h

-- the test of a part that fails
pub off : (side : Side) (st try : Stmt) (r : Bool) (P : Type 0) → st ≡ try → r ≡ false → IsTrue r ↔ P → (StmtOn side try → P) → IsTrue r ↔ StmtOn side st
off side st try r P e i h part = seen_as side st try r e (λ j. absurd (cc), λ p. h.1 (part p))

-- the tests of all parts
pub with_last : (side : Side) (st : Stmt) (b ss : Stmts) (r q : Bool) → st ≡ Try b no_catch (last ss) → r ≡ true → IsTrue r ↔ StmtsOn side b → IsTrue q ↔ StmtsOn side ss → IsTrue q ↔ StmtOn side st
with_last side st b ss r q e i h k = seen_as side st (Try b no_catch (last ss)) q e (λ j. (h.0 i, tt, k.0 j), λ p. k.1 p.2)

pub with_catch : (side : Side) (st : Stmt) (b : Stmts) (x : Option (List ℕ)) (cs : Stmts) (r q : Bool) → st ≡ Try b (catch x cs) no_last → r ≡ true → IsTrue r ↔ StmtsOn side b → IsTrue q ↔ CatchOn side (catch x cs) → IsTrue q ↔ StmtOn side st
with_catch side st b x cs r q e i h k = seen_as side st (Try b (catch x cs) no_last) q e (λ j. (h.0 i, k.0 j, tt), λ p. k.1 p.1)

pub with_both : (side : Side) (st : Stmt) (b : Stmts) (x : Option (List ℕ)) (cs ss : Stmts) (r m q : Bool) → st ≡ Try b (catch x cs) (last ss) → r ≡ true → m ≡ true → IsTrue r ↔ StmtsOn side b → IsTrue m ↔ CatchOn side (catch x cs) → IsTrue q ↔ StmtsOn side ss → IsTrue q ↔ StmtOn side st
with_both side st b x cs ss r m q e i j h l k = seen_as side st (Try b (catch x cs) (last ss)) q e (λ u. (h.0 i, l.0 j, k.0 u), λ p. k.1 p.2)
