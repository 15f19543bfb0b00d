-- What was read reaches as deep as any greater depth within the limits.
use Rattle.std.proofs.Common.{◌≡◌, ℕ, ◌≤◌, List, true, arith}
use Rattle.actx_grammar.specs.declared.side.Side.{Side}
use Rattle.actx_grammar.specs.Lexemes.{Lexeme}
use Rattle.actx_grammar.specs.ParserState.{Limits, fits, Frame}
use Rattle.actx_grammar.specs.Tree.{Expr, Properties, MaybeExpr, Init, Stmts, Catch, Clauses}
use Rattle.actx_laws.proofs.ViableParts.{Deep}
use Rattle.actx_laws.proofs.ViableOpen.{InObject, in_object, InFor, in_for, InTest, in_test, Tried, tried_block, Caught, caught_none, caught_some, InSwitch, in_clauses}
use Rattle.actx_laws.proofs.ViableLists.{raised}

pub object_within : {lim : Limits} {side : Side} {ps : Properties} {r : ℕ} {s : List Frame} {q : List Lexeme} → InObject lim side ps r s q → fits lim r ≡ true
object_within (in_object b at ps d) = d.within

pub object_raised : {lim : Limits} {side : Side} {ps : Properties} {r : ℕ} {s : List Frame} {q : List Lexeme} (j : ℕ) → InObject lim side ps r s q → r ≤ j → fits lim j ≡ true → InObject lim side ps j s q
object_raised j (in_object b at ps d) i w = in_object b at ps (raised j d i w)

pub for_within : {lim : Limits} {side : Side} {i : Init} {r : ℕ} {s : List Frame} {q : List Lexeme} → InFor lim side i r s q → fits lim r ≡ true
for_within (in_for b c f o p d) = d.within

pub for_raised : {lim : Limits} {side : Side} {i : Init} {r : ℕ} {s : List Frame} {q : List Lexeme} (j : ℕ) → InFor lim side i r s q → r ≤ j → fits lim j ≡ true → InFor lim side i j s q
for_raised j (in_for b c f o p d) i w = in_for b c f o p (raised j d i w)

pub test_within : {lim : Limits} {side : Side} {i : Init} {test : MaybeExpr} {r : ℕ} {s : List Frame} {q : List Lexeme} → InTest lim side i test r s q → fits lim r ≡ true
test_within (in_test f o p d) = d.within

pub test_raised : {lim : Limits} {side : Side} {i : Init} {test : MaybeExpr} {r : ℕ} {s : List Frame} {q : List Lexeme} (j : ℕ) → InTest lim side i test r s q → r ≤ j → fits lim j ≡ true → InTest lim side i test j s q
test_raised j (in_test f o p d) i w = in_test f (for_raised j o i w) p (raised j d i w)

pub tried_within : {lim : Limits} {side : Side} {bs : Stmts} {r : ℕ} {s : List Frame} {q : List Lexeme} → Tried lim side bs r s q → fits lim r ≡ true
tried_within (tried_block b o p d) = d.within

pub tried_raised : {lim : Limits} {side : Side} {bs : Stmts} {r : ℕ} {s : List Frame} {q : List Lexeme} (j : ℕ) → Tried lim side bs r s q → r ≤ j → fits lim j ≡ true → Tried lim side bs j s q
tried_raised j (tried_block b o p d) i w = tried_block b o p (raised j d i w)

pub caught_raised : {lim : Limits} {side : Side} {bs : Stmts} {c : Catch} {r : ℕ} {s : List Frame} {q : List Lexeme} (j : ℕ) → Caught lim side bs c r s q → r ≤ j → fits lim j ≡ true → Caught lim side bs c j s q
caught_raised j (caught_none o) i w = caught_none (tried_raised j o i w)
caught_raised j (caught_some o p d) i w = caught_some (tried_raised j o i w) p (raised j d i w)

pub switch_raised : {lim : Limits} {side : Side} {e : Expr} {cs : Clauses} {r : ℕ} {s : List Frame} {q : List Lexeme} (j : ℕ) → InSwitch lim side e cs r s q → r ≤ j → fits lim j ≡ true → InSwitch lim side e cs j s q
switch_raised j (in_clauses b c f h plain o p ps d) i w = in_clauses b c f h plain o p ps (raised j d i w)

pub tried_deep : {lim : Limits} {side : Side} {bs : Stmts} {r : ℕ} {s : List Frame} {q : List Lexeme} → Tried lim side bs r s q → Deep lim 1 s r
tried_deep (tried_block b o p d) = record { reach = omega (arith, d.reach); within = d.within }

pub caught_deep : {lim : Limits} {side : Side} {bs : Stmts} {c : Catch} {r : ℕ} {s : List Frame} {q : List Lexeme} → Caught lim side bs c r s q → Deep lim 1 s r
caught_deep (caught_none o) = tried_deep o
caught_deep (caught_some o p d) = tried_deep o

pub switch_deep : {lim : Limits} {side : Side} {e : Expr} {cs : Clauses} {r : ℕ} {s : List Frame} {q : List Lexeme} → InSwitch lim side e cs r s q → Deep lim 1 s r
switch_deep (in_clauses b c f h plain o p ps d) = record { reach = omega (arith, d.reach); within = d.within }
