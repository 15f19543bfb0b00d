use Rattle.std.proofs.Common.{◌≡◌, ◌≤◌, ◌++◌, ◌∷◌, [], ℕ, List, length, take, chars, eqb, get_or, sym, ◌∙◌, ap, subst, arith, IsUtf8}
use Rattle.std.proofs.lemmas.Iterator.{YieldsList-from_chars}
use Rattle.std.proofs.lemmas.Iterator.Consumers.{YieldsList-turn, YieldsList-end}
use Rattle.std.proofs.lemmas.List.{map-id}
use Rattle.std.proofs.lemmas.Str.{length-le-encodes, encodes-chars}
use Rattle.actx_lex.specs.declared.lines.Place.{Place}
use Rattle.actx_lex.specs.Counting.{settled, next_place}
use Rattle.actx_lex.specs.Lexical.{IsText}
use Rattle.actx_lex.specs.Places.{StandsAt}
use Rattle.actx_lex.proofs.Counted.{Counted, counted_push, counted_most, settled_most}
use Rattle.actx_lex.proofs.Encoded.{text_of_chars}
use Rattle.actx_lex.proofs.place.place.Goals as goal

-- the characters before the place
is_front : (before front : List ℕ) → before ≡ front → IsUtf8 front → IsUtf8 before
is_front before front e u = subst IsUtf8 (sym e) u

-- no more characters than bytes
few_chars : (text : List ℕ) → IsUtf8 text → length (chars text) ≤ length text
few_chars text u = omega (arith, length-le-encodes (chars text), ap length (encodes-chars text u))

pub settled-requires : goal.settled-requires
settled-requires c =
    let before = c.in-Ok.before.now in
    let u = is_front before c.split_at.result.0.now c.in-Ok.ensures.cases.0 c.in-Ok.ensures.cases.1 in
    let t = YieldsList-turn (YieldsList-from_chars before u cc) c.loop-c.yielded _ c.loop-c.yielded_by _ _ c.in-Some.c c.in-Some.is c.next.ensures.steps in
    let turn = t.0 in
    let few = few_chars before u in
    let most = counted_most c.loop-c.yielded c.loop-c.place c.loop-c.returned c.loop-c.invariant in
    let long = ap length c.in-Ok.ensures.cases.0 in
    let within = c.requires.within in
    let front = c.split_at.ensures.front_len in
    omega arith

pub next_place-place-requires-clause-line : goal.next_place-place-requires-clause-line
next_place-place-requires-clause-line c =
    let before = c.in-Ok.before.now in
    let u = is_front before c.split_at.result.0.now c.in-Ok.ensures.cases.0 c.in-Ok.ensures.cases.1 in
    let t = YieldsList-turn (YieldsList-from_chars before u cc) c.loop-c.yielded _ c.loop-c.yielded_by _ _ c.in-Some.c c.in-Some.is c.next.ensures.steps in
    let turn = t.0 in
    let few = few_chars before u in
    let most = counted_most c.loop-c.yielded c.loop-c.place c.loop-c.returned c.loop-c.invariant in
    let long = ap length c.in-Ok.ensures.cases.0 in
    let within = c.requires.within in
    let front = c.split_at.ensures.front_len in
    let least = settled_most c.loop-c.place c.loop-c.returned (eqb c.in-Some.c 10) in
    let line = ap (λ (p : Place). p.line) c.settled.ensures in
    omega arith

pub next_place-place-requires-clause-column : goal.next_place-place-requires-clause-column
next_place-place-requires-clause-column c =
    let before = c.in-Ok.before.now in
    let u = is_front before c.split_at.result.0.now c.in-Ok.ensures.cases.0 c.in-Ok.ensures.cases.1 in
    let t = YieldsList-turn (YieldsList-from_chars before u cc) c.loop-c.yielded _ c.loop-c.yielded_by _ _ c.in-Some.c c.in-Some.is c.next.ensures.steps in
    let turn = t.0 in
    let few = few_chars before u in
    let most = counted_most c.loop-c.yielded c.loop-c.place c.loop-c.returned c.loop-c.invariant in
    let long = ap length c.in-Ok.ensures.cases.0 in
    let within = c.requires.within in
    let front = c.split_at.ensures.front_len in
    let least = settled_most c.loop-c.place c.loop-c.returned (eqb c.in-Some.c 10) in
    let column = ap (λ (p : Place). p.column) c.settled.ensures in
    omega arith

pub loop-c-preserved : goal.loop-c-preserved
loop-c-preserved c =
    let ys = c.loop-c.yielded in
    let x = c.in-Some.c in
    let e : c.next_place-place.result ≡ next_place (settled c.loop-c.place c.loop-c.returned (eqb x 10)) x = c.next_place-place.ensures ∙ ap (λ q. next_place q x) c.settled.ensures in
    subst (λ q. Counted (ys ++ x ∷ []) q (eqb x 13)) (sym e) (counted_push ys c.loop-c.place c.loop-c.returned x c.loop-c.invariant)

pub settled-requires-2 : goal.settled-requires-2
settled-requires-2 c =
    let before = c.in-Ok.before.now in
    let u = is_front before c.split_at.result.0.now c.in-Ok.ensures.cases.0 c.in-Ok.ensures.cases.1 in
    let t = YieldsList-end (YieldsList-from_chars before u cc) c.loop-c.yielded _ c.loop-c.yielded_by _ _ c.in-None.is c.next.ensures.steps in
    let turn = t.1 in
    let few = few_chars before u in
    let most = counted_most c.loop-c.yielded c.loop-c.place c.loop-c.returned c.loop-c.invariant in
    let long = ap length c.in-Ok.ensures.cases.0 in
    let within = c.requires.within in
    let front = c.split_at.ensures.front_len in
    omega arith

pub returns : goal.returns
returns c =
    let text = c.args.text.now in
    let before = c.in-Ok.before.now in
    let u = is_front before c.split_at.result.0.now c.in-Ok.ensures.cases.0 c.in-Ok.ensures.cases.1 in
    let t = YieldsList-end (YieldsList-from_chars before u cc) c.loop-c.yielded _ c.loop-c.yielded_by _ _ c.in-None.is c.next.ensures.steps in
    let whole : before ≡ take c.args.at text = c.in-Ok.ensures.cases.0 ∙ c.split_at.ensures.front in
    let all : c.loop-c.yielded ≡ chars before = sym (map-id c.loop-c.yielded) ∙ t.0 in
    let same : c.settled-2.result ≡ settled c.loop-c.place c.loop-c.returned (eqb (get_or text c.args.at 0) 10) = c.settled-2.ensures ∙ ap (λ b. settled c.loop-c.place c.loop-c.returned (eqb b 10)) c.byte_at.ensures in
    record {
      chars = c.loop-c.yielded;
      is = subst (λ v. IsText v c.loop-c.yielded) whole (subst (IsText before) (sym all) (text_of_chars before u));
      stands = subst (λ q. StandsAt (eqb (get_or text c.args.at 0) 10) c.loop-c.yielded q.line q.column) (sym same) (c.loop-c.invariant.stands (eqb (get_or text c.args.at 0) 10));
    }
