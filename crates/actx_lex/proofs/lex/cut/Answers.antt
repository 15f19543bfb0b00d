use Rattle.std.proofs.Common.{◌≡◌, ◌<◌, ◌+◌, ℕ, List, [], ◌∷◌, ◌++◌, length, take, All, sym, ◌∙◌, ap, subst, arith, eqb, false}
use Rattle.std.proofs.lemmas.Bool.{eqb-false}
use Rattle.std.proofs.lemmas.List.Elements.{All-nil, All-push}
use Rattle.actx_grammar.specs.Words.{HasForm}
use Rattle.actx_lex.specs.Lexical.{Place, start, size, kinds_of, passed, behind, is_fresh, token_at, Reads, here}
use Rattle.actx_lex.specs.Lexeme.{CutFault}
use Rattle.actx_lex.specs.Spots.{place_of}
use Rattle.actx_lex.proofs.Beginnings.{begins_some}
use Rattle.actx_lex.proofs.Reading.{read_gap, read_token, kinds_push, cut_fault, err_says}
use Rattle.actx_lex.proofs.Sizes.{size_cut}
use Rattle.actx_lex.proofs.lex.cut.Goals as goal

some : (xs : List ℕ) → eqb (length xs) 0 ≡ false → 0 < length xs
some xs e = let f = eqb-false (length xs) 0 e in omega arith

pub loop-rest-init : goal.loop-rest-init
loop-rest-init c =
    let chars = c.args.chars.now in
    let at : c.start-spot.result.at ≡ 0 = ap (λ (p : Place). p.at) c.start-spot.ensures in
    record {
      reads = subst (λ p. Reads start chars c.new-list.result.items p chars) (sym c.start-spot.ensures) (subst (λ ts. Reads start chars ts start chars) (sym c.new-list.ensures.items) here);
      left = omega arith;
      form = subst (λ ts. All HasForm (kinds_of ts)) (sym c.new-list.ensures.items) (All-nil HasForm);
    }

pub passed-spot-requires : goal.passed-spot-requires
passed-spot-requires c =
    let whole = size_cut c.loop-rest.rest.now c.gap_len-gap.result in
    let front = ap size c.split_at.ensures.front in
    let left = c.loop-rest.invariant.left in
    omega arith

pub loop-rest-preserved-then-gap-gt0 : goal.loop-rest-preserved-then-gap-gt0
loop-rest-preserved-then-gap-gt0 c =
    let chars = c.args.chars.now in
    let rest = c.loop-rest.rest.now in
    let n = c.gap_len-gap.result in
    let ts = c.loop-rest.list.items in
    let p = place_of c.loop-rest.spot in
    let on = read_gap n (c.gap_len-gap.ensures.found c.if-gap-gt0.true) c.loop-rest.invariant.reads in
    let place : place_of c.passed-spot.result ≡ passed p (take n rest) = c.passed-spot.ensures ∙ ap (passed p) c.split_at.ensures.front in
    let at : c.passed-spot.result.at ≡ c.loop-rest.spot.at + size (take n rest) = ap (λ (q : Place). q.at) place in
    let whole = size_cut rest n in
    let back = ap size c.split_at.ensures.back in
    let left = c.loop-rest.invariant.left in
    record {
      reads = subst (λ q. Reads start chars ts q c.split_at.result.1.now) (sym place) (subst (Reads start chars ts (passed p (take n rest))) (sym c.split_at.ensures.back) on);
      left = omega arith;
      form = c.loop-rest.invariant.form;
    }

pub returns-in_err-lexeme-clause-fault : goal.returns-in_err-lexeme-clause-fault
returns-in_err-lexeme-clause-fault c =
    let rest = c.loop-rest.rest.now in
    let none = c.if-gap-gt0.false in
    let zero : c.gap_len-gap.result ≡ 0 = omega arith in
    err_says c.from_residual.result c.in_err-lexeme.field-0.0 (CutFault c.args.chars.now) c.from_residual.ensures.1
    (cut_fault c.args.chars.now rest c.loop-rest.list.items (place_of c.loop-rest.spot) c.in_err-lexeme.field-0.0
    (some rest (sym c.is_empty.ensures ∙ c.loop-rest-test.true)) c.loop-rest.invariant.reads (c.gap_len-gap.ensures.none zero) c.in_err-lexeme.ensures.fault)

pub behind-spot-requires : goal.behind-spot-requires
behind-spot-requires c =
    let whole = size_cut c.loop-rest.rest.now c.in_ok-lexeme.lexeme.len in
    let front = ap size c.split_at-else-gap-gt0.ensures.front in
    let left = c.loop-rest.invariant.left in
    omega arith

pub loop-rest-smaller : goal.loop-rest-smaller
loop-rest-smaller c =
    let rest = c.loop-rest.rest.now in
    let b = c.in_ok-lexeme.ensures.found in
    let some = begins_some (is_fresh (place_of c.loop-rest.spot)) rest c.in_ok-lexeme.lexeme.kind c.in_ok-lexeme.lexeme.len b in
    let fits = b.fits in
    let left = c.split_at-else-gap-gt0.ensures.back_len in
    omega arith

pub loop-rest-preserved : goal.loop-rest-preserved
loop-rest-preserved c =
    let chars = c.args.chars.now in
    let rest = c.loop-rest.rest.now in
    let k = c.in_ok-lexeme.lexeme.kind in
    let n = c.in_ok-lexeme.lexeme.len in
    let ts = c.loop-rest.list.items in
    let p = place_of c.loop-rest.spot in
    let on = read_token k n c.in_ok-lexeme.ensures.found c.loop-rest.invariant.reads in
    let place : place_of c.behind-spot.result ≡ behind p (take n rest) = c.behind-spot.ensures ∙ ap (behind p) c.split_at-else-gap-gt0.ensures.front in
    let at : c.behind-spot.result.at ≡ c.loop-rest.spot.at + size (take n rest) = ap (λ (q : Place). q.at) place in
    let items : c.push.new.self.items ≡ ts ++ token_at k p ∷ [] = c.in_ok-push.ensures.items in
    let whole = size_cut rest n in
    let back = ap size c.split_at-else-gap-gt0.ensures.back in
    let left = c.loop-rest.invariant.left in
    record {
      reads = subst (λ us. Reads start chars us (place_of c.behind-spot.result) c.split_at-else-gap-gt0.result.1.now) (sym items)
          (subst (λ q. Reads start chars (ts ++ token_at k p ∷ []) q c.split_at-else-gap-gt0.result.1.now) (sym place) (subst (Reads start chars (ts ++ token_at k p ∷ []) (behind p (take n rest))) (sym c.split_at-else-gap-gt0.ensures.back) on));
      left = omega arith;
      form = subst (λ us. All HasForm (kinds_of us)) (sym items) (subst (All HasForm) (sym (kinds_push ts (token_at k p))) (All-push HasForm (kinds_of ts) k c.loop-rest.invariant.form c.in_ok-lexeme.ensures.form));
    }
