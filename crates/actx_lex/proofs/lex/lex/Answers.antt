use Rattle.std.proofs.Common.{◌≡◌, ℕ, List, Err, Result, true, false, refl, sym, ◌∙◌, ap, subst, arith}
use Rattle.std.specs.Str.{chars, IsUtf8}
use Rattle.actx_lex.specs.declared.lex.LexFault.{LexFault}
use Rattle.actx_lex.specs.declared.lex.LexFault.TheVariants as fault
use Rattle.actx_lex.specs.Lexical.{size, IsText, NotText}
use Rattle.actx_lex.specs.Lexeme.{CutFault}
use Rattle.actx_lex.proofs.Encoded.{text_of_chars, size_chars, not_text, tokens_of, stuck_at}
use Rattle.actx_lex.proofs.OneCut.{one_cut}
use Rattle.actx_lex.proofs.Reading.{err_same}
use Rattle.actx_lex.proofs.lex.lex.Goals as goal

text_is : (text valid cs ds : List ℕ) → valid ≡ text → IsUtf8 text → cs ≡ chars valid → ds ≡ cs → IsText text ds
text_is text valid cs ds e u f g = subst (IsText text) (ap chars (sym e) ∙ sym f ∙ sym g) (text_of_chars text u)

of_err : {T : Type 0} (r : Result T LexFault) (a b : ℕ) → r ≡ Err (fault.NotUtf8 a) → r ≡ Err (fault.NotUtf8 b) → a ≡ b
of_err r a b e f = cc

pub returns-in-Err-clause-not_utf8 : goal.returns-in-Err-clause-not_utf8
returns-in-Err-clause-not_utf8 c = λ n e.
    subst (NotText c.args.text.now) (sym c.valid_up_to.ensures ∙ of_err _ c.valid_up_to.result n refl e) (not_text c.args.text.now _ c.in-Err.ensures.cases.0 c.in-Err.ensures.cases.1)

pub cut-requires : goal.cut-requires
cut-requires c =
    let u = c.in-Ok.ensures.cases.1 in
    let e : c.as_slice.result.now ≡ chars c.args.text.now = c.as_slice.ensures.value ∙ c.in_ok-chars.ensures ∙ ap chars c.in-Ok.ensures.cases.0 in
    let f = ap size e in
    let g = size_chars c.args.text.now u in
    omega arith

pub returns-in_err-list-clause-bad_token : goal.returns-in_err-list-clause-bad_token
returns-in_err-list-clause-bad_token c = λ n e.
    let cs = c.as_slice.result.now in
    let text = text_is c.args.text.now c.in-Ok.valid.now c.in_ok-chars.chars.items cs c.in-Ok.ensures.cases.0 c.in-Ok.ensures.cases.1 c.in_ok-chars.ensures c.as_slice.ensures.value in
    stuck_at c.args.text.now cs false n text (subst (CutFault cs) (err_same c.from_residual-in_err-list.result c.in_err-list.field-0.0 (fault.BadToken n) c.from_residual-in_err-list.ensures.1 e) c.in_err-list.ensures.fault)

pub returns-in_err-list-clause-bad_number : goal.returns-in_err-list-clause-bad_number
returns-in_err-list-clause-bad_number c = λ n e.
    let cs = c.as_slice.result.now in
    let text = text_is c.args.text.now c.in-Ok.valid.now c.in_ok-chars.chars.items cs c.in-Ok.ensures.cases.0 c.in-Ok.ensures.cases.1 c.in_ok-chars.ensures c.as_slice.ensures.value in
    stuck_at c.args.text.now cs true n text (subst (CutFault cs) (err_same c.from_residual-in_err-list.result c.in_err-list.field-0.0 (fault.BadNumber n) c.from_residual-in_err-list.ensures.1 e) c.in_err-list.ensures.fault)

pub returns-clause-found : goal.returns-clause-found
returns-clause-found c =
    let cs = c.as_slice.result.now in
    let text = text_is c.args.text.now c.in-Ok.valid.now c.in_ok-chars.chars.items cs c.in-Ok.ensures.cases.0 c.in-Ok.ensures.cases.1 c.in_ok-chars.ensures c.as_slice.ensures.value in
    (tokens_of c.args.text.now cs c.in_ok-list.list.items text c.in_ok-list.ensures.found, refl)

pub returns-clause-only : goal.returns-clause-only
returns-clause-only c = λ ts r.
    let cs = c.as_slice.result.now in
    let text = text_is c.args.text.now c.in-Ok.valid.now c.in_ok-chars.chars.items cs c.in-Ok.ensures.cases.0 c.in-Ok.ensures.cases.1 c.in_ok-chars.ensures c.as_slice.ensures.value in
    one_cut c.args.text.now c.in_ok-list.list.items ts (tokens_of c.args.text.now cs c.in_ok-list.list.items text c.in_ok-list.ensures.found) r
