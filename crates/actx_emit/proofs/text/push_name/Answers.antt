use Rattle.std.proofs.Common.{◌≡◌, ◌++◌, ◌∷◌, [], ap, sym, ◌∙◌, take, ◌+◌, string_bytes}
use Rattle.std.specs.Str.{encode_utf8_all}
use Rattle.std.proofs.lemmas.List.{take_more}
use Rattle.actx_emit.proofs.Steps.{char_pushed}
use Rattle.actx_emit.proofs.text.push_name.Goals as goal

pub loop-char-preserved : goal.loop-char-preserved
loop-char-preserved c =
    let l = c.loop-char in
    let name = c.args.name.now in
    let items = c.as_slice-char-items.result.now in
    let same : items ≡ name = c.as_slice-char-items.ensures in
    let x = c.char-item.result in
    let start = string_bytes c.args.text.now in
    let grown : take (l.char-index + 1) items ≡ take l.char-index items ++ x ∷ [] = take_more items l.char-index x c.loop-char-test.true ∙ ap (λ z. take l.char-index items ++ z ∷ []) (sym c.char-item.is) in
    let here : take (l.char-index + 1) name ≡ take l.char-index name ++ x ∷ [] = ap (take (l.char-index + 1)) (sym same) ∙ grown ∙ ap (λ z. take l.char-index z ++ x ∷ []) same in
    char_pushed (string_bytes l.text) start (take l.char-index name) (string_bytes c.push.new.self) x l.invariant c.in_ok-push.ensures.bytes
    ∙ ap (λ z. start ++ encode_utf8_all z) (sym here)
