use Rattle.std.proofs.Common.{◌≡◌, ◌∷◌, ◌∙◌, Some, None, ap, sym}
use Rattle.actx_target.specs.Cells.{found_cell}
use Rattle.actx_target.specs.Chains.{chain_of}
use Rattle.actx_rules.specs.State.{find, cell_of, cells_at}
use Rattle.actx_target.specs.View.{reading_of}
use Rattle.actx_target.proofs.Outcomes.{if_ok}
use Rattle.actx_target.proofs.Chains.{inside_is}
use Rattle.actx_target.proofs.Scopes.{found_here, found_outside}
use Rattle.actx_target.proofs.machine.expressions.+find.Goals as goal

pub returns-in-Unbound : goal.returns-in-Unbound
returns-in-Unbound n c =
    let l = c.deref-here.result.now in
    let scopes = c.args.scopes.now in
    let x = c.args.name.now in
    let chain : chain_of c.args.«open».now ≡ l.number ∷ chain_of l.outer = ap chain_of c.in-Inside.is ∙ inside_is c.in-Inside.link ∙ ap (λ z. z.number ∷ chain_of z.outer) (sym c.deref-here.ensures) in
    let here : None ≡ found_cell (cell_of x (cells_at scopes l.number)) = ap reading_of (sym c.in-Unbound.is) ∙ c.in_ok-read_in-in-Inside.ensures in
    if_ok _ _ c.find.result (λ r e. e ∙ found_outside scopes l.number (chain_of l.outer) x here ∙ ap (λ ks. found_cell (find scopes ks x)) (sym chain)) c.find.ensures

pub returns-in-Unset : goal.returns-in-Unset
returns-in-Unset n c =
    let l = c.deref-here.result.now in
    let scopes = c.args.scopes.now in
    let x = c.args.name.now in
    let chain : chain_of c.args.«open».now ≡ l.number ∷ chain_of l.outer = ap chain_of c.in-Inside.is ∙ inside_is c.in-Inside.link ∙ ap (λ z. z.number ∷ chain_of z.outer) (sym c.deref-here.ensures) in
    let here : Some None ≡ found_cell (cell_of x (cells_at scopes l.number)) = ap reading_of (sym c.in-Unset.is) ∙ c.in_ok-read_in-in-Inside.ensures in
    found_here scopes l.number (chain_of l.outer) x None here ∙ ap (λ ks. found_cell (find scopes ks x)) (sym chain)

pub returns-in-Value : goal.returns-in-Value
returns-in-Value n c =
    let l = c.deref-here.result.now in
    let scopes = c.args.scopes.now in
    let x = c.args.name.now in
    let chain : chain_of c.args.«open».now ≡ l.number ∷ chain_of l.outer = ap chain_of c.in-Inside.is ∙ inside_is c.in-Inside.link ∙ ap (λ z. z.number ∷ chain_of z.outer) (sym c.deref-here.ensures) in
    let v = c.in-Value.value in
    let here : Some (Some v) ≡ found_cell (cell_of x (cells_at scopes l.number)) = ap reading_of (sym c.in-Value.is) ∙ c.in_ok-read_in-in-Inside.ensures in
    found_here scopes l.number (chain_of l.outer) x (Some v) here ∙ ap (λ ks. found_cell (find scopes ks x)) (sym chain)
