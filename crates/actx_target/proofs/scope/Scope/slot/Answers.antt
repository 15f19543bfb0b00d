use Rattle.std.proofs.Common.{◌≡◌, ◌∙◌, Some, None, map, ap, sym}
use Rattle.std.specs.Prelude.{option_map}
use Rattle.std.specs.Option.{option_copied}
use Rattle.actx_target.specs.Cells.{named_cell, cells_in, slot_of}
use Rattle.actx_rules.specs.State.{cell_of}
use Rattle.actx_target.proofs.Cells.{slot_in_front, slot_behind}
use Rattle.actx_target.proofs.scope.Scope.slot.Goals as goal

pub returns-in-Some : goal.returns-in-Some
returns-in-Some c =
    let x = c.args.name.now in
    let front = map named_cell c.self.inside.first.items in
    let here : Some c.in-Some.slot.now ≡ option_map slot_of (cell_of x front) = ap option_copied (sym c.in-Some.is) ∙ c.slot_among.ensures ∙ ap (λ q. option_map slot_of (cell_of x (map named_cell q))) c.deref.ensures.value in
    slot_in_front x front (cells_in c.self.inside.further) c.in-Some.slot.now here ∙ ap (λ q. option_map slot_of (cell_of x q)) c.self.view_is

pub returns-in-None : goal.returns-in-None
returns-in-None c =
    let x = c.args.name.now in
    let front = map named_cell c.self.inside.first.items in
    let here : None ≡ option_map slot_of (cell_of x front) = ap option_copied (sym c.in-None.is) ∙ c.slot_among.ensures ∙ ap (λ q. option_map slot_of (cell_of x (map named_cell q))) c.deref.ensures.value in
    c.slot_further.ensures ∙ slot_behind x front (cells_in c.self.inside.further) here ∙ ap (λ q. option_map slot_of (cell_of x q)) c.self.view_is
