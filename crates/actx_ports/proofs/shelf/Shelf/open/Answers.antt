use Rattle.std.proofs.Common.{rules, ◌≡◌, Some}
use Rattle.actx_ports.specs.Memory.{place_of}
use Rattle.actx_ports.proofs.Lists.{name_at_place}
use Rattle.actx_ports.proofs.shelf.Shelf.open.Goals as goal

pub returns-clause-named : goal.returns-clause-named
returns-clause-named c =
    let is : place_of c.args.self.now.files.items c.args.name.now ≡ Some c.in-Some.i = search rules in
    name_at_place c.args.self.now.files.items c.args.name.now c.in-Some.i is
