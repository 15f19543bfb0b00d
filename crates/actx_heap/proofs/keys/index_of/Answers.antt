use Rattle.std.proofs.Common.{rules, [], ◌≡◌, ◌^◌, ◌-◌, ℕ, get_or, arith, sym, ◌∙◌, ap, drop}
use Rattle.std.specs.Prelude.{min}
use Rattle.std.proofs.Math.ListN.{drop_of_length-le}
use Rattle.actx_heap.specs.Texts.{number_from}
use Rattle.actx_heap.proofs.Numbers.{digits_more}
use Rattle.actx_heap.proofs.keys.index_of.Goals as goal

pub loop-unit-preserved : goal.loop-unit-preserved
loop-unit-preserved c =
    let us = c.args.units.now in
    let i = c.loop-unit.unit-index in
    let x : ℕ = get_or us i 0 in (
      c.loop-unit.invariant.0
          ∙ digits_more (2 ^ 64 - 1) c.loop-unit.number c.saturating_add-number.result us i x (search rules) (search rules) (search rules),
      search rules,
    )

pub returns : goal.returns
returns c =
    let done : drop c.loop-unit.unit-index c.args.units.now ≡ [] = drop_of_length-le c.args.units.now c.loop-unit-test.false in
    let n = c.loop-unit.number in
    let cut : min n (2 ^ 64 - 1) ≡ n = omega (arith, c.loop-unit.invariant.1) in
    sym (c.loop-unit.invariant.0 ∙ ap (λ ds. min (number_from n ds) (2 ^ 64 - 1)) done ∙ cut)
