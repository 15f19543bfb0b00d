use Rattle.std.proofs.Common.{rules, ◌≤◌, ◌+◌, ◌++◌, ◌∙◌, length, take, drop, Some, ap, append_assoc}
use Rattle.actx_ports.proofs.Lists.{take_then, rest_is}
use Rattle.actx_ports.proofs.whole.write_whole.Goals as goal

pub loop-at-preserved : goal.loop-at-preserved
loop-at-preserved g c =
    let i = c.loop-at.at in
    let n = c.in_ok-n.n in
    let bs = c.args.bytes.now in
    let within : i + n ≤ length bs = search rules in
    record {
      within = within;
      later = search rules;
      told = λ old e.
          let h = c.in_ok-n.ensures.bytes (old ++ take i bs) (c.loop-at.invariant.told old e) in
          h ∙ ap (λ xs. Some ((old ++ take i bs) ++ take n xs)) (rest_is i bs) ∙ ap Some (append_assoc old (take i bs) (take n (drop i bs)) ∙ ap (λ xs. old ++ xs) (take_then i n bs within));
    }
