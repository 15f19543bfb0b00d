use Rattle.std.proofs.Common.{rules, arith, ◌≡◌, ◌≤◌, ◌∙◌, ◌⊎◌, inl, inr, sym, [], length, drop}
use Rattle.actx_ports.proofs.Lists.{take_front, moves_on}
use Rattle.actx_ports.proofs.whole.read_whole.Goals as goal
use Rattle.actx_ports.proofs.whole.read_whole.Goals.{else-loop-buffer-test, then-loop-buffer-test+in_ok-n+then-n-eq0}

pub loop-buffer-preserved : goal.loop-buffer-preserved
loop-buffer-preserved g c =
    let n = c.in_ok-n.n in
    let text = c.loop-buffer.text.items in
    let got = c.read_some.new.buffer in
    let fits : n ≤ length got = search rules in
    let tail = drop c.min-room.result c.loop-buffer.buffer in
    record {
      within = search rules;
      room = search rules;
      named = search rules;
      held = λ k. c.read_some.ensures.held k ∙ c.loop-buffer.invariant.held k;
      later = λ k. let a = c.loop-buffer.invariant.later k in let b = c.read_some.ensures.later k in omega arith;
      told = λ bs e.
          let t = c.loop-buffer.invariant.told bs e in
          let h = c.in_ok-n.ensures.bytes t.0 t.1 in
          (h.0, h.2, moves_on n bs text got tail h.0 t.0 c.extend_from_slice.new.self.items fits t.2 h.1 c.in_ok-extend_from_slice.ensures.items);
    }

pub returns-clause-bytes : goal.returns-clause-bytes
returns-clause-bytes g c = λ bs e.
    let t = c.loop-buffer.invariant.told bs e in
    let within : length c.loop-buffer.text.items ≤ c.args.limit = search rules in
    let ends : (length c.loop-buffer.text.items ≡ c.args.limit) ⊎ (t.0 ≡ []) = elim c.loop-buffer-test.branch [
      | else-loop-buffer-test w ↦ inl (search rules)
      | then-loop-buffer-test+in_ok-n+then-n-eq0 w ↦ inr ((w.in_ok-n.ensures.bytes t.0 t.1).3.0 (search rules))
    ] in
    rw t.2 (sym (take_front c.args.limit c.loop-buffer.text.items t.0 within ends))
