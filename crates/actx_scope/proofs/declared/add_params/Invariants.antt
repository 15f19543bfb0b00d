use Rattle.std.proofs.Common.{◌≡◌, ◌++◌, drop}
use Rattle.actx_grammar.specs.Static.{params_declared}
use Rattle.actx_scope.proofs.declared.add_params.Given as goal

abbrev pub invariant-loop-name : goal.invariant-loop-name
invariant-loop-name l = l.names.items ++ params_declared l.node (drop l.name-index l.name-items) ≡ l.initial.names.items ++ params_declared l.at l.name-items
