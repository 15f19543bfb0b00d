-- What a chain of scopes stands for.
use Rattle.std.specs.Prelude.{ℕ, List, [], ◌∷◌}
use Rattle.actx_target.specs.declared.chain.Chain.{Chain, fold-Chain}
use Rattle.actx_target.specs.declared.chain.Chain.TheOpen.{Chain-F, Link-F}

abbrev pub chain_step : Chain-F (List ℕ) (List ℕ) → List ℕ
chain_step Chain-F.Outermost = []
chain_step (Chain-F.Inside link) = link.value

abbrev pub link_step : Link-F (List ℕ) (List ℕ) → List ℕ
link_step l = l.number ∷ l.outer

abbrev pub chain_of : Chain → List ℕ
chain_of = fold-Chain (List ℕ) (List ℕ) chain_step link_step
