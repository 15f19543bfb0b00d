use Rattle.actx_match.proofs.Credit.{credit_match, credit_within}
use Rattle.actx_match.proofs.bounded.bounded_match.Goals as goal

pub returns-clause-shows : goal.returns-clause-shows
returns-clause-shows g c s t r =
    let M = g.M.BoundedSimulation in
    (credit_match M.source_step M.target_step M.see M.look M.related M.measure M.factor M.weight M.price g.met.M.BoundedSimulation.simulates M.rank g.met.M.BoundedSimulation.source_orderly g.met.M.BoundedSimulation.target_orderly s t r).0

pub returns-clause-within : goal.returns-clause-within
returns-clause-within g c =
    let M = g.M.BoundedSimulation in
    credit_within M.source_step M.target_step M.see M.look M.related M.measure M.factor M.weight M.price g.met.M.BoundedSimulation.simulates
