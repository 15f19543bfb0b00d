use Rattle.actx_match.proofs.Simulations.{simulation_match}
use Rattle.actx_match.proofs.simulation.related_match.Goals as goal

pub returns : goal.returns
returns g c =
    let M = g.M.Simulation in
    simulation_match M.rank M.source_step M.target_step M.see M.look M.related M.measure g.met.M.Simulation.source_orderly g.met.M.Simulation.target_orderly g.met.M.Simulation.simulates
