pub mod Runs
pub mod Matching
pub mod Simulations
pub mod Bounds
pub mod Credit
pub mod Traced
pub mod Pairing
