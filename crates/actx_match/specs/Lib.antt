pub mod Runs
pub mod Matching
pub mod Credit
pub mod Traced
pub mod Pairing
