pub mod Accepts
pub mod Refusals
pub mod Faults
pub mod Headline
pub mod Answers
pub mod FaultView
pub mod Ending
