pub mod Apart
pub mod View
pub mod Clauses
pub mod Copies
pub mod Starts
pub mod Sizes
pub mod Unspelled
