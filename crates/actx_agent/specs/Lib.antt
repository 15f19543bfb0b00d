pub mod Mapping
pub mod Waiting
pub mod Line
