pub mod Mappings
pub mod Twins
