pub mod PreludeLaws
pub mod Same
pub mod Sample
pub mod Whole
