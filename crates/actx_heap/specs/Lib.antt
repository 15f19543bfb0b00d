pub mod Texts
pub mod Things
pub mod Properties
pub mod Views
