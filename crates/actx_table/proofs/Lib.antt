pub mod Orders
mod Drive
mod Samples
mod Both
mod PreludeLaws
mod Same
pub mod Whole
