pub mod Node
pub mod Build
pub mod Preorder
pub mod Heads
pub mod Forest
pub mod Walk
