pub mod Walk
pub mod WalkView
pub mod WalkProperty
pub mod WalkWork
