pub mod Found
pub mod Faults
pub mod Links
pub mod Tables
pub mod Places
pub mod Machine
pub mod States
