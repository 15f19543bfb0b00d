pub mod Tables
pub mod Heaps
pub mod Numbers
pub mod Twins
