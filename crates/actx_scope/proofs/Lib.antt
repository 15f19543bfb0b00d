pub mod FreeNames
pub mod NameLists
pub mod Runs
pub mod Tables
pub mod TreeRuns
pub mod Unbound
pub mod Whole
