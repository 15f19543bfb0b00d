pub mod SideNames
pub mod FreeWords
