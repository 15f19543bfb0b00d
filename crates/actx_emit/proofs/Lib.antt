pub mod Ascii
pub mod Units
pub mod Scalars
pub mod Beginnings
pub mod ReadBack
pub mod Steps
