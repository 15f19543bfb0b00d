pub mod Number
pub mod Units
