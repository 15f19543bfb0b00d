pub mod ParseItems
pub mod ParseSettle
