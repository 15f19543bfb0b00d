pub mod ParseStack
pub mod ParseForms
