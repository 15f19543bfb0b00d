pub mod ParseScan
pub mod ParseAnswers
