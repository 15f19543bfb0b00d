pub mod Characters
pub mod Lexical
pub mod Lexeme
pub mod Lexemes
pub mod Pieces
pub mod Places
pub mod Counting
pub mod Spots
