pub mod ParserView
