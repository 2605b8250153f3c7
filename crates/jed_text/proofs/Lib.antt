pub mod EscapeSteps
pub mod UnescapeSteps
pub mod Spelled
pub mod Ascii
pub mod Widening
