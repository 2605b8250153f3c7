pub mod Words
pub mod Trials
pub mod Local
pub mod Keys
pub mod Verbs
pub mod Commands
