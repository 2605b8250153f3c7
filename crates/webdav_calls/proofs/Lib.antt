pub mod Plain
pub mod OneReply
