pub mod Clients
pub mod Responses
pub mod Exchanges
