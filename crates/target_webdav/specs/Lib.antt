pub mod Budgets
pub mod Clients
pub mod Folders
pub mod Marks
pub mod Serving
