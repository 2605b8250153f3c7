pub mod Fitting
pub mod Served
