pub mod Outcomes
pub mod StartedJobs
