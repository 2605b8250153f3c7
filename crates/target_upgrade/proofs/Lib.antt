pub mod KeyFacts
pub mod Infos
pub mod Courses
pub mod Made
pub mod Judged
mod Standing
pub mod Whole
