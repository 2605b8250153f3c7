pub mod JobLaws
pub mod ReadingLaws
pub mod WritingLaws
