pub mod FieldLemmas
pub mod DateLemmas
pub mod PathLemmas
pub mod BytesLemmas
pub mod LineLemmas
