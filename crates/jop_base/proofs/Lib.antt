pub mod CountUp
pub mod DecimalLaws
pub mod Folders
pub mod IdLaws
pub mod KeyedLaws
pub mod PathTexts
pub mod PlaceLaws
pub mod TextOrder
