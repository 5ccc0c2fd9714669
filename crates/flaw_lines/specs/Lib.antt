pub mod FlawTexts
pub mod KeyTexts
