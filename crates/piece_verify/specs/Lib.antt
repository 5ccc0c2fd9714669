pub mod Lists
pub mod Stands
pub mod Checked
pub mod inner
pub mod Columns
pub mod ListLines
pub mod Values
