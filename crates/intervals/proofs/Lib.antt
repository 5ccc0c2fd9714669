pub mod Lists
pub mod Orders
pub mod Touching
pub mod Remaining
pub mod Appended
