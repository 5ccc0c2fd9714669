pub mod LeftOut
pub mod Lists
pub mod Shown
