pub mod Counts
pub mod Fans
pub mod Off
pub mod inner
