pub mod Bounds
pub mod Carries
pub mod CountSpans
pub mod Entries
pub mod Finders
pub mod Orders
pub mod Tests
pub mod inner
