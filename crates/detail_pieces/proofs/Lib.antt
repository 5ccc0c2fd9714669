pub mod DetailRight
pub mod ViewDetails
mod InWindow
mod Told
mod Beside
mod Covered
mod Another
mod Borders
mod Boxes
mod Kept
mod Meetings
mod Reached
mod Shortened
mod Sizes
mod Orders
