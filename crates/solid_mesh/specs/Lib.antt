pub mod Faults
pub mod Meetings
pub mod Solids
pub mod inner
pub mod Stars
