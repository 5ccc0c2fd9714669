pub mod Desks
pub mod Faults
pub mod Noting
pub mod Order
pub mod Puts
pub mod Reasoned
pub mod Runs
pub mod inner
