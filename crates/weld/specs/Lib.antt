pub mod Raw
pub mod Welds
pub mod inner
