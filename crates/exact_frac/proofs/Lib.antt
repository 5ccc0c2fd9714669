pub mod Ratios
pub mod Divisors
