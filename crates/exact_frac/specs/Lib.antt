pub mod Divisors
pub mod Frac
pub mod Laws
