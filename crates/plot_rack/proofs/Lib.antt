pub mod Drawings
pub mod Endings
pub mod Firsts
pub mod Fractions
pub mod Texts
