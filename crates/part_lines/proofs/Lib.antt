pub mod FewTokens
pub mod Numbers
pub mod Coordinates
