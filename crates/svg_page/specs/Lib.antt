pub mod Svg
pub mod Texts
