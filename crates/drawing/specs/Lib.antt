pub mod Drawing
pub mod Numbers
pub mod Strokes
