pub mod Spans
pub mod CutSpans
pub mod Views
pub mod inner
