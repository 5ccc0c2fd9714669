pub mod Decided
pub mod SomeWeld
mod SomeNumber
pub mod SomeReading
pub mod SomeOff
pub mod SomeStl
mod SomeTouch
mod Sides
pub mod SomeFault
pub mod SomeExtents
mod LayoutSizes
mod Vectors
pub mod SomeJob
pub mod SomeSheet
pub mod SomeSample
mod Separation
mod CubeChecks
mod SampleParts
pub mod SoundSample
