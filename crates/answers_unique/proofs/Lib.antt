pub mod OneCorner
pub mod OneWeld
pub mod OneFault
pub mod OneSheet
pub mod SoundParts
pub mod SoundWeld
