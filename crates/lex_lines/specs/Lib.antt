pub mod Bytes
pub mod Places
pub mod TokenReader
pub mod Scan
pub mod inner
