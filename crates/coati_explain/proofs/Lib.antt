pub mod Dividing
pub mod Explaining
pub mod Places
pub mod Spots
pub mod TraceLines
