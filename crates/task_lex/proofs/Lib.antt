pub mod Gaps
pub mod OneFront
pub mod OneReading
pub mod Places
pub mod Runs
pub mod Spans
pub mod Texts
