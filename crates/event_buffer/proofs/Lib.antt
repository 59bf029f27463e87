pub mod Slots
pub mod Counts
pub mod Filling
pub mod TailEntry
pub mod Turning
mod Examples
