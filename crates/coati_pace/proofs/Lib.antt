pub mod Parts
pub mod Falls
pub mod Bounds
pub mod Ranges
pub mod Windows
pub mod Paces
pub mod Programs
pub mod Counts
pub mod Runs
mod Examples
