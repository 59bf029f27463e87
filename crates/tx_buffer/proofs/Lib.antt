pub mod Undone
pub mod Makes
pub mod Ends
pub mod Steps
pub mod Adds
pub mod Tables
pub mod HeaderWalk
pub mod MergeWrites
pub mod MergeKeeps
mod Examples
