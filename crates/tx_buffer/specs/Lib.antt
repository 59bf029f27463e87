pub mod Next
pub mod Merge
pub mod Clear
pub mod Keeps
