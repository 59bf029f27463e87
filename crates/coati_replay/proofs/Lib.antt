pub mod Coming
pub mod Clashes
pub mod Counts
pub mod Decided
pub mod Deciding
pub mod Stepping
pub mod Texts
