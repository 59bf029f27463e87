pub mod Keeps
pub mod Flags
pub mod Conflict
pub mod View
pub mod Undo
