pub mod Adapters
pub mod Counts
pub mod Causes
pub mod Ends
pub mod Memory
pub mod Writing
pub mod Sending
