pub mod Walks
pub mod Nexts
pub mod Ranges
pub mod Pairs
pub mod Merging
pub mod Applying
pub mod Taking
pub mod Commits
pub mod Sums
pub mod Counts
pub mod MergeCounts
pub mod Ends
mod Examples
