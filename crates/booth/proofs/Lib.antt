pub mod Left
pub mod Places
pub mod Counts
pub mod Keeping
pub mod BoardSent
pub mod Sent
