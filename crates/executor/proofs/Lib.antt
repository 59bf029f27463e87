pub mod Quiet
pub mod Moves
pub mod Places
pub mod Rounds
pub mod Going
