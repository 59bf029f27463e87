pub mod Following
pub mod Pieces
pub mod Running
pub mod Words
