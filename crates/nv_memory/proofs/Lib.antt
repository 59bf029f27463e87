pub mod Seats
pub mod Puts
pub mod Looks
pub mod Blank
pub mod LogWrites
pub mod Turns
pub mod Held
pub mod Frames
pub mod BlankSound
mod Examples
