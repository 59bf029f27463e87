pub mod Held
pub mod Fill
pub mod Keeps
pub mod FillLaws
pub mod TurnLaws
