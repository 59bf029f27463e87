pub mod Effort
pub mod Need
pub mod Acts
pub mod Laws
pub mod Pace
pub mod PaceLaws
pub mod Running
