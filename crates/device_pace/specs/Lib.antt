pub mod Effort
pub mod Running
pub mod Laws
