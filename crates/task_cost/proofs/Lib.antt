pub mod Greatest
pub mod Measured
pub mod Products
pub mod Turns
