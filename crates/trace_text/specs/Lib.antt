pub mod Answer
pub mod Fields
pub mod Reading
pub mod Statements
pub mod Trace
