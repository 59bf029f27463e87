pub mod Answer
pub mod Byte
pub mod Front
pub mod Reading
pub mod Span
pub mod Spelling
pub mod Token
