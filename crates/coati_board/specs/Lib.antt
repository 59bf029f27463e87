pub mod Served
pub mod Ready
pub mod Written
pub mod Cursors
pub mod Handlers
pub mod Raising
pub mod Board
pub mod Postings
