pub mod InTurn
pub mod Run
