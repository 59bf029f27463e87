pub mod Message
pub mod Operator
pub mod OperatorLaws
