pub mod Code
pub mod CodeLaws
pub mod Following
pub mod FollowingLaws
pub mod Instruction
pub mod InstructionLaws
pub mod Machine
pub mod Running
