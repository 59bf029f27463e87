pub mod Begun
pub mod OnCourse
pub mod Reached
pub mod Shown
pub mod Stacks
pub mod UnderWay
