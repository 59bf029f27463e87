pub mod Meaning
pub mod OnCourse
pub mod Reached
pub mod Turning
pub mod UnderWay
