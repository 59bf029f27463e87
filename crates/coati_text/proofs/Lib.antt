pub mod DigitRuns
pub mod LineEnds
