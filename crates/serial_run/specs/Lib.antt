-- The definitions in the order in which to read them.

-- What the outcome of a run tells, and the words that are told.
pub mod Moments
pub mod Outcomes
pub mod Touched
pub mod Followed
-- How the code's own types are seen: its runs, its locals, where it aims, and where it goes on.
pub mod Fits
pub mod Runs
pub mod Locals
pub mod Aims
pub mod Ways
pub mod Units
pub mod Rounds
