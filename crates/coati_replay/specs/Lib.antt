-- The definitions in the order in which to read them: a printed text line by line, what is asked
-- of each line, and the verdict.
pub mod Text
pub mod Conditions
pub mod Verdicts
pub mod Laws
-- What the code's own types stand for, and what is asked of a line of each kind.
pub mod Shown
pub mod Kinds
pub mod Least
pub mod Stages
