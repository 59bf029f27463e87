-- Places of a text, and how a line is shown.
pub mod Spot
pub mod Shown
-- The messages, what is told beside them, and the whole texts.
pub mod Words
pub mod Asked
pub mod Labels
pub mod Hints
pub mod Messages
pub mod Trace
pub mod Accepted
pub mod Answer
pub mod Call
