-- The definitions in the order in which to read them.

-- Which programs are accepted, and how another one is refused.
pub mod Accepted
pub mod RefusalLaws
pub mod WellFormed
-- The rules by their numbers: names (1 to 3), counts (4 to 7), endings (8 and 9), transitions
-- (10), top halves (11), messages (12), loops (13) and measures (14 to 16).
pub mod Scope
pub mod Mentions
pub mod NameRules
pub mod Counts
pub mod Endings
pub mod Transitions
pub mod Tops
pub mod Gives
pub mod Loops
pub mod Measures
-- What stands below several rules: the bodies of a program, what is found in blocks, and the least
-- of places.
pub mod Bodies
pub mod Blocks
pub mod Least
-- What holds of an accepted program, and what is read from it.
pub mod Sizes
pub mod Messages
pub mod Numbers
-- How the code looks for broken rules. No clause of a public function cites these.
pub mod Assignments
pub mod BodyRules
pub mod Found
pub mod UnitWalk
pub mod Walk
pub mod Within
