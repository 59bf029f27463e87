-- Read from top to bottom: what a history is, what its marks tell, the serial run, one reading of
-- the marks from the left, what is legal, and then what the script and the clock show.
pub mod History
pub mod Marks
pub mod SerialRun
pub mod Walk
pub mod Standing
pub mod Postings
pub mod Aborts
pub mod Boots
pub mod Legal
pub mod Scripted
pub mod Progresses
pub mod Printed
pub mod Laws
