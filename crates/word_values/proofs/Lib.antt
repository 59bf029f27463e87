pub mod Gives
pub mod Layers
pub mod Programs
pub mod SpelledWords
pub mod Stays
