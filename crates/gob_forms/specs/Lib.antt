pub mod Forms
pub mod Guesses
pub mod Heads
pub mod Names
pub mod Spellings
pub mod Texts
