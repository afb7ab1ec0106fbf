pub mod HeldEvent
pub mod Reads
pub mod HeldText
pub mod FilledLine
