pub mod Appended
pub mod Asked
pub mod Closing
pub mod Converting
pub mod Exit
pub mod Verdicts
pub mod WayOn
pub mod Salvaging
