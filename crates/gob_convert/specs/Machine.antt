pub mod Clashing
pub mod Converting
pub mod Printing
pub mod Wanted
