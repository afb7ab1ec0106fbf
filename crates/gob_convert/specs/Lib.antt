pub mod ClashText
pub mod Clashing
pub mod Converting
pub mod Faults
pub mod Kinds
pub mod Machine
pub mod Printing
pub mod Running
