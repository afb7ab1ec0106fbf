pub mod Faults
pub mod Joining
pub mod Machine
pub mod Renaming
pub mod Taking
