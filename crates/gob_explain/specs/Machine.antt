pub mod Walking
pub mod Printing
pub mod Putting
