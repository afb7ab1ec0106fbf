pub mod Once
pub mod Shown
