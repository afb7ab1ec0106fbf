pub mod Adds
pub mod Library
pub mod Machine
pub mod Names
pub mod Places
pub mod Program
pub mod Registered
pub mod Source
