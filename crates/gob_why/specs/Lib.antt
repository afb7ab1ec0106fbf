pub mod Why
pub mod Explain
pub mod Machine
pub mod Said
