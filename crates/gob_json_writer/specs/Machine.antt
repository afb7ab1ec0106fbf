-- Where the writing of values stands that hold others.
pub mod Holding
