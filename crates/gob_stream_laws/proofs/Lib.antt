pub mod Outcomes
pub mod Prefixes
