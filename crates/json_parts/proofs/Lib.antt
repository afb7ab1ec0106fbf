pub mod Copies
pub mod Counts
pub mod PartLaws
