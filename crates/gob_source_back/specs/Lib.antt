pub mod Alike
pub mod Differ
