-- What contracts see of a match.
pub mod Matched
