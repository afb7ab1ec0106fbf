-- How nodes are put. No clause of a public call names these.
pub mod Putting
pub mod Gathered
