-- Where a run stands, item by item. No clause of a public call names these.
pub mod Lines
pub mod PartLines
pub mod Gathered
pub mod PartStream
