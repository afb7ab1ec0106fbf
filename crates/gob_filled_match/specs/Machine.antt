pub mod Bytes
pub mod Distinct
pub mod Moving
pub mod Taking
