-- What the search has found and what it keeps, and the steps of receiving. No clause of a public call names these.
pub mod Search
pub mod Struct
pub mod Conversions
pub mod Exploring
pub mod Kept
pub mod Receiving
pub mod ReceivingWhole
