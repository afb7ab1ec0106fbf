pub mod PartTypes
pub mod Standing
pub mod Event
pub mod Told
