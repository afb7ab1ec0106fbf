pub mod Flat
pub mod Meaning
pub mod Seeing
pub mod Laws
pub mod FlatNodes
pub mod Calls
pub mod Machine
