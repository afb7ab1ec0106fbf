pub mod Joining
pub mod Numbered
pub mod Renamed
pub mod Taking
