-- What a tape stands for while it is built or written. No clause of a public call names these, but that of a builder.
pub mod Coming
pub mod Opened
pub mod State
pub mod Received
pub mod View
pub mod Writing
pub mod Values
pub mod Tidying
pub mod Noted
pub mod Packing
