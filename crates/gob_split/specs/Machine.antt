pub mod Items
pub mod Cutting
pub mod Splitting
pub mod Defining
