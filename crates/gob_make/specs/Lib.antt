pub mod Leaf
pub mod Zero
pub mod Plain
pub mod Tells
pub mod Names
