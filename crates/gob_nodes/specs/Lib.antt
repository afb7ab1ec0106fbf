pub mod Nodes
pub mod Says
pub mod Shapes
pub mod Size
pub mod Calls
pub mod Laws
