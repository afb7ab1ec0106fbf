pub mod Says
pub mod Lines
pub mod Laws
