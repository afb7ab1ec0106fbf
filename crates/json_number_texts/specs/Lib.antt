pub mod Laws
pub mod Out
pub mod Texts
pub mod Writer
