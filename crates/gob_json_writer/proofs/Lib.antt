pub mod NilsLaws
pub mod WrittenLaws
pub mod TapeLaws
mod GapsLaws
mod HoldingLaws
mod LevelLaws
pub mod OnceLaws
mod PartOrder
pub mod ShownLaws
