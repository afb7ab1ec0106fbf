pub use Rattle.gob_types.specs.Defined
pub use Rattle.gob_types.specs.Ready
pub use Rattle.gob_types.specs.Table
pub use Rattle.gob_value.specs.Fits
pub use Rattle.gob_value.specs.Tree
pub use Rattle.gob_value.specs.View
pub mod Leaves
pub mod LookUps
