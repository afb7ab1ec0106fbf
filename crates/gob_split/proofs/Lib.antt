pub mod TextLaws
pub mod NextLaws
pub mod CutterLaws
pub mod RunLaws
pub mod PartLaws
pub mod DefinitionsLaws
