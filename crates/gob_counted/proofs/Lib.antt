pub mod StrictLaws
pub mod GoLaws
pub mod CountLaws
