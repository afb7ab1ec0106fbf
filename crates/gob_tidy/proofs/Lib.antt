pub mod DroppedLaws
pub mod MovedLaws
pub mod WholeTidied
