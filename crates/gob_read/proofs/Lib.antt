pub mod PublicLaws
pub mod Grammar
pub mod Events
pub mod Machine
