pub mod WalkLaws
pub mod ShiftLaws
pub mod LeadLaws
pub mod ShownLaws
pub mod LineLaws
