pub mod PublicLaws
pub mod AlikeLaws
pub mod NameLaws
pub mod WordLaws
pub mod RenamedLaws
pub mod FieldLaws
pub mod EntryLaws
pub mod FitLaws
