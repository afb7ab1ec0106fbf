pub mod FieldLaws
pub mod JoiningLaws
pub mod NumberLaws
pub mod RenamedLaws
pub mod TakingLaws
pub mod ValueLaws
