pub mod BracketLaws
pub mod DeclarationLaws
pub mod GrammarLaws
pub mod LexingLaws
pub mod ScanLaws
