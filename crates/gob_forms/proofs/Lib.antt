pub mod FormLaws
pub mod HeadLaws
pub mod SpellingLaws
pub mod TextLaws
