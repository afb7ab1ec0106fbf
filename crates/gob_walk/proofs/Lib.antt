pub mod EndLaws
pub mod StandingLaws
pub mod AnswerLaws
pub mod TellLaws
pub mod WholeLaws
pub mod PublicLaws
