pub mod ReadingLaws
pub mod WhyLaws
pub mod KeepingLaws
mod RefusedLaws
pub mod ExplainLaws
pub mod SendingLaws
