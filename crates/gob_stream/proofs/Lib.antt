pub mod PublicLaws
pub mod FaultSteps
pub mod DenialLaws
pub mod ReadBackLaws
pub mod Stream
pub mod Written
pub mod Reader
