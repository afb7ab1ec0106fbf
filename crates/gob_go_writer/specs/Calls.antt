pub mod Again
pub mod Writer
