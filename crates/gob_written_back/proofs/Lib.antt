pub mod FeedLaws
pub mod CutLaws
pub mod SayLaws
pub mod OnceLaws
pub mod ExactLaws
