pub mod FrontLaws
pub mod PutLaws
