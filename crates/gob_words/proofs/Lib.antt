pub mod WordLaws
pub mod KindLaws
pub mod ViewLaws
pub mod TakingLaws
pub mod SizeLaws
pub mod EscapedLaws
pub mod ShellLaws
