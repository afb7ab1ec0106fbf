-- What contracts see of builders and of a reader under way.
pub mod Reader
pub mod Builders
pub mod UnderWay
pub mod ReaderLaws
pub mod UpToNil
