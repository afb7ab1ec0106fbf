-- What a writer has written after a call.
pub mod WritingLaws
pub mod WriterSteps
pub mod WriteStreamSteps
