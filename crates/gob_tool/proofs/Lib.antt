pub mod PrintLaws
pub mod LinesStay
pub mod ReceivedLaws
pub mod ConvertLaws
pub mod TakeRuns
pub mod WantedLaws
pub mod EndLaws
pub mod ShowLaws
pub mod TextLaws
pub mod CheckLaws
pub mod TidyStays
pub mod RewriteLaws
mod TidiedLaws
mod FormLaws
pub mod ReaderRuns
pub mod Profile
