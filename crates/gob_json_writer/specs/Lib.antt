pub mod Nils
pub mod NilsJson
pub mod TapeJson
pub mod WritesJson
pub mod FilledJson
pub mod Gaps
pub mod Laws
pub mod Machine
