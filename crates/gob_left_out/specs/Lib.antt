pub mod LeftOut
pub mod Machine
pub mod Tally
pub mod TallyText
