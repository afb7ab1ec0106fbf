-- Where a run stands, piece by piece, and what is gathered or kept then. No clause of a public call names these.
pub mod Receiver
pub mod Lines
pub mod Texts
pub mod Counting
pub mod Rewritten
pub mod Taken
pub mod Received
pub mod FormsGo
pub mod LinesGo
