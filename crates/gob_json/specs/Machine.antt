-- What is known of the text that is under way. No clause of a public call names these.
pub mod Appended
pub mod Digits
pub mod Gathered
pub mod Heads
pub mod Piece
pub mod TextParts
