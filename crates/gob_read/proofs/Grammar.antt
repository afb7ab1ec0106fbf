-- What follows from the grammar alone: what is expected, what is refused, and where values begin and end.
pub mod Whole
pub mod Once
pub mod Prefixes
pub mod Compare
pub mod Firsts
pub mod Onward
pub mod Inside
pub mod Stay
pub mod HeldLaws
pub mod Deep
pub mod Deepest
pub mod Seen
pub mod Complete
pub mod Honest
pub mod ArrayLengths
pub mod Taken
pub mod Stops
