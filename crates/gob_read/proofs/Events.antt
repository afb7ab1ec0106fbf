-- What events a value has, what they weigh, and what a builder makes of them.
pub mod EventLaws
pub mod WeightLaws
pub mod CountLaws
pub mod StackLaws
pub mod BuiltLaws
pub mod CheckedLaws
