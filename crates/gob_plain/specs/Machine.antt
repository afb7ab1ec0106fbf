-- A number of any size, as its digits are put together. No clause of a public call names these.
pub mod Groups
-- Which maps are objects, as it is found. No clause of a public call names these.
pub mod Naming
-- JSON in place of nulls. No clause of a public call names these.
pub mod Nulls
-- The JSON of a value that holds others, with a text for each of them. No clause of a public call names these.
pub mod Levels
-- Which of these stand in the text around. No clause of a public call names these.
pub mod Parting
-- What fills the nils of a value, as it is put together. No clause of a public call names these.
pub mod Placing
