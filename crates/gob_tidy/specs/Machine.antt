-- The steps of tidying. No clause of a public call names these.
pub mod Tidying
