pub mod BaseTable
pub mod Earlier
