pub mod Renaming
pub mod Words
pub mod Fitting
pub mod Laws
