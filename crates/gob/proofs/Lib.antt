mod AskedLaws
mod ClashLaws
mod ConvertLaws
pub mod SalvagingLaws
