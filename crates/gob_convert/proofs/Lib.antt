pub mod ClashingLaws
pub mod ConvertingLaws
pub mod EndingLaws
pub mod ValueLaws
pub mod WantedLaws
pub mod ShownLaws
pub mod PrintingLaws
