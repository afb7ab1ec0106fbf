pub mod CapitalLaws
pub mod CodeLaws
pub mod KeptLaws
pub mod KindLaws
pub mod SightLaws
pub mod SlotLaws
