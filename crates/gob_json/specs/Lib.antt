pub mod Json
pub mod DefinitionJson
pub mod TextWhole
pub mod EventText
pub mod Machine
