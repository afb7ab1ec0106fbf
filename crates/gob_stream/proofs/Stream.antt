-- What follows from the definition of a stream and of its refusals.
pub mod StreamLaws
pub mod FewLaws
pub mod RefusalLaws
pub mod WireLaws
pub mod DefinableLaws
pub mod RefusingLaws
pub mod OutcomeLaws
pub mod ShownLaws
pub mod StayLaws
pub mod SomeOutcome
pub mod DescriptionDepth
