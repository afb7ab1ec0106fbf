-- The laws that the proofs of other crates cite, in one place; src/laws.rt says each of them. Declares nothing.
pub use Rattle.gob_stream.proofs.Stream.DescriptionDepth.{FieldsAll, IsFlat, PartsAll, ShapeAll, field_all}
pub use Rattle.gob_stream.proofs.Stream.OutcomeLaws.{one_prefix, outcome_once, outcome_refused, outcome_within}
pub use Rattle.gob_stream.proofs.ReadBackLaws.{read_back}
pub use Rattle.gob_stream.proofs.Stream.FewLaws.{gives_nothing, items_few}
pub use Rattle.gob_stream.proofs.Stream.RefusalLaws.{not_counted, one_counted}
pub use Rattle.gob_stream.proofs.Stream.RefusingLaws.{take_prefix}
pub use Rattle.gob_stream.proofs.Stream.SomeOutcome.{outcome_somehow, somehow}
pub use Rattle.gob_stream.proofs.Reader.HasReadLaws.{limits_stay, one_table, stands_within}
pub use Rattle.gob_stream.proofs.Stream.StayLaws.{shown_refusal_stays, shown_there}
pub use Rattle.gob_stream.proofs.Stream.StreamLaws.{NoNext, counted_prefix, counted_some, gives_items, one_more}
pub use Rattle.gob_stream.proofs.Stream.StreamLaws.{same_id}
pub use Rattle.gob_stream.proofs.Reader.ReadStreamSteps.{IsSeen, views_behind, views_meant}
pub use Rattle.gob_stream.proofs.Reader.UnderWayLaws.{after_gives}
pub use Rattle.gob_stream.proofs.Reader.WholeSteps.{begun_gives, whole_item}
pub use Rattle.gob_stream.proofs.Stream.WireLaws.{wire_ready}
