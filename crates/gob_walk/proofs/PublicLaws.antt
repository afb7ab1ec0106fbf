-- The laws that the proofs of other crates cite, in one place. Declares nothing.
pub use Rattle.gob_walk.proofs.EndLaws.{end_found, end_of_both, if_ok, is_known}
pub use Rattle.gob_walk.proofs.StandingLaws.{number_first, value_as, int_parts, next_element}
pub use Rattle.gob_walk.proofs.AnswerLaws.{GoesOn, later_on, reached, reached_both, reached_prefix, stopped, took}
pub use Rattle.gob_walk.proofs.AnswerLaws.{answers_as, end_as, prefix_put, prefix_failed, sends_so, sent_behind}
pub use Rattle.gob_walk.proofs.AnswerLaws.{sent_failed}
