-- The laws that the proofs of other crates cite, in one place. Declares nothing.
pub use Rattle.gob_filled_match.proofs.StayLaws.{filled_received_on, known_on}
pub use Rattle.gob_filled_match.proofs.LossLaws.{loss_on}
