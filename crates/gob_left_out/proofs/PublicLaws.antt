-- The laws that the proofs of other crates cite, in one place. Declares nothing.
pub use Rattle.gob_left_out.proofs.StayLaws.{left_back}
