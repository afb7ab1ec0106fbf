-- The laws that the proofs of other crates cite, in one place. Declares nothing.
pub use Rattle.gob_plain.proofs.HeldPlainLaws.{says_unfilled}
pub use Rattle.gob_plain.proofs.FilledTextLaws.{whole_filled}
