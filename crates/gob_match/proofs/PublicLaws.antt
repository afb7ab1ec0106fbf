-- The laws that the proofs of other crates cite, in one place. Declares nothing.
pub use Rattle.gob_match.proofs.MatchedLaws.{pairs_begin, pairs_closed}
pub use Rattle.gob_match.proofs.StayLaws.{least_back, match_back, match_on, receives_back, receives_on}
