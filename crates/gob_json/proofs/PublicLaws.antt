-- The laws that the proofs of other crates cite, in one place. Declares nothing.
pub use Rattle.gob_json.proofs.LineLaws.{line_text}
