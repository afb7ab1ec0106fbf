-- The laws that the proofs of other crates cite, in one place. Declares nothing.
pub use Rattle.gob_rename.proofs.AlikeLaws.{ready_follows, top_follows}
pub use Rattle.gob_rename.proofs.RenamedLaws.{renamed_back, renamed_on}
