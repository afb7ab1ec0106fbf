-- The laws that the proofs of other crates cite, in one place. Declares nothing.
pub use Rattle.gob_types.proofs.FirstLaws.{contains_at, contains_read, slice_get-append_left}
pub use Rattle.gob_types.proofs.GrowthLaws.{Keeps, extends_keeps, names_ready, reaches_itself, ready_defined}
pub use Rattle.gob_types.proofs.GrowthLaws.{ready_grounded, ready_on, shape_back, shape_of-append, shape_of-append_new}
pub use Rattle.gob_types.proofs.GrowthLaws.{some_injective}
pub use Rattle.gob_types.proofs.TableLaws.{base_is_table, shape_of-table, table-push}
pub use Rattle.gob_types.proofs.BasicLaws.{basic_shape_of}
