-- The laws that the proofs of other crates cite, in one place. Declares nothing.
pub use Rattle.gob_value.proofs.AppendedLaws.{keeps, keeps_then, on_err_any, then}
pub use Rattle.gob_value.proofs.DefinableLaws.{definable}
pub use Rattle.gob_value.proofs.DescriptionTidy.{described_alike, said_stays}
pub use Rattle.gob_value.proofs.JudgedLaws.{fault_at}
pub use Rattle.gob_value.proofs.LengthLaws.{spelled_no_longer}
pub use Rattle.gob_value.proofs.PrefixLaws.{same_spelling, same_top}
pub use Rattle.gob_value.proofs.StayLaws.{AllReady, each_back, each_on, pairs_back, pairs_on, spells_back, spells_on}
pub use Rattle.gob_value.proofs.StayLaws.{top_back, top_on}
pub use Rattle.gob_value.proofs.TestSteps.{not_true}
pub use Rattle.gob_value.proofs.TidyFits.{tidy_fits}
pub use Rattle.gob_value.proofs.TidyLaws.{no_deeper, no_deeper as tidy_no_deeper, one_tidy, tidy_form}
pub use Rattle.gob_value.proofs.TidySteps.{IsNoList, IsNoMap, IsNoStruct, no_numbers}
pub use Rattle.gob_value.proofs.UniqueLaws.{one_spelling, one_top, written_once}
pub use Rattle.gob_value.proofs.ViewLaws.{view-Bytes, view-Fields, view-Int, view-Many, view-Opaque, view-Pairs}
pub use Rattle.gob_value.proofs.ViewLaws.{view-Str}
pub use Rattle.gob_value.proofs.WholeLaws.{first_of}
pub use Rattle.gob_value.proofs.WholeSteps.{all_three, both, seen, whole_of_two}
pub use Rattle.gob_value.proofs.WithinLaws.{leaf_within}
pub use Rattle.gob_value.proofs.WrittenLaws.{spells_written}
