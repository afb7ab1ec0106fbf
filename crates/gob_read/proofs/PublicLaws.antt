-- The laws that the proofs of other crates cite, in one place. Declares nothing.
pub use Rattle.gob_read.proofs.Events.BuiltLaws.{all_told-append, signed_is, tells_built}
pub use Rattle.gob_read.proofs.Grammar.Compare.{expects_once}
pub use Rattle.gob_read.proofs.Events.CountLaws.{counting, parts_told-append, raw_told-append}
pub use Rattle.gob_read.proofs.Grammar.ArrayLengths.{table_counted}
pub use Rattle.gob_read.proofs.Grammar.Firsts.{bad_head_first, ends_number, extra_first, prefix_not_number}
pub use Rattle.gob_read.proofs.Grammar.Firsts.{not_allowed_first}
pub use Rattle.gob_read.proofs.Grammar.Firsts.{not_minimal_first, short_first, too_deep_first}
pub use Rattle.gob_read.proofs.Grammar.Prefixes.{append_nil, prefix_of, rest_behind}
pub use Rattle.gob_read.proofs.Grammar.Honest.{first_honest}
pub use Rattle.gob_read.proofs.Grammar.Onward.{nothing_yet}
pub use Rattle.gob_read.proofs.Machine.Pushed.{IsPushed, usable, usable_pushed}
pub use Rattle.gob_read.proofs.Machine.Runs.{take_and_drop}
pub use Rattle.gob_read.proofs.Grammar.Seen.{given_once, only_extra, place_within, seen_within, shown_stays, take_fewer}
pub use Rattle.gob_read.proofs.Grammar.Seen.{take_whole}
pub use Rattle.gob_read.proofs.Grammar.Whole.{next_below}
