-- The laws that the proofs of other crates cite, in one place. Declares nothing.
pub use Rattle.gob_num.proofs.ConversionLaws.{unsigned_pattern, unsigned_signed}
pub use Rattle.gob_num.proofs.DigitLaws.{append_split, big_endian-digits, big_endian_below, bytes-append, bytes_each}
pub use Rattle.gob_num.proofs.DigitLaws.{bytes_prefix, bytes_rest, digits-bytes, length-digits, pow256_mono}
pub use Rattle.gob_num.proofs.PrefixLaws.{bad_head_none, bad_head_not_padded, begin_one_way, begin_somehow}
pub use Rattle.gob_num.proofs.PrefixLaws.{begins_prefix}
pub use Rattle.gob_num.proofs.PrefixLaws.{prefix_begins, prefix_not_bad_head, prefix_not_padded, prefix_not_past}
pub use Rattle.gob_num.proofs.PrefixLaws.{prefix_not_whole, not_minimal_none, past_not_bad_head, past_not_padded}
pub use Rattle.gob_num.proofs.PrefixLaws.{whole_not_bad_head, whole_not_padded, whole_not_past}
pub use Rattle.gob_num.proofs.PatternLaws.{pattern_fits, pattern_prefix, pattern_spelled, pattern_unique}
pub use Rattle.gob_num.proofs.PatternLaws.{pattern_unsigned, pattern_value, reverse-bytes}
pub use Rattle.gob_num.proofs.PlaceLaws.{number_stands}
pub use Rattle.gob_num.proofs.SignedLaws.{signed_fits, signed_prefix, signed_spelled, signed_unique, signed_unsigned}
pub use Rattle.gob_num.proofs.SignedLaws.{signed_value}
pub use Rattle.gob_num.proofs.SpelledLaws.{appends_as, appends_then, joined, mapped, regroup}
pub use Rattle.gob_num.proofs.UnsignedLaws.{unsigned_bytes, unsigned_fits, unsigned_length, unsigned_prefix}
pub use Rattle.gob_num.proofs.UnsignedLaws.{unsigned_spelled, unsigned_unique, unsigned_value}
