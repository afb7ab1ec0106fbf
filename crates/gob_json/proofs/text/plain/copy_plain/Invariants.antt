-- What is copied so far stands for itself.
use Rattle.std.proofs.Common.{◌≡◌, ℕ, ◌+◌, ◌<◌, ◌++◌, get_or, length, take, true}
use Rattle.json.specs.Run.{is_plain}
use Rattle.gob_json.proofs.text.plain.copy_plain.Given as goal

abbrev pub invariant-bytes : goal.invariant-bytes
invariant-bytes l = record {
  plain : (k : ℕ) → k < l.index → (is_plain (get_or l.bytes k 0) ≡ true) × (get_or l.bytes k 0 < 128);
  copied : take (l.at + l.index) l.block ≡ take l.at l.fn.block ++ take l.index l.bytes;
  before : take l.at l.block ≡ take l.at l.fn.block;
  size : length l.block ≡ length l.fn.block;
}
