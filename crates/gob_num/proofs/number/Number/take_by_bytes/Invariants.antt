use Rattle.std.proofs.Common.{◌≡◌, ◌++◌, take}
use Rattle.gob_num.specs.Unsigned.{IsUnsignedPrefix}
use Rattle.gob_num.proofs.number.Number.take_by_bytes.Given as goal

abbrev pub invariant-loop-i : goal.invariant-loop-i
invariant-loop-i l = record {
  taken : l.self ≡ l.fn.self ++ take l.i l.piece;
  prefix : IsUnsignedPrefix (l.fn.self ++ take l.i l.piece);
}
