-- With the digits of the rest, all digits are put out.
use Rattle.std.proofs.Common.{Result, drop}
use Rattle.hex.specs.Hex.{encode_lower}
use Rattle.gob_json.proofs.text.leaf.put_digits.Given as goal

abbrev pub invariant-bytes : goal.invariant-bytes
invariant-bytes g l = (new : g.row.O.Denot) (r : Result (Unit {0}) g.row.O-Fault.Denot)
    → g.O.TextOut.puts l.out new (encode_lower (drop l.byte-index l.bytes)) r
    → g.O.TextOut.puts l.fn.out new (encode_lower l.bytes) r
