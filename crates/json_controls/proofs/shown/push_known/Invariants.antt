-- What is appended, and what the rest shows behind the bytes that are held back, is all.
use Rattle.std.proofs.Common.{◌≡◌, ◌++◌, drop}
use Rattle.json_controls.specs.Controls.{shown}
use Rattle.json_controls.specs.declared.held.HeldBack.TheVariants as held
use Rattle.json_controls.proofs.shown.push_known.Given as goal

abbrev pub invariant-loop-byte : goal.invariant-loop-byte
invariant-loop-byte l =
    l.out.items ++ shown l.held (drop l.byte-index l.text) ≡ l.fn.out.items ++ shown held.Nothing l.text
