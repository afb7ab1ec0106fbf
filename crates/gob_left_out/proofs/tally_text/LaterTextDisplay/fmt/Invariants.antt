-- The texts of the fields before this place were written.
use Rattle.std.proofs.Common.{take, drop}
use Rattle.std.specs.List.{flat_map}
use Rattle.std.specs.Fmt.{HasWritten, IsPlainFormatter}
use Rattle.gob_left_out.specs.Tally.{TallyRow}
use Rattle.gob_left_out.specs.TallyText.{later_text}
use Rattle.gob_left_out.proofs.tally_text.LaterTextDisplay.fmt.Given as goal

abbrev pub invariant-loop-place : goal.invariant-loop-place
invariant-loop-place g l =
    IsPlainFormatter l.initial.f
    → HasWritten g.W.Write.write_str_gives l.initial.f
    (flat_map (λ (row : TallyRow). later_text row.1) (drop 1 (take l.place l.fn.self.0.now))) l.f
