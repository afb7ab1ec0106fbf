use Rattle.std.proofs.Common.{◌≡◌, drop}
use Rattle.gob_appended.specs.Cuts.{left_out_at}
use Rattle.gob_appended.proofs.places.Places.left_out_at.Given as goal

abbrev pub invariant-loop-cut : goal.invariant-loop-cut
invariant-loop-cut l = left_out_at l.self.left_out (drop l.cut-index l.self.cuts.items) l.place
    ≡ left_out_at l.self.left_out l.self.cuts.items l.place
