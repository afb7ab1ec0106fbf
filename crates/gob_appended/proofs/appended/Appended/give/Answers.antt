use Rattle.std.proofs.Common.{arith, ◌∙◌, ap, length, refl, take}
use Rattle.gob_appended.specs.Known.{known}
use Rattle.gob_appended.specs.Left.{part_of}
use Rattle.gob_appended.specs.Waiting.{waiting}
use Rattle.gob_appended.proofs.OffsetLaws.{gives}
use Rattle.gob_appended.proofs.ReaderLaws.{given_part, given_some}
use Rattle.gob_appended.proofs.appended.Appended.give.Goals as goal

pub returns-clause-bytes : goal.returns-clause-bytes
returns-clause-bytes g c =
    let w = waiting c.args.self.now.waiting in
    let first = ap length c.bytes.ensures in
    let of = c.of-count.ensures in
    let few = of.few in
    given_some _ _ _ w (waiting c.pass.new.self) c.copy_from_slice.new.self c.args.buf.now _ c.args.self.now.ended
    c.of-count.result c.requires (omega (arith, c.min.ensures)) (omega (arith, c.min.ensures)) of.covered
    (λ on l m. of.some on (omega (arith, c.min.ensures)))
    (c.copy_from_slice.ensures.after ∙ ap (take c.of-count.result) c.bytes-2.ensures) c.pass.ensures
    c.without-self.ensures

pub returns-clause-offsets : goal.returns-clause-offsets
returns-clause-offsets g c =
    let s = c.args.self.now in
    let first = ap length c.bytes.ensures in
    let few = c.of-count.ensures.few in
    gives {remaining = g.R.Read.remaining} {s = s}
    {t = record s { waiting = c.pass.new.self; left = c.without-self.result; places = c.give.new.self }}
    c.of-count.result (omega (arith, c.min.ensures)) c.give.ensures.given c.give.ensures.left_out
    c.give.ensures.cuts s.places.ordered refl c.pass.ensures
    (given_part (known s.known) (part_of s.left) (part_of c.without-self.result) c.of-count.result (waiting s.waiting)
    (waiting c.pass.new.self) c.of-count.ensures.covered (omega (arith, c.min.ensures)) c.pass.ensures
    c.without-self.ensures)
