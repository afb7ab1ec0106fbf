use Rattle.std.proofs.Common.{◌+◌, ap, refl}
use Rattle.std.specs.Prelude.{is_some}
use Rattle.gob_appended.specs.Known.{known}
use Rattle.gob_appended.specs.Left.{part_of}
use Rattle.gob_appended.specs.Once.{staying}
use Rattle.gob_appended.specs.Waiting.{waiting}
use Rattle.gob_appended.specs.declared.left.Left.TheVariants as left
use Rattle.gob_appended.proofs.OffsetLaws.{judged, leaves_out}
use Rattle.gob_appended.proofs.ReaderLaws.{due_is, goes_on_so, left_out, taken_in}
use Rattle.gob_appended.proofs.appended.Appended.meet.Goals as goal

pub returns-in_ok-leave-in-Some-clause-bytes : goal.returns-in_ok-leave-in-Some-clause-bytes
returns-in_ok-leave-in-Some-clause-bytes g c =
    let s = c.args.self.now in
    let w = waiting s.waiting in
    let v = waiting c.pass.new.self in
    goes_on_so (known s.known) (known c.say_again.new.self) (part_of s.left) (part_of s.left) w v (0 + c.args.size) _
    (rw c.say_again.ensures (left_out 0 (known s.known) (part_of s.left) c.args.size w c.bytes.result.now v
    (is_some c.in_ok-place.field-0) (due_is s.left c.requires.due) c.requires.stands c.requires.size.0
    c.requires.size.1 c.bytes.ensures c.in_ok-place.ensures (ap is_some c.in-Some.is) c.pass.ensures))

pub returns-in_ok-leave-in-Some-clause-offsets : goal.returns-in_ok-leave-in-Some-clause-offsets
returns-in_ok-leave-in-Some-clause-offsets g c =
    let s = c.args.self.now in
    let w = waiting s.waiting in
    let v = waiting c.pass.new.self in
    leaves_out {remaining = g.R.Read.remaining} {s = s}
    {t = record s { waiting = c.pass.new.self; known = c.say_again.new.self; places = c.leave.new.self }} c.args.size
    c.requires.size.1 c.in_ok-leave-in-Some.ensures.given c.in_ok-leave-in-Some.ensures.left_out c.in_ok-leave-in-Some.ensures.places refl
    c.pass.ensures (λ i. rw c.say_again.ensures (left_out i (known s.known) (part_of s.left) c.args.size w
    c.bytes.result.now v (is_some c.in_ok-place.field-0) (due_is s.left c.requires.due) c.requires.stands
    c.requires.size.0 c.requires.size.1 c.bytes.ensures c.in_ok-place.ensures (ap is_some c.in-Some.is)
    c.pass.ensures))

pub returns-in_ok-add-in-None-clause-bytes : goal.returns-in_ok-add-in-None-clause-bytes
returns-in_ok-add-in-None-clause-bytes g c =
    let s = c.args.self.now in
    let w = waiting s.waiting in
    goes_on_so (known s.known) (known c.add.new.self) (part_of s.left) (staying c.args.size) w w 0 _
    (taken_in 0 (known s.known) (known c.add.new.self) (part_of s.left) c.args.size w c.bytes.result.now
    c.bytes-in-None.result.now (is_some c.in_ok-place.field-0) (due_is s.left c.requires.due) c.requires.stands
    c.requires.size.0 c.requires.size.1 c.bytes.ensures c.bytes-in-None.ensures c.in_ok-place.ensures
    (ap is_some c.in-None.is) c.in_ok-add-in-None.ensures.noted)

pub returns-in_ok-add-in-None-clause-offsets : goal.returns-in_ok-add-in-None-clause-offsets
returns-in_ok-add-in-None-clause-offsets g c =
    let s = c.args.self.now in
    let w = waiting s.waiting in
    judged {remaining = g.R.Read.remaining} {s = s}
    {t = record s { known = c.add.new.self; left = left.Bytes c.args.size }} refl refl refl
    (λ i u e. taken_in i (known s.known) (known c.add.new.self) (part_of s.left) c.args.size w
    c.bytes.result.now c.bytes-in-None.result.now (is_some c.in_ok-place.field-0) (due_is s.left c.requires.due)
    c.requires.stands c.requires.size.0 c.requires.size.1 c.bytes.ensures c.bytes-in-None.ensures c.in_ok-place.ensures
    (ap is_some c.in-None.is) c.in_ok-add-in-None.ensures.noted u)
