use Rattle.std.proofs.Common.{◌∙◌, ◌≤◌, ap, length, refl, subst, sym}
use Rattle.gob_appended.specs.Front.{front_at}
use Rattle.gob_appended.specs.Known.{known}
use Rattle.gob_appended.specs.Left.{part_of}
use Rattle.gob_appended.specs.Once.{rest, staying}
use Rattle.gob_appended.specs.Waiting.{waiting}
use Rattle.gob_appended.specs.declared.left.Left.TheVariants as left
use Rattle.gob_appended.proofs.OffsetLaws.{judged, none_left}
use Rattle.gob_appended.proofs.ReaderLaws.{due_is, ends_so, goes_on_so, last_rest, plain_comes, rest_comes}
use Rattle.gob_appended.proofs.appended.Appended.step.Goals as goal

pub returns-in-Plain-clause-bytes : goal.returns-in-Plain-clause-bytes
returns-in-Plain-clause-bytes g c =
    let s = c.args.self.now in
    let w = waiting s.waiting in
    goes_on_so (known s.known) (known s.known) (part_of s.left) (staying c.run_end.result) w w 0 _
    (plain_comes 0 (known s.known) (part_of s.left) c.in-Plain.size c.run_end.result w c.bytes-bytes.result.now
    (due_is s.left (sym c.goes_on.ensures ∙ c.if-goes_on.false)) c.bytes-bytes.ensures c.in-Plain.ensures.front
    c.in-Plain.ensures.size c.run_end.ensures)

pub returns-in-Plain-clause-offsets : goal.returns-in-Plain-clause-offsets
returns-in-Plain-clause-offsets g c =
    let s = c.args.self.now in
    judged {remaining = g.R.Read.remaining} {s = s} {t = record s { left = left.Bytes c.run_end.result }} refl refl refl
    (λ i u e. plain_comes i (known s.known) (part_of s.left) c.in-Plain.size c.run_end.result (waiting s.waiting)
    c.bytes-bytes.result.now (due_is s.left (sym c.goes_on.ensures ∙ c.if-goes_on.false)) c.bytes-bytes.ensures
    c.in-Plain.ensures.front c.in-Plain.ensures.size c.run_end.ensures u)

pub returns-in-Nothing-clause-bytes : goal.returns-in-Nothing-clause-bytes
returns-in-Nothing-clause-bytes g c =
    let s = c.args.self.now in
    let w = waiting s.waiting in
    ends_so (known s.known) (part_of s.left) rest w (g.R.Read.remaining s.reader) s.ended c.if-self.true
    (last_rest 0 (known s.known) (part_of s.left) w (due_is s.left (sym c.goes_on.ensures ∙ c.if-goes_on.false))
    (ap front_at (sym c.bytes-bytes.ensures) ∙ sym c.in-Nothing.ensures.front))

pub returns-in-Nothing-clause-offsets : goal.returns-in-Nothing-clause-offsets
returns-in-Nothing-clause-offsets g c =
    let s = c.args.self.now in
    judged {remaining = g.R.Read.remaining} {s = s} {t = record s { left = left.All }} refl refl refl
    (λ i u e. last_rest i (known s.known) (part_of s.left) (waiting s.waiting)
    (due_is s.left (sym c.goes_on.ensures ∙ c.if-goes_on.false))
    (ap front_at (sym c.bytes-bytes.ensures) ∙ sym c.in-Nothing.ensures.front) u
    (none_left (g.R.Read.remaining s.reader) s.ended u c.if-self.true e))

pub returns-in-Nothing-2-clause-bytes : goal.returns-in-Nothing-2-clause-bytes
returns-in-Nothing-2-clause-bytes g c =
    let s = c.args.self.now in
    let w = waiting s.waiting in
    goes_on_so (known s.known) (known s.known) (part_of s.left) rest w w 0 _
    (rest_comes 0 (known s.known) (part_of s.left) w (due_is s.left (sym c.goes_on.ensures ∙ c.if-goes_on.false))
    (ap front_at (sym c.bytes-bytes.ensures) ∙ sym c.in-Nothing-2.ensures.front)
    (subst (λ w. 65536 ≤ length w) c.bytes-bytes.ensures c.if-len-ge-LIMIT.true))

pub returns-in-Nothing-2-clause-offsets : goal.returns-in-Nothing-2-clause-offsets
returns-in-Nothing-2-clause-offsets g c =
    let s = c.args.self.now in
    judged {remaining = g.R.Read.remaining} {s = s} {t = record s { left = left.All }} refl refl refl
    (λ i u e. rest_comes i (known s.known) (part_of s.left) (waiting s.waiting)
    (due_is s.left (sym c.goes_on.ensures ∙ c.if-goes_on.false))
    (ap front_at (sym c.bytes-bytes.ensures) ∙ sym c.in-Nothing-2.ensures.front)
    (subst (λ w. 65536 ≤ length w) c.bytes-bytes.ensures c.if-len-ge-LIMIT.true) u)
