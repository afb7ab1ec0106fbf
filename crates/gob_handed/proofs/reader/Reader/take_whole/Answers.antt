-- What stood whole is kept.
use Rattle.std.proofs.Common.{rules, ◌≡◌, ◌≤◌, ◌++◌, ◌∷◌, [], List, ap, drop, length, refl, ◌∙◌}
use Rattle.std.proofs.lemmas.List.{drop-append-le}
use Rattle.gob_stream.specs.Stepping.{in_format}
use Rattle.gob_handed.specs.Unfolded.{handout}
use Rattle.gob_handed.specs.declared.handout.Handout.{Handout}
use Rattle.gob_handed.proofs.ReadingLaws.{takes_whole}
use Rattle.gob_handed.proofs.reader.Reader.take_whole.Goals as goal

pub pass-requires-clause-item : goal.pass-requires-clause-item
pass-requires-clause-item g c = (
  g.S.Steps.stepping.told c.in_ok-id.ensures.handed.item,
  in_format c.in_ok-id.ensures.handed.next,
)

pub returns-clause-taken : goal.returns-clause-taken
returns-clause-taken g c = λ items bytes h.
    let d = g.S.Steps.stepping in
    let n = c.in_ok-id.ensures in
    let p = c.pass.ensures in
    let before = c.args.self.now.waiting.handouts.items in
    let taken = c.args.self.now.waiting.taken in
    let one = handout c.in_ok-id.field-0.id
    (record { begin = c.args.self.now.begin; end = c.saturating_add-end.result }) c.in_ok-id.field-0.content in
    let pushed : c.push_handout.new.out.items ≡ before ++ one ∷ [] = search rules in
    let within : taken ≤ length before = c.args.self.now.waiting.within in
    let waits : drop taken c.push_handout.new.out.items ≡ drop taken before ++ one ∷ [] =
    ap (λ (l : List Handout). drop taken l) pushed ∙ rw drop-append-le refl in
    takes_whole d bytes c.args.piece.now n.handed n.within p.passed p.between p.stands p.taken p.types p.limits
    c.saturating_add-end.ensures refl refl waits h
