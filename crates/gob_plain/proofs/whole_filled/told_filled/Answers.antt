-- What is told of the value is said by its JSON.
use Rattle.std.proofs.Common.{◌≡◌, arith, subst, ap, ◌∙◌, []}
use Rattle.json.specs.Print.{print}
use Rattle.gob_num.proofs.PublicLaws.{bytes_each}
use Rattle.gob_types.specs.Defined.{types}
use Rattle.gob_plain.specs.declared.visitor.VisitorPlace.TheVariants as place
use Rattle.gob_plain.specs.HeldEvents.{plain_events}
use Rattle.gob_plain.specs.PlainEvents.{SaysEvents}
use Rattle.gob_plain.proofs.HeldSaidLaws.{filled_said}
use Rattle.gob_plain.proofs.ListedLaws.{said_as_held}
use Rattle.gob_plain.proofs.HeldTokenLaws.{is_so}
use Rattle.gob_plain.proofs.LineLaws.{line_read, line_text}
use Rattle.gob_plain.proofs.PlaceLaws.{if_made}
use Rattle.gob_plain.proofs.whole_filled.told_filled.Goals as goal

pub returns-in-Ok : goal.returns-in-Ok
returns-in-Ok g c =
    let T = types c.args.table.now in
    let tagged = is_so g.row.TAGGED in
    let h = c.in-Ok.ensures in
    let s = h.2.2 in
    let bytes = bytes_each c.args.body.now (λ i. omega (arith, c.type_inv.body i)) in
    if_made (c.is_free.new.text.items ≡ []) c.is_free.result c.is_free.ensures
    (λ free.
    let k = filled_said tagged c.args.style T c.requires.taken c.count-count.ensures.known bytes h.1
    (subst (λ p. SaysEvents c.args.style T place.Free (plain_events tagged h.0) s.tokens p) free.0 s.says) in
    let e = ap (λ t. t.items) free.1 ∙ line_text (ap (λ t. t.items)
    (c.new-out.ensures.text ∙ c.replace.ensures.value) ∙ c.requires.empty)
    c.new-out.ensures.later s.put ∙ ap print k.3 in
    record {
      are_bytes = bytes;
      whole = k.0;
      json = k.1;
      says = said_as_held tagged c.args.style T c.args.id c.requires.listed k.2;
      text_is = e;
      read = line_read e k.3 s.put;
    })
