-- What is told of the value is said by its JSON.
use Rattle.std.proofs.Common.{arith, refl, subst, ap, ◌∙◌}
use Rattle.json.specs.Print.{print}
use Rattle.gob_walk.specs.Event.{value_told}
use Rattle.gob_plain.specs.declared.visitor.VisitorPlace.TheVariants as place
use Rattle.gob_plain.specs.Plain.{all_null}
use Rattle.gob_plain.specs.PlainEvents.{SaysEvents}
use Rattle.gob_plain.proofs.LineLaws.{line_read, line_text}
use Rattle.gob_plain.proofs.ListedLaws.{said_as_ever}
use Rattle.gob_plain.proofs.PlaceLaws.{of_two}
use Rattle.gob_plain.proofs.SaidLaws.{whole_says}
use Rattle.gob_plain.proofs.whole.told_text_of.Goals as goal

pub returns-in-Ok : goal.returns-in-Ok
returns-in-Ok g c =
    let T = g.S.Shapes.table c.args.shapes.now in
    let w = c.in-Ok.ensures.whole refl in
    let s = (c.in-Ok.ensures.sent w.value w.spelled w.within).answers.2 in
    of_two c.text_if_free.result c.text_if_free.ensures.free c.text_if_free.ensures.text
    (λ text free printed.
    let k = whole_says c.args.style T c.requires.taken c.args.id w.value s.tokens
    (subst (λ p. SaysEvents c.args.style T place.Free (value_told T c.args.id w.value) s.tokens p) free s.says) in
    let e = printed ∙ line_text (ap (λ t. t.items) c.new-out.ensures.text ∙ c.in_ok-with_capacity.ensures.items)
    c.new-out.ensures.later s.put ∙ ap print k.2 in (
      record { value = w.value; spelled = w.spelled; within = omega (arith, w.within, c.min.ensures) },
      k.0,
      said_as_ever all_null c.args.style T c.args.id w.value k.0
          (c.requires.listed w.value c.args.body.now w.spelled) k.1,
      e,
      line_read e k.2 s.put,
    ))
