-- What is told of the value has the text of its JSON.
use Rattle.std.proofs.Common.{List, ℕ, subst}
use Rattle.gob_walk.proofs.PublicLaws.{answers_as}
use Rattle.gob_json.proofs.EventLaws.{value_text}
use Rattle.gob_json.proofs.text.exact.tell_value.Goals as goal

pub returns-clause-sent : goal.returns-clause-sent
returns-clause-sent g c = λ v p deep.
    answers_as
    (λ r q. (
      q.0,
      subst (λ (l : List ℕ). g.O.TextOut.puts c.args.out.now.out.now c.walk_whole.new.out.out.now l r)
          (value_text (g.S.Shapes.table c.args.shapes.now) c.args.id v) q.1,
    ))
    c.walk_whole.result (c.walk_whole.ensures.sent v p deep)
