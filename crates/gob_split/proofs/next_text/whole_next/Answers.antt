use Rattle.std.proofs.Common.{rules, ◌∙◌, ap, min, subst, ℕ}
use Rattle.gob_types.specs.Defined.{Defined, types}
use Rattle.gob_stream.specs.Bounds.{Bounds}
use Rattle.gob_go.specs.Calls.Reader.{session_of}
use Rattle.gob_go.specs.Calls.Session.{types_of}
use Rattle.gob_split.specs.Machine.Items.{IsWholeBody}
use Rattle.gob_split.proofs.next_text.whole_next.Goals as goal

pub returns-then-is_value : goal.returns-then-is_value
returns-then-is_value c =
    let item = c.in_ok-item.item in
    let known = subst (λ (d : Defined). IsWholeBody (types d) item.id c.min-depth.result item.body.now) c.table.ensures
    (c.is_value.ensures (search rules)) in
    record {
      between = c.in_ok-item.ensures.between;
      next = c.in_ok-item.ensures.body;
      is = subst (λ (n : ℕ). IsWholeBody (types_of (session_of c.args.reader.now)) item.id n item.body.now)
          (c.min-depth.ensures
          ∙ ap (λ n. min n 1000) (c.depth.ensures.depth ∙ ap (λ (L : Bounds). L.depth) c.limits.ensures)) known;
    }
