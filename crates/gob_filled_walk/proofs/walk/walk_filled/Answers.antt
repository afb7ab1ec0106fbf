-- The value ends with the body.
use Rattle.std.proofs.Common.{◌≡◌, [], List, ℕ, ap, drop, length, rules, subst, ◌∙◌}
use Rattle.std.proofs.Math.Seq.{drop-length}
use Rattle.gob_types.specs.Defined.{types}
use Rattle.gob_filled_walk.specs.Reads.{ReadsTop}
use Rattle.gob_filled_walk.proofs.walk.walk_filled.Goals as goal

pub returns : goal.returns
returns g c =
    let body = c.args.body.now in
    let h = c.in_ok-end.ensures in
    let last : c.in_ok-end.end ≡ length body = search rules in
    let none : drop c.in_ok-end.end body ≡ [] = ap (λ n. drop n body) last ∙ drop-length body in (
      h.events,
      subst (λ r. ReadsTop (types c.args.table.now) c.args.id c.args.depth h.events body r) none h.reads,
      h.heard,
    )
