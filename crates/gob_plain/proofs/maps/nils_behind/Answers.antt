-- A key is one nil, and an element that is nil another.
use Rattle.std.proofs.Common.{◌≡◌, ◌∙◌, ◌+◌, sym, ap}
use Rattle.std.specs.Prelude.{if◌then◌else◌}
use Rattle.gob_plain.specs.Machine.Naming.{bare_nils, nil_kind}
use Rattle.gob_plain.proofs.MapLaws.{nil_by_kind}
use Rattle.gob_plain.proofs.maps.nils_behind.Goals as goal
use Rattle.gob_plain.proofs.maps.nils_behind.Goals.{then-is_nil, else-is_nil}

pub returns-in-Some : goal.returns-in-Some
returns-in-Some c = λ v s.
    let is = sym (nil_by_kind v) ∙ ap nil_kind (sym (c.kind.ensures s.0 v s.1)) ∙ sym c.is_nil.ensures in
    let own : c.if-is_nil.own ≡ bare_nils v = elim c.if-is_nil.branch [
      | then-is_nil w ↦ w.own-is ∙ ap (λ b. if b then 2 else 1) (sym (is ∙ w.if-is_nil.true))
      | else-is_nil w ↦ w.own-is ∙ ap (λ b. if b then 2 else 1) (sym (is ∙ w.if-is_nil.false))
    ] in
    c.in-Some.ensures.1 ∙ ap (λ n. c.args.ahead + n) own
