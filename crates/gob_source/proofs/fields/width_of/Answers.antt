-- Field by field the greatest is kept.
use Rattle.std.proofs.Common.{ℕ, ◌+◌, ◌∙◌, ◌≡◌, ap, drop, max, nat_cmp, rules, take}
use Rattle.std.specs.Ordering.{ord_max}
use Rattle.gob_source.specs.Source.{width}
use Rattle.gob_source.proofs.FieldNameLaws.{knows_next, width_more}
use Rattle.gob_source.proofs.fields.width_of.Goals as goal

greater : (a b : ℕ) → ord_max nat_cmp a b ≡ max a b
greater a b = search rules

pub loop-field-preserved : goal.loop-field-preserved
loop-field-preserved c =
    let i = c.loop-field.field-index in
    let fields = c.args.fields.now in
    let f = c.field-item.result in
    let told = c.in_ok-declared_width.ensures (take i fields) c.loop-field.invariant.known in
    let most = width_more fields i f c.loop-field.width c.in_ok-declared_width.field-0 c.field-item.is
    c.loop-field-test.true c.loop-field.invariant.most told.0 in
    record {
      most =
          ap (λ (m : ℕ). max m (width (take (i + 1) fields) (drop (i + 1) fields)))
          (c.max-width.ensures ∙ greater c.loop-field.width c.in_ok-declared_width.field-0) ∙ most;
      known = knows_next c.declared_width.new.seen fields i f c.field-item.is c.loop-field-test.true told.1;
    }
