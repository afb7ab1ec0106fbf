-- A delta behind those before it, and that there are more.
use Rattle.std.proofs.Common.{◌-◌, ◌++◌, ◌∙◌, arith, codes, refl, string_bytes}
use Rattle.gob_explain.proofs.NameLaws.{delta_more, deltas_begin, few_deltas}
use Rattle.gob_explain.proofs.text.expected.push_fields.Goals as goal

pub deltas-init : goal.deltas-init
deltas-init c =
    c.in_ok-push_str.ensures.bytes
    ∙ deltas_begin c.args.fields.now (c.count-count.result - c.min-left.result) (string_bytes c.args.out.now ++ codes
    "0, which ends the struct")

pub deltas-preserved : goal.deltas-preserved
deltas-preserved c =
    delta_more c.args.fields.now (c.count-count.result - c.min-left.result) c.deltas.index _ _
    (string_bytes c.args.out.now ++ codes "0, which ends the struct") (string_bytes c.deltas.out)
    (string_bytes c.push_delta.new.out) refl refl c.deltas.invariant c.in_ok-push_delta.ensures

pub returns-else-left-gt-NAMED : goal.returns-else-left-gt-NAMED
returns-else-left-gt-NAMED c =
    few_deltas c.args.fields.now c.count-count.result c.min-left.result (c.count-count.result - c.min-left.result)
    c.deltas.index c.args.most (string_bytes c.args.out.now) (string_bytes c.deltas.out) c.count-count.ensures
    c.min-left.ensures refl (omega (arith, c.min-index-end.ensures)) (omega arith) c.deltas.invariant
