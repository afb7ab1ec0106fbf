use Rattle.std.proofs.Common.{◌+◌, ◌<◌, length, ap, arith, refl, subst, sym}
use Rattle.std.proofs.lemmas.Option.{slice_get_read}
use Rattle.gob_match.specs.declared.common.CommonField.{CommonField}
use Rattle.gob_match.specs.Machine.ReceivingWhole.{RiseFrom, Skips, here, past}
use Rattle.gob_match.proofs.Loops.{drop_at}
use Rattle.gob_match.proofs.receiving_whole.first_from.Goals as goal

pub fields-preserved : goal.fields-preserved
fields-preserved c =
    let common = c.args.common.now in
    let field = c.index-common-index.result in
    let there = slice_get_read common (length common) c.fields.index field refl c.fields-test.true
    c.index-common-index.is in
    let is = ap (λ (f : CommonField). f.stream) c.index-common-index.is in
    let below : field.stream < c.args.number = omega (arith, is, c.if-common-index.true) in
    let next = drop_at common c.fields.index field there in
    record {
      skips = λ ds s. c.fields.invariant.skips ds (subst (λ l. Skips c.args.number l ds) (sym next)
          (past {c = field} below s));
      rises = λ low r.
          let now = c.fields.invariant.rises low r in
          let rise = subst (RiseFrom now.0) next now.1 in
          (field.stream + 1, rise.1);
    }

pub returns-else-common-index-clause-skipped : goal.returns-else-common-index-clause-skipped
returns-else-common-index-clause-skipped c = c.fields.invariant.skips _ here

pub returns-after-fields-clause-skipped : goal.returns-after-fields-clause-skipped
returns-after-fields-clause-skipped c = c.fields.invariant.skips _ here
