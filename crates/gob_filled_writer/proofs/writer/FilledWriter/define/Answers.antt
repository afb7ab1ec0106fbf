use Rattle.std.proofs.Common.{[], ◌∷◌, ◌++◌, ◌∙◌, ap, arith, length, refl, subst}
use Rattle.std.proofs.lemmas.Int.{ints}
use Rattle.std.proofs.lemmas.Result.{err_from_is_err_and}
use Rattle.gob_types.specs.Base.{base_table}
use Rattle.gob_types.specs.Denial.{IsDenial}
use Rattle.gob_types.specs.Table as known
use Rattle.gob_value.specs.Described.{described}
use Rattle.gob_filled.specs.Stream.{defining}
use Rattle.gob_stream.specs.Bounds.{within_trees}
use Rattle.gob_stream.specs.Item.{defines}
use Rattle.gob_stream.specs.WriterRefusal.{RefusesItem}
use Rattle.gob_stream.proofs.DenialLaws.{denial_weaker}
use Rattle.gob_filled_writer.specs.Writing.{refused_definition}
use Rattle.gob_filled_writer.proofs.WriterLaws.{definition_item, definition_refused, denied, sent}
use Rattle.gob_filled_writer.proofs.writer.FilledWriter.define.Goals as goal

pub returns-in_err-description-clause-writes : goal.returns-in_err-description-clause-writes
returns-in_err-description-clause-writes g c = λ items bytes T h.
    let p = err_from_is_err_and c.from_residual.result c.from_residual.ensures.1 in
    let w = c.args.self.now in
    let why = c.in_err-description.field-0.0 in
    let denies = rw c.up_to-limits.ensures at c.in_err-description.ensures.err in
    let refused = subst (λ (K : known.Table). IsDenial (RefusesItem base_table (within_trees w.limits) K (length bytes)
    (defines c.args.id (described c.args.id c.args.shape))) why) h.table (denies h.room (length bytes)) in
    rw (p.1, p.2) (denied (within_trees w.limits) w items bytes T
    (defining c.args.id (described c.args.id c.args.shape)) _ why (denial_weaker why (λ r. refused_definition) refused))

pub returns-in_err-head-clause-writes : goal.returns-in_err-head-clause-writes
returns-in_err-head-clause-writes g c = λ items bytes T h.
    let p = err_from_is_err_and c.from_residual-in_err-head.result c.from_residual-in_err-head.ensures.1 in
    let w = c.args.self.now in
    let why = c.in_err-head.field-0.0 in
    let spelled = rw c.up_to-limits.ensures at c.in_ok-description.ensures.ok in
    let described_as = rw h.table at (spelled h.room) in
    let own = described_as.may.own in
    let refused = rw (c.deref.ensures.value, c.up_to-limits.ensures, h.offset) at c.in_err-head.ensures.err in
    rw (p.1, p.2) (denied (within_trees w.limits) w items bytes T
    (defining c.args.id (described c.args.id c.args.shape)) _ why (denial_weaker why
    (λ r f. refused_definition (definition_refused described_as (omega (arith, ints, own.0, own.1)) f)) refused))

pub returns-clause-writes : goal.returns-clause-writes
returns-clause-writes g c = λ items bytes T h.
    let w = c.args.self.now in
    let spelled = rw c.up_to-limits.ensures at c.in_ok-description.ensures.ok in
    let described_as = rw h.table at (spelled h.room) in
    let own = described_as.may.own in
    let head = rw (c.deref.ensures.value, c.up_to-limits.ensures, h.offset) at c.in_ok-head.ensures.ok in
    let added = c.in_ok-define_admitted.ensures in
    sent w (record w { types = c.define_admitted.new.table }) c.send.new.self _ items bytes T _
    (defining c.args.id (described c.args.id c.args.shape)) _ _ c.send.result h
    (record {
      limits = refl;
      most = added.1;
      table = added.0 ∙ ap (λ (K : known.Table). K ++ (c.args.id, c.args.shape) ∷ []) h.table;
      offset = refl;
    }) (definition_item described_as (omega (arith, ints, own.0, own.1)) head)
    (rw (c.deref-2.ensures.value, c.deref-3.ensures.value) at c.send.ensures.sends)
