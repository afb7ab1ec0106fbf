use Rattle.std.proofs.Common.{◌∙◌, ap, refl}
use Rattle.gob_types.specs.Defined.{types}
use Rattle.gob_value.specs.Described.{described}
use Rattle.gob_filled.specs.Stream.{defining, putting}
use Rattle.gob_write.specs.Shown.{says_definition, says_filled}
use Rattle.gob_write.proofs.ShownSaidLaws.{item_said, spelled_within, unready_said}
use Rattle.gob_write.proofs.shown.ShownWriter.write_said.Goals as goal

pub define-requires : goal.define-requires
define-requires g c = rw c.in-Define.is at c.requires

pub returns-in-Define-clause-says : goal.returns-in-Define-clause-says
returns-in-Define-clause-says g c = λ H L line items bytes T h tells.
    let told = rw c.in-Define.is at tells in
    let id = c.in-Define.id in
    let s = c.in-Define.shape in
    item_said H L c.args.self.now _ (defining id (described id s)) line items bytes T _ _ c.define.result h
    (says_definition s told.0 told.1) refl (c.define.ensures.writes items bytes T h.written)

pub returns-in-Put-clause-says : goal.returns-in-Put-clause-says
returns-in-Put-clause-says g c = λ H L line items bytes T h tells.
    let told = rw c.in-Put.is at tells in
    let says = says_filled told.0 told.1 in
    item_said H L c.args.self.now _ (putting c.in-Put.id told.1.value) line items bytes T _ _ c.put.result h says refl
    (c.put.ensures.writes items bytes T told.1.value h.written
    (rw c.deref.ensures.value (spelled_within c.args.self.now h told.1)))

pub returns-in-Err-clause-says : goal.returns-in-Err-clause-says
returns-in-Err-clause-says g c = λ H L line items bytes T h tells.
    let told = rw c.in-Unready.is at tells in
    let judged = rw (ap types c.table.ensures ∙ h.written.table) at c.in-Err.ensures.judged in
    rw c.into.ensures
    (unready_said H L c.args.self.now c.in-Err.denial c.in-Unready.id line items bytes T _ told judged)

pub returns-in-Ok-clause-says : goal.returns-in-Ok-clause-says
returns-in-Ok-clause-says g c = λ H L line items bytes T h tells.
    let told = rw c.in-Unready.is at tells in
    let judged = rw (ap types c.table.ensures ∙ h.written.table) at c.in-Ok.ensures.judged in
    told.unready judged.ready
