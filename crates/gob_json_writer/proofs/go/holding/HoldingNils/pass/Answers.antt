use Rattle.std.proofs.Common.{None, Some, subst, sym}
use Rattle.std.specs.Option.{option_copied}
use Rattle.serde_json.specs.Data.{Data}
use Rattle.gob_types.specs.Table.{Table}
use Rattle.gob_json_writer.specs.Nils.{HeldShows, holds_none}
use Rattle.gob_go.specs.declared.filled.Filling.{Filling}
use Rattle.gob_json_writer.specs.Machine.Holding.{Fills, fills_none, fills_some, FillingShows, Holds}
use Rattle.gob_json_writer.proofs.go.holding.HoldingNils.pass.Goals as goal

nothing_held : {T : Table} {json : Data} → Fills T None json → HeldShows Holds T None json
nothing_held fills_none = holds_none

some_fills : {T : Table} {kept : Filling} {json : Data} → Fills T (Some kept) json → FillingShows T kept json
some_fills (fills_some f) = f

pub returns-in_default-clause-shown : goal.returns-in_default-clause-shown
returns-in_default-clause-shown c = λ T N n h.
    let passed = c.pass.ensures T N n h.due in (
      nothing_held (subst (λ r. Fills T (option_copied r) (N n)) c.in_default.is passed.fills),
      record { table = h.table; due = passed.due_then },
    )

pub returns-in-Ok-clause-shown : goal.returns-in-Ok-clause-shown
returns-in-Ok-clause-shown c = λ T N n h.
    let passed = c.in-Some.ensures T N n h.due in
    let fills = some_fills passed.fills in
    let held = c.in-Ok.ensures.held.each (N n)
    (subst (λ T. FillingShows T c.in-Some.filling.now (N n)) (sym h.table) fills)
    in (
      subst (λ T. HeldShows Holds T (Some c.in-Ok.held) (N n)) h.table held,
      record { table = h.table; due = passed.due_then },
    )
