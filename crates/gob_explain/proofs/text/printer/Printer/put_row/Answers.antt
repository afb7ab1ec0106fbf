-- Each row goes on in the line under way, or begins a line of its own.
use Rattle.gob_types.specs.Defined.{types}
use Rattle.gob_explain.proofs.LineLaws.{alone_segment, alone_tag, alone_type_number, behind_imaginary, behind_raw}
use Rattle.gob_explain.proofs.LineLaws.{ends_imaginary, ends_raw, ends_segment, ends_tag, ends_type_number}
use Rattle.gob_explain.proofs.text.printer.Printer.put_row.Goals as goal

pub returns-in-Tag-clause-told : goal.returns-in-Tag-clause-told
returns-in-Tag-clause-told g c =
    let row = c.args.row.now in
    c.put_alone.ensures.told (alone_tag row.what c.in-Tag.is)
    (ends_tag (types c.args.self.now.table.now) row c.in-Tag.is)

pub returns-in-Delta-clause-told : goal.returns-in-Delta-clause-told
returns-in-Delta-clause-told g c = c.put_delta.ensures.told c.in-Delta.is

pub returns-in-TypeNumber-clause-told : goal.returns-in-TypeNumber-clause-told
returns-in-TypeNumber-clause-told g c =
    let row = c.args.row.now in
    c.put_alone-in-TypeNumber.ensures.told (alone_type_number row.what c.in-TypeNumber.is)
    (ends_type_number (types c.args.self.now.table.now) row c.in-TypeNumber.is)

pub returns-in-Segment-clause-told : goal.returns-in-Segment-clause-told
returns-in-Segment-clause-told g c =
    let row = c.args.row.now in
    c.put_alone-in-Segment.ensures.told (alone_segment row.what c.in-Segment.is)
    (ends_segment (types c.args.self.now.table.now) row c.in-Segment.is)

pub returns-in-First-clause-told : goal.returns-in-First-clause-told
returns-in-First-clause-told g c = c.put_first.ensures.told c.in-First.is

pub returns-in-Imaginary-clause-told : goal.returns-in-Imaginary-clause-told
returns-in-Imaginary-clause-told g c =
    let row = c.args.row.now in
    c.put_last.ensures.told (behind_imaginary row.what c.in-Imaginary.is)
    (ends_imaginary (types c.args.self.now.table.now) row c.in-Imaginary.is)

pub returns-in-Raw-clause-told : goal.returns-in-Raw-clause-told
returns-in-Raw-clause-told g c =
    let row = c.args.row.now in
    c.put_last-in-Raw.ensures.told (behind_raw row.what c.in-Raw.is)
    (ends_raw (types c.args.self.now.table.now) row c.in-Raw.is)
