use Rattle.std.proofs.Common.{◌∙◌, sym, ap}
use Rattle.std.specs.HashMap.{get}
use Rattle.gob_left_out.specs.Machine.Tallying.{with_row}
use Rattle.gob_left_out.specs.Tally.{same_field}
use Rattle.gob_left_out.proofs.TallyLaws.{put_new, set_known}
use Rattle.gob_left_out.proofs.tally.add_row.Goals as goal

pub returns-in-Some-clause-row : goal.returns-in-Some-clause-row
returns-in-Some-clause-row c =
    (c.get_mut.follows.holds (record { path = c.in-Some.known.now.path; values = c.saturating_add-known.result })).0
    ∙ set_known c.args.rows.now.entries (c.args.field, c.args.path) c.in-Some.known.now c.saturating_add-known.result
    (sym c.in-Some.ensures.value) c.saturating_add-known.ensures

pub returns-clause-row : goal.returns-clause-row
returns-clause-row c =
    let none = c.in_default.ensures.value
    ∙ sym (ap (λ m. get same_field m c.args.field) c.get_mut.follows.holds-at-none) in
    c.in-Ok.ensures.entries
    ∙ put_new c.get_mut.follows.lender-at-none.entries (c.args.field, c.args.path) (sym none)
    ∙ ap (λ m. with_row m.entries (c.args.field, c.args.path)) c.get_mut.follows.holds-at-none
