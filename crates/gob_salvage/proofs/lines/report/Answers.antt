-- The lines, one behind another.
use Rattle.std.proofs.Common.{◌≡◌, ◌-◌, ◌++◌, length, sym, ap, ◌∙◌, take}
use Rattle.std.specs.String.{string_bytes}
use Rattle.gob_salvage.proofs.ReportLaws.{report_as}
use Rattle.gob_salvage.proofs.lines.report.Goals as goal

pub returns : goal.returns
returns c =
    let gaps = c.args.kept.now.gaps in
    let told = take c.min.result c.deref.result.now in
    let more : string_bytes c.push_str-2.new.self ≡ string_bytes c.loop-gap.text ++ c.as_str-2.result.now =
    c.in_ok-push_str-2.ensures.bytes in
    let total : string_bytes c.push_str-3.new.self ≡ string_bytes c.push_str-2.new.self ++ c.as_str-3.result.now =
    c.in_ok-push_str-3.ensures.bytes in
    rw (
      total,
      more,
      c.as_str-2.ensures.value,
      c.as_str-3.ensures.value,
      c.in_ok-more_line.ensures,
      c.in_ok-total_line.ensures,
    )
    (report_as c.args.kept.now told (string_bytes c.loop-gap.text) c.len.result c.loop-gap.gap-index
    (c.len-2.result - length told) (c.len.ensures ∙ gaps.ok.0)
    (ap (λ l. take c.min.result l) c.deref.ensures.value ∙ ap (λ n. take n gaps.items) c.min.ensures)
    c.loop-gap.invariant c.loop-gap-test.false
    (ap (λ n. n - length told) (c.len-2.ensures ∙ sym c.len.ensures)))
