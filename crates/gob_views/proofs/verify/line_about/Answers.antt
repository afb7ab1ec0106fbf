use Rattle.std.proofs.Common.{ap, string_bytes}
use Rattle.std.proofs.lemmas.Str.{IsUtf8-string_bytes}
use Rattle.gob_views.proofs.VerifyLaws.{line_told}
use Rattle.gob_views.proofs.verify.line_about.Goals as goal

pub returns : goal.returns
returns c =
    let shown = c.in_ok-escaped.field-0 in
    line_told c.args.name.now (string_bytes shown) c.args.said.now _ _ _ (IsUtf8-string_bytes shown)
    c.in_ok-escaped.ensures.characters (ap (λ v. v.items) c.into_bytes-line.ensures.value)
    c.in_ok-extend_from_slice.ensures.items
    c.in_ok-extend_from_slice-2.ensures.items
