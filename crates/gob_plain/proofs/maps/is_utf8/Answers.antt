-- A text is read, or isn't.
use Rattle.std.proofs.Common.{◌∙◌, [], ap, sym}
use Rattle.std.proofs.lemmas.Str.{is_utf8-from_IsUtf8, IsUtf8-nil}
use Rattle.std.specs.Str.{is_utf8}
use Rattle.gob_plain.proofs.MapLaws.{text_by_kind, no_text_by_kind}
use Rattle.gob_plain.proofs.NameLaws.{utf8_read}
use Rattle.gob_plain.proofs.maps.is_utf8.Goals as goal

pub returns-in-Str : goal.returns-in-Str
returns-in-Str c x s =
    c.is_ok.ensures.value ∙ utf8_read c.from_utf8.result c.bytes.result.now _ _ c.from_utf8.ensures.cases
    ∙ ap is_utf8 (c.bytes.ensures s.0 x s.1 ∙ text_by_kind x (sym c.in-Str.is ∙ c.kind.ensures s.0 x s.1))

pub returns-in_default : goal.returns-in_default
returns-in_default c x s =
    sym (is_utf8-from_IsUtf8 [] IsUtf8-nil)
    ∙ ap is_utf8 (sym (no_text_by_kind x (λ e. c.in_default.not-Str (c.kind.ensures s.0 x s.1 ∙ e))))
