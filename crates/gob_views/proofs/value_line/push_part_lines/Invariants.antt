-- The lines are those of the parts that were handed out.
use Rattle.std.proofs.Common.{◌≡◌, length}
use Rattle.std.specs.Prelude.{string_bytes}
use Rattle.json.specs.Json.{Json}
use Rattle.json.specs.Lex.{tokens}
use Rattle.json.specs.Tree.{json_tokens}
use Rattle.gob_types.specs.Defined.{types}
use Rattle.gob_views.specs.Values.{line_jsons}
use Rattle.gob_views.proofs.PlainLaws.{AreLeft}
use Rattle.gob_views.proofs.value_line.push_part_lines.Given as goal

abbrev pub invariant-parts : goal.invariant-parts
invariant-parts l = (j : Json) → tokens (string_bytes l.fn.json) ≡ json_tokens j
    → AreLeft l.fn.lines (types l.fn.table) l.fn.id l.parts.form l.parts.reader
    (line_jsons l.fn.lines (types l.fn.table) l.fn.id j) l.fn.text.items l.text.items

abbrev pub decreases-parts : goal.decreases-parts
decreases-parts l = length l.parts.reader
