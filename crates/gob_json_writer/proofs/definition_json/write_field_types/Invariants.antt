-- What is written, and what the rest would write, is what all would write.
use Rattle.std.proofs.Common.{drop}
use Rattle.json.specs.Tree.{json_tokens, items_tokens}
use Rattle.serde_json.specs.Data.{array}
use Rattle.serde_json.specs.Written.{outline, items_outline}
use Rattle.gob_json.specs.DefinitionJson.{field_types_json}
use Rattle.gob_json_writer.proofs.WrittenLaws.{IsLeft}
use Rattle.gob_json_writer.proofs.definition_json.write_field_types.Given as goal

abbrev pub invariant-loop-field : goal.invariant-loop-field
invariant-loop-field l =
    IsLeft l.fn.out l.out (items_tokens (items_outline (field_types_json (drop l.field-index l.fields))))
    (json_tokens (outline (array (field_types_json l.fields))))
