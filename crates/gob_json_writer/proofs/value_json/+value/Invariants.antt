-- What is written, and what the rest would write, is what all would write.
use Rattle.std.proofs.Common.{drop}
use Rattle.json.specs.Tree.{json_tokens, items_tokens}
use Rattle.serde_json.specs.Data.{array}
use Rattle.serde_json.specs.Written.{outline, items_outline}
use Rattle.gob_value.specs.View.{views, pair_views, field_views}
use Rattle.gob_json.specs.Json.{elements_json, pairs_json, fields_json}
use Rattle.gob_json_writer.proofs.WrittenLaws.{IsLeft}
use Rattle.gob_json_writer.proofs.value_json.+value.Given as goal

abbrev pub invariant-write_elements-loop-element : goal.invariant-write_elements-loop-element
invariant-write_elements-loop-element g l =
    let json = elements_json (g.S.Shapes.table l.table) l.id in
    IsLeft l.fn.out l.out (items_tokens (items_outline (json (views (drop l.element-index l.elements.items)))))
    (json_tokens (outline (array (json (views l.elements.items)))))

abbrev pub invariant-write_pairs-loop-key : goal.invariant-write_pairs-loop-key
invariant-write_pairs-loop-key g l =
    let json = pairs_json (g.S.Shapes.table l.table) l.key_id l.id in
    IsLeft l.fn.out l.out (items_tokens (items_outline (json (pair_views (drop l.key-index l.pairs.items)))))
    (json_tokens (outline (array (json (pair_views l.pairs.items)))))

abbrev pub invariant-write_fields-loop-number : goal.invariant-write_fields-loop-number
invariant-write_fields-loop-number g l =
    let json = fields_json (g.S.Shapes.table l.table) l.types in
    IsLeft l.fn.out l.out (items_tokens (items_outline (json (field_views (drop l.number-index l.fields.items)))))
    (json_tokens (outline (array (json (field_views l.fields.items)))))
