-- Field by field more is written, and less is left.
use Rattle.std.proofs.Common.{◌∙◌, refl, ap}
use Rattle.json.specs.Tree.{json_tokens, items_tokens}
use Rattle.serde_json.specs.Data.{array}
use Rattle.serde_json.specs.Written.{outline, items_outline}
use Rattle.gob_json.specs.Json.{pair_json, text_json, id_json}
use Rattle.gob_json.specs.DefinitionJson.{field_types_json}
use Rattle.gob_json_writer.proofs.WrittenLaws.{one_written, both_written, same_written, none_written, left_more}
use Rattle.gob_json_writer.proofs.WrittenLaws.{left_none}
use Rattle.gob_json_writer.proofs.definition_json.write_field_types.Goals as goal

pub loop-field-preserved : goal.loop-field-preserved
loop-field-preserved c =
    let field = c.field-item.result in
    left_more (λ l. items_tokens (items_outline (field_types_json l)))
    {one = json_tokens (outline (pair_json (text_json field.name) (id_json field.id)))}
    {all = json_tokens (outline (array (field_types_json c.args.fields.now)))} refl c.field-item.is
    c.loop-field-test.true refl c.loop-field.invariant
    (both_written (one_written c.in_ok-begin_array-2.ensures)
    (both_written (same_written (ap text_json c.as_bytes.ensures) c.in_ok-write_text.ensures)
    (both_written (one_written c.in_ok-u64.ensures) (one_written c.in_ok-end_array.ensures))))

pub returns-in_err-begin_array : goal.returns-in_err-begin_array
returns-in_err-begin_array c = none_written c.from_residual.ensures.0 c.begin_array.ensures.room.0

pub returns-in_err-begin_array-2 : goal.returns-in_err-begin_array-2
returns-in_err-begin_array-2 c =
    none_written c.from_residual-in_err-begin_array-2.ensures.0
    (c.begin_array-in-loop-field.ensures.room.0 ∙ c.loop-field.invariant.before)

pub returns-in_err-write_text : goal.returns-in_err-write_text
returns-in_err-write_text c =
    none_written c.from_residual-in_err-write_text.ensures.0
    (c.write_text.ensures.before ∙ c.in_ok-begin_array-2.ensures.room.0 ∙ c.loop-field.invariant.before)

pub returns-in_err-u64 : goal.returns-in_err-u64
returns-in_err-u64 c =
    none_written c.from_residual-in_err-u64.ensures.0
    (c.u64.ensures.room.0 ∙ c.in_ok-write_text.ensures.before ∙ c.in_ok-begin_array-2.ensures.room.0
    ∙ c.loop-field.invariant.before)

pub returns-in_err-end_array : goal.returns-in_err-end_array
returns-in_err-end_array c =
    none_written c.from_residual-in_err-end_array.ensures.0
    (c.end_array.ensures.room.0 ∙ c.in_ok-u64.ensures.room.0 ∙ c.in_ok-write_text.ensures.before
    ∙ c.in_ok-begin_array-2.ensures.room.0 ∙ c.loop-field.invariant.before)

pub returns : goal.returns
returns c =
    left_none (λ l. items_tokens (items_outline (field_types_json l)))
    {all = json_tokens (outline (array (field_types_json c.args.fields.now)))} refl c.loop-field-test.false
    c.loop-field.invariant (one_written c.end_array-2.ensures)
