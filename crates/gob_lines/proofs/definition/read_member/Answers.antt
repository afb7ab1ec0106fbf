use Rattle.std.proofs.Common.{[], ◌∙◌, refl, sym}
use Rattle.serde_json.specs.Data.{string}
use Rattle.gob_json.specs.Json.{no_type, text_json}
use Rattle.gob_lines.specs.Definition.{Part, kind_word, with_part}
use Rattle.gob_lines.proofs.DefinitionLaws.{adds_part, elem_it, fault_fills, fields_it, key_it, len_it, no_fields}
use Rattle.gob_lines.proofs.DefinitionLaws.{no_name, put_it, same_key}
use Rattle.gob_lines.proofs.PutLaws.{numbered}
use Rattle.gob_lines.proofs.definition.read_member.Goals as goal

pub returns-in_ok-read_uint-in-elem-clause-read : goal.returns-in_ok-read_uint-in-elem-clause-read
returns-in_ok-read_uint-in-elem-clause-read c =
    let part = Part.elem (numbered c.in_ok-read_uint-in-elem.field-0) in
    let said = c.in_ok-read_uint-in-elem.ensures.ok in
    adds_part part c.args.parts.now said.json c.in-elem.is
    (c.has.ensures.not_said c.if-has.false part (sym c.in-elem.is)) said.is said.reads

pub returns-in_ok-read_uint-in-elem-clause-whole : goal.returns-in_ok-read_uint-in-elem-clause-whole
returns-in_ok-read_uint-in-elem-clause-whole c = λ part rest readable key fresh said.
    put_it c.args.parts.now (elem_it (same_key (Part.elem no_type) part (sym (key ∙ c.in-elem.is)))
    c.in_ok-read_uint-in-elem.ensures.fits readable c.in_ok-read_uint-in-elem.ensures.ok said)

pub returns-in_ok-read_field_types-in-fields-clause-read : goal.returns-in_ok-read_field_types-in-fields-clause-read
returns-in_ok-read_field_types-in-fields-clause-read c =
    let part = Part.fields c.new.result in
    let said = c.in_ok-read_field_types-in-fields.ensures.read in
    adds_part part c.args.parts.now said.json c.in-fields.is
    (c.has.ensures.not_said c.if-has.false part (sym c.in-fields.is)) (rw c.new.ensures said.is) said.reads

pub returns-in_ok-read_field_types-in-fields-clause-whole : goal.returns-in_ok-read_field_types-in-fields-clause-whole
returns-in_ok-read_field_types-in-fields-clause-whole c = λ part rest readable key fresh said.
    rw c.new.ensures (put_it c.args.parts.now (fields_it (same_key (Part.fields []) part (sym (key ∙ c.in-fields.is)))
    readable c.in_ok-read_field_types-in-fields.ensures.whole said))

pub returns-in_err-read_field_types-in-fields-clause-whole :
    goal.returns-in_err-read_field_types-in-fields-clause-whole
returns-in_err-read_field_types-in-fields-clause-whole c = λ part rest readable key fresh said.
    fault_fills c.from_residual-in_err-read_field_types-in-fields.result
    c.in_err-read_field_types-in-fields.field-0.0 c.args.parts.now (with_part part c.args.parts.now)
    c.read_field_types.new.tokens rest c.from_residual-in_err-read_field_types-in-fields.ensures.1
    (no_fields (same_key (Part.fields []) part (sym (key ∙ c.in-fields.is))) readable
    c.in_err-read_field_types-in-fields.ensures.whole said)

pub returns-in_ok-read_uint-in-key-clause-read : goal.returns-in_ok-read_uint-in-key-clause-read
returns-in_ok-read_uint-in-key-clause-read c =
    let part = Part.key (numbered c.in_ok-read_uint-in-key.field-0) in
    let said = c.in_ok-read_uint-in-key.ensures.ok in
    adds_part part c.args.parts.now said.json c.in-key.is
    (c.has.ensures.not_said c.if-has.false part (sym c.in-key.is)) said.is said.reads

pub returns-in_ok-read_uint-in-key-clause-whole : goal.returns-in_ok-read_uint-in-key-clause-whole
returns-in_ok-read_uint-in-key-clause-whole c = λ part rest readable key fresh said.
    put_it c.args.parts.now (key_it (same_key (Part.key no_type) part (sym (key ∙ c.in-key.is)))
    c.in_ok-read_uint-in-key.ensures.fits readable c.in_ok-read_uint-in-key.ensures.ok said)

pub returns-in_ok-read_kind_name-in-kind-clause-read : goal.returns-in_ok-read_kind_name-in-kind-clause-read
returns-in_ok-read_kind_name-in-kind-clause-read c =
    let part = Part.kind_name c.in_ok-read_kind_name-in-kind.field-0 in
    adds_part part c.args.parts.now (string (kind_word c.in_ok-read_kind_name-in-kind.field-0)) c.in-kind.is
    (c.has.ensures.not_said c.if-has.false part (sym c.in-kind.is)) refl
    c.in_ok-read_kind_name-in-kind.ensures.read

pub returns-in_ok-read_uint-in-len-clause-read : goal.returns-in_ok-read_uint-in-len-clause-read
returns-in_ok-read_uint-in-len-clause-read c =
    let part = Part.len c.in_ok-read_uint-in-len.field-0 in
    let said = c.in_ok-read_uint-in-len.ensures.ok in
    adds_part part c.args.parts.now said.json c.in-len.is
    (c.has.ensures.not_said c.if-has.false part (sym c.in-len.is)) said.is said.reads

pub returns-in_ok-read_uint-in-len-clause-whole : goal.returns-in_ok-read_uint-in-len-clause-whole
returns-in_ok-read_uint-in-len-clause-whole c = λ part rest readable key fresh said.
    put_it c.args.parts.now (len_it (same_key (Part.len 0) part (sym (key ∙ c.in-len.is)))
    c.in_ok-read_uint-in-len.ensures.fits readable c.in_ok-read_uint-in-len.ensures.ok said)

pub returns-in_ok-read_text-in-name-clause-read : goal.returns-in_ok-read_text-in-name-clause-read
returns-in_ok-read_text-in-name-clause-read c =
    let part = Part.name c.new-in-name.result in
    adds_part part c.args.parts.now (text_json c.new-in-name.result) c.in-name.is
    (c.has.ensures.not_said c.if-has.false part (sym c.in-name.is)) refl
    (rw c.new-in-name.ensures c.in_ok-read_text-in-name.ensures.read)

pub returns-in_err-read_text-in-name-clause-whole : goal.returns-in_err-read_text-in-name-clause-whole
returns-in_err-read_text-in-name-clause-whole c = λ part rest readable key fresh said.
    fault_fills c.from_residual-in_err-read_text-in-name.result c.in_err-read_text-in-name.field-0.0 c.args.parts.now
    (with_part part c.args.parts.now) c.read_text.new.tokens rest c.from_residual-in_err-read_text-in-name.ensures.1
    (no_name (same_key (Part.name []) part (sym (key ∙ c.in-name.is))) readable
    c.in_err-read_text-in-name.ensures.whole said)
