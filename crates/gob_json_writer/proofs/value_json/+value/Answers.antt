-- Item by item more is written, and less is left.
use Rattle.std.proofs.Common.{ℕ, Bool, ◌≡◌, ◌∙◌, [], ◌∷◌, ap, sym, subst, refl, arith, rules, Result, w64}
use Rattle.std.specs.Fmt.{signed_decimal}
use Rattle.std.proofs.lemmas.Int.{to_z-of_z}
use Rattle.json.specs.Token.{Token}
use Rattle.json.specs.Tree.{json_tokens, items_tokens}
use Rattle.json.specs.Written.{Written}
use Rattle.serde_json.specs.Data.{array}
use Rattle.serde_json.specs.Written.{outline, items_outline}
use Rattle.gob_types.specs.declared.id.TypeId.{TypeId}
use Rattle.gob_types.specs.Table.{Table}
use Rattle.gob_value.specs.Tree.{Tree}
use Rattle.gob_value.specs.declared.value.Value.{Bool as BoolV, Uint, Float, Complex, Nil, the_lemmas}
use Rattle.gob_value.specs.View.{view, views, pair_views, field_views}
use Rattle.gob_value.proofs.PublicLaws.{view-Int, view-Bytes, view-Str, view-Many, view-Pairs, view-Fields, view-Opaque}
use Rattle.gob_json.specs.Json.{value_json, elements_json, pairs_json, fields_json, pair_json, text_json, hex_json}
use Rattle.gob_json.specs.Json.{opaque_json}
use Rattle.gob_json_writer.specs.WritesJson.{WritesTokens, WritesJson}
use Rattle.gob_json_writer.proofs.TapeLaws.{integer_token, field_json}
use Rattle.gob_json_writer.proofs.WrittenLaws.{one_written, both_written, same_written, none_written, left_more}
use Rattle.gob_json_writer.proofs.WrittenLaws.{left_begun, left_none}
use Rattle.gob_json_writer.proofs.value_json.+value.Goals as goal

-- the JSON of a value is that of its tree
json_of : {E : Type 0} {r : Result (Unit {0}) E} {old new : Written} (T : Table) (id : TypeId) {v w : Tree} → v ≡ w
    → WritesJson r old new (value_json T id w) → WritesJson r old new (value_json T id v)
json_of T id is w = same_written (ap (value_json T id) (sym is)) w

-- the trees of values without parts
of_bool : (b : Bool) → view (BoolV b) ≡ Tree.bool b
of_bool b = search (rules, the_lemmas)

of_uint : (n : ℕ) → view (Uint n) ≡ Tree.uint n
of_uint n = search (rules, the_lemmas)

of_float : (p : ℕ) → view (Float p) ≡ Tree.float p
of_float p = search (rules, the_lemmas)

of_complex : (p q : ℕ) → view (Complex p q) ≡ Tree.complex p q
of_complex p q = search (rules, the_lemmas)

of_nil : view Nil ≡ Tree.nil
of_nil = search (rules, the_lemmas)

pub write_elements-loop-element-preserved : goal.write_elements-loop-element-preserved
write_elements-loop-element-preserved g t c =
    let T = g.S.Shapes.table c.args.table.now in
    let json = elements_json T c.args.id in
    let one = value_json T c.args.id (view c.element-item.result) in
    left_more (λ l. items_tokens (items_outline (json (views l)))) {one = json_tokens (outline one)}
    {all = json_tokens (outline (array (json (views c.args.elements.now.items))))} c.deref-element-items.ensures.value
    c.element-item.is (omega arith) refl c.loop-element.invariant c.in_ok-write_value.ensures

pub write_fields-loop-number-preserved : goal.write_fields-loop-number-preserved
write_fields-loop-number-preserved g t c =
    let T = g.S.Shapes.table c.args.table.now in
    let types = c.args.types.now in
    let json = fields_json T types in
    let value = view c.loop-number-item.result.1 in
    let one = field_json T types c.loop-number-item.result.0 value in
    left_more (λ l. items_tokens (items_outline (json (field_views l)))) {one = json_tokens (outline one)}
    {all = json_tokens (outline (array (json (field_views c.args.fields.now.items))))}
    c.deref-number-items.ensures.value c.loop-number-item.is (omega arith) refl c.loop-number.invariant
    (both_written (one_written c.in_ok-begin_array-2.ensures) (both_written (one_written c.in_ok-u64.ensures)
    (both_written (same_written (ap text_json c.name_at.ensures) c.in_ok-write_text.ensures)
    (both_written (same_written (ap (λ e. value_json T e value) c.type_at.ensures) c.in_ok-write_value.ensures)
    (one_written c.in_ok-end_array.ensures)))))

pub write_pairs-loop-key-preserved : goal.write_pairs-loop-key-preserved
write_pairs-loop-key-preserved g t c =
    let T = g.S.Shapes.table c.args.table.now in
    let pair = c.loop-key-item.result in
    let json = pairs_json T c.args.key_id c.args.id in
    let one = pair_json (value_json T c.args.key_id (view pair.0)) (value_json T c.args.id (view pair.1)) in
    left_more (λ l. items_tokens (items_outline (json (pair_views l)))) {one = json_tokens (outline one)}
    {all = json_tokens (outline (array (json (pair_views c.args.pairs.now.items))))} c.deref-key-items.ensures.value
    c.loop-key-item.is (omega arith) refl c.loop-key.invariant
    (both_written (one_written c.in_ok-begin_array-2.ensures) (both_written c.in_ok-write_value.ensures
    (both_written c.in_ok-write_value-2.ensures (one_written c.in_ok-end_array.ensures))))

pub write_elements-returns-in_err-begin_array : goal.write_elements-returns-in_err-begin_array
write_elements-returns-in_err-begin_array g t c = none_written c.from_residual.ensures.0 c.begin_array.ensures.room.0

pub write_elements-returns-in_err-write_value : goal.write_elements-returns-in_err-write_value
write_elements-returns-in_err-write_value g t c =
    none_written c.from_residual-in_err-write_value.ensures.0
    (c.write_value.ensures.before ∙ c.loop-element.invariant.before)

pub write_elements-returns : goal.write_elements-returns
write_elements-returns g t c =
    let json = elements_json (g.S.Shapes.table c.args.table.now) c.args.id in
    let all = json_tokens (outline (array (json (views c.args.elements.now.items)))) in
    left_none (λ l. items_tokens (items_outline (json (views l))))
    {all = all} c.deref-element-items.ensures.value
    c.loop-element-test.false c.loop-element.invariant (one_written c.end_array.ensures)

pub write_fields-returns-in_err-begin_array : goal.write_fields-returns-in_err-begin_array
write_fields-returns-in_err-begin_array g t c = none_written c.from_residual.ensures.0 c.begin_array.ensures.room.0

pub write_fields-returns-in_err-begin_array-2 : goal.write_fields-returns-in_err-begin_array-2
write_fields-returns-in_err-begin_array-2 g t c =
    none_written c.from_residual-in_err-begin_array-2.ensures.0
    (c.begin_array-in-loop-number.ensures.room.0 ∙ c.loop-number.invariant.before)

pub write_fields-returns-in_err-u64 : goal.write_fields-returns-in_err-u64
write_fields-returns-in_err-u64 g t c =
    none_written c.from_residual-in_err-u64.ensures.0
    (c.u64.ensures.room.0 ∙ c.in_ok-begin_array-2.ensures.room.0 ∙ c.loop-number.invariant.before)

pub write_fields-returns-in_err-write_text : goal.write_fields-returns-in_err-write_text
write_fields-returns-in_err-write_text g t c =
    none_written c.from_residual-in_err-write_text.ensures.0
    (c.write_text.ensures.before ∙ c.in_ok-u64.ensures.room.0 ∙ c.in_ok-begin_array-2.ensures.room.0
    ∙ c.loop-number.invariant.before)

pub write_fields-returns-in_err-write_value : goal.write_fields-returns-in_err-write_value
write_fields-returns-in_err-write_value g t c =
    none_written c.from_residual-in_err-write_value.ensures.0
    (c.write_value.ensures.before ∙ c.in_ok-write_text.ensures.before ∙ c.in_ok-u64.ensures.room.0
    ∙ c.in_ok-begin_array-2.ensures.room.0 ∙ c.loop-number.invariant.before)

pub write_fields-returns-in_err-end_array : goal.write_fields-returns-in_err-end_array
write_fields-returns-in_err-end_array g t c =
    none_written c.from_residual-in_err-end_array.ensures.0
    (c.end_array.ensures.room.0 ∙ c.in_ok-write_value.ensures.before ∙ c.in_ok-write_text.ensures.before
    ∙ c.in_ok-u64.ensures.room.0 ∙ c.in_ok-begin_array-2.ensures.room.0 ∙ c.loop-number.invariant.before)

pub write_fields-returns : goal.write_fields-returns
write_fields-returns g t c =
    let json = fields_json (g.S.Shapes.table c.args.table.now) c.args.types.now in
    let all = json_tokens (outline (array (json (field_views c.args.fields.now.items)))) in
    left_none (λ l. items_tokens (items_outline (json (field_views l))))
    {all = all} c.deref-number-items.ensures.value
    c.loop-number-test.false c.loop-number.invariant (one_written c.end_array-2.ensures)

pub write_pairs-returns-in_err-begin_array : goal.write_pairs-returns-in_err-begin_array
write_pairs-returns-in_err-begin_array g t c = none_written c.from_residual.ensures.0 c.begin_array.ensures.room.0

pub write_pairs-returns-in_err-begin_array-2 : goal.write_pairs-returns-in_err-begin_array-2
write_pairs-returns-in_err-begin_array-2 g t c =
    none_written c.from_residual-in_err-begin_array-2.ensures.0
    (c.begin_array-in-loop-key.ensures.room.0 ∙ c.loop-key.invariant.before)

pub write_pairs-returns-in_err-write_value : goal.write_pairs-returns-in_err-write_value
write_pairs-returns-in_err-write_value g t c =
    none_written c.from_residual-in_err-write_value.ensures.0
    (c.write_value.ensures.before ∙ c.in_ok-begin_array-2.ensures.room.0 ∙ c.loop-key.invariant.before)

pub write_pairs-returns-in_err-write_value-2 : goal.write_pairs-returns-in_err-write_value-2
write_pairs-returns-in_err-write_value-2 g t c =
    none_written c.from_residual-in_err-write_value-2.ensures.0
    (c.write_value-in-loop-key.ensures.before ∙ c.in_ok-write_value.ensures.before
    ∙ c.in_ok-begin_array-2.ensures.room.0 ∙ c.loop-key.invariant.before)

pub write_pairs-returns-in_err-end_array : goal.write_pairs-returns-in_err-end_array
write_pairs-returns-in_err-end_array g t c =
    none_written c.from_residual-in_err-end_array.ensures.0
    (c.end_array.ensures.room.0 ∙ c.in_ok-write_value-2.ensures.before ∙ c.in_ok-write_value.ensures.before
    ∙ c.in_ok-begin_array-2.ensures.room.0 ∙ c.loop-key.invariant.before)

pub write_pairs-returns : goal.write_pairs-returns
write_pairs-returns g t c =
    let json = pairs_json (g.S.Shapes.table c.args.table.now) c.args.key_id c.args.id in
    let all = json_tokens (outline (array (json (pair_views c.args.pairs.now.items)))) in
    left_none (λ l. items_tokens (items_outline (json (pair_views l))))
    {all = all} c.deref-key-items.ensures.value
    c.loop-key-test.false c.loop-key.invariant (one_written c.end_array-2.ensures)

pub write_value-returns-in-Int : goal.write_value-returns-in-Int
write_value-returns-in-Int g t c =
    json_of (g.S.Shapes.table c.args.table.now) c.args.id (ap view c.in-Int.is ∙ view-Int c.in-Int.number)
    (subst (WritesTokens c.i64.result c.args.out.now c.i64.new.self)
    (ap (λ i. Token.number (signed_decimal i) ∷ []) (to_z-of_z w64 c.in-Int.number (search rules))
    ∙ integer_token c.in-Int.number) (one_written c.i64.ensures))

pub write_value-returns-in-Bytes : goal.write_value-returns-in-Bytes
write_value-returns-in-Bytes g t c =
    json_of (g.S.Shapes.table c.args.table.now) c.args.id (ap view c.in-Bytes.is ∙ view-Bytes c.in-Bytes.bytes)
    (same_written (ap hex_json c.deref.ensures.value) c.write_hex.ensures)

pub write_value-returns-in-Str : goal.write_value-returns-in-Str
write_value-returns-in-Str g t c =
    json_of (g.S.Shapes.table c.args.table.now) c.args.id (ap view c.in-Str.is ∙ view-Str c.in-Str.text)
    (same_written (ap text_json c.deref-in-Str.ensures.value) c.write_text.ensures)

pub write_value-returns-in-Many : goal.write_value-returns-in-Many
write_value-returns-in-Many g t c =
    json_of (g.S.Shapes.table c.args.table.now) c.args.id (ap view c.in-Many.is ∙ view-Many c.in-Many.elements)
    (rw c.element_of.ensures at c.write_elements.ensures)

pub write_value-returns-in-Pairs : goal.write_value-returns-in-Pairs
write_value-returns-in-Pairs g t c =
    json_of (g.S.Shapes.table c.args.table.now) c.args.id (ap view c.in-Pairs.is ∙ view-Pairs c.in-Pairs.pairs)
    (rw (c.key_of.ensures, c.element_of-in-Pairs.ensures) at c.write_pairs.ensures)

pub write_value-returns-in-Fields : goal.write_value-returns-in-Fields
write_value-returns-in-Fields g t c =
    json_of (g.S.Shapes.table c.args.table.now) c.args.id (ap view c.in-Fields.is ∙ view-Fields c.in-Fields.fields)
    (rw c.fields_of.ensures at c.write_fields.ensures)

pub write_value-returns-in-Opaque : goal.write_value-returns-in-Opaque
write_value-returns-in-Opaque g t c =
    json_of (g.S.Shapes.table c.args.table.now) c.args.id (ap view c.in-Opaque.is ∙ view-Opaque c.in-Opaque.bytes)
    (same_written (ap opaque_json c.deref-in-Opaque.ensures.value) c.write_opaque.ensures)

pub write_elements-loop-element-init : goal.write_elements-loop-element-init
write_elements-loop-element-init g t c = left_begun _ (one_written c.in_ok-begin_array.ensures)

pub write_fields-loop-number-init : goal.write_fields-loop-number-init
write_fields-loop-number-init g t c = left_begun _ (one_written c.in_ok-begin_array.ensures)

pub write_pairs-loop-key-init : goal.write_pairs-loop-key-init
write_pairs-loop-key-init g t c = left_begun _ (one_written c.in_ok-begin_array.ensures)

pub write_value-returns-in-Bool : goal.write_value-returns-in-Bool
write_value-returns-in-Bool g t c =
    json_of (g.S.Shapes.table c.args.table.now) c.args.id (ap view c.in-Bool.is ∙ of_bool c.in-Bool.truth)
    (one_written c.boolean.ensures)

pub write_value-returns-in-Uint : goal.write_value-returns-in-Uint
write_value-returns-in-Uint g t c =
    json_of (g.S.Shapes.table c.args.table.now) c.args.id (ap view c.in-Uint.is ∙ of_uint c.in-Uint.number)
    (one_written c.u64.ensures)

pub write_value-returns-in-Float : goal.write_value-returns-in-Float
write_value-returns-in-Float g t c =
    json_of (g.S.Shapes.table c.args.table.now) c.args.id (ap view c.in-Float.is ∙ of_float c.in-Float.pattern)
    c.write_pattern.ensures

pub write_value-returns-in-Complex : goal.write_value-returns-in-Complex
write_value-returns-in-Complex g t c =
    json_of (g.S.Shapes.table c.args.table.now) c.args.id
    (ap view c.in-Complex.is ∙ of_complex c.in-Complex.real c.in-Complex.imaginary)
    c.write_complex.ensures

pub write_value-returns-in-Nil : goal.write_value-returns-in-Nil
write_value-returns-in-Nil g t c =
    json_of (g.S.Shapes.table c.args.table.now) c.args.id (ap view c.in-Nil.is ∙ of_nil)
    (one_written c.null.ensures)
