-- Each kind writes its members in their order, and then the name.
use Rattle.std.proofs.Common.{◌≡◌, List, ℕ, Result, ap, sym, subst}
use Rattle.json.specs.Token as Token
use Rattle.json.specs.Tree.{members_tokens}
use Rattle.json.specs.Written.{Written}
use Rattle.serde_json.specs.Data.{array}
use Rattle.serde_json.specs.Written.{members_outline}
use Rattle.gob_types.specs.declared.kind.Kind.{Kind}
use Rattle.gob_json.specs.DefinitionJson.{field_types_json, shape_members}
use Rattle.gob_json_writer.specs.WritesJson.{WritesTokens}
use Rattle.gob_json_writer.proofs.WrittenLaws.{one_written, both_written, same_written}
use Rattle.gob_json_writer.proofs.definition_json.write_shape.Goals as goal
use Rattle.gob_json_writer.proofs.definition_json.write_shape.Goals.{
  in-Array+in_ok-write_id-in-Array+in_ok-write_kind-in-Array+in_ok-key-in-Array+in_ok-u64-in-Array,
}
use Rattle.gob_json_writer.proofs.definition_json.write_shape.Goals.{
  in-Slice+in_ok-write_id-in-Slice+in_ok-write_kind-in-Slice,
}
use Rattle.gob_json_writer.proofs.definition_json.write_shape.Goals.{
  in-Struct+in_ok-key-in-Struct+in_ok-write_field_types-in-Struct+in_ok-write_kind-in-Struct,
}
use Rattle.gob_json_writer.proofs.definition_json.write_shape.Goals.{
  in-Map+in_ok-write_id-in-Map+in_ok-write_id-in-Map-2+in_ok-write_kind-in-Map,
}
use Rattle.gob_json_writer.proofs.definition_json.write_shape.Goals.{in-Opaque+in_ok-write_kind-in-Opaque}

-- the members are those of the kind that this one is
shaped : {E : Type 0} {r : Result (Unit {0}) E} {old new : Written} {k l : Kind} (name : List ℕ) → k ≡ l
    → WritesTokens r old new (members_tokens (members_outline (shape_members l name)))
    → WritesTokens r old new (members_tokens (members_outline (shape_members k name)))
shaped {r = r} {old = old} {new = new} name is w =
    subst (λ k. WritesTokens r old new (members_tokens (members_outline (shape_members k name)))) (sym is) w

-- what was written from here on was written behind the others
behind : {E : Type 0} {r : Result (Unit {0}) E} {mid out new : Written} {ts : List Token.Token} → out ≡ mid
    → WritesTokens r out new ts → WritesTokens r mid new ts
behind {r = r} {new = new} {ts = ts} is w = subst (λ o. WritesTokens r o new ts) is w

pub returns : goal.returns
returns c = elim c.match-kind.branch [
  | in-Array+in_ok-write_id-in-Array+in_ok-write_kind-in-Array+in_ok-key-in-Array+in_ok-u64-in-Array w ↦
      shaped c.args.name.now w.in-Array.is (both_written w.in_ok-write_id-in-Array.ensures
      (both_written w.in_ok-write_kind-in-Array.ensures (both_written (one_written w.in_ok-key-in-Array.ensures)
      (both_written (one_written w.in_ok-u64-in-Array.ensures) (behind w.out-is c.write_name.ensures)))))
  | in-Slice+in_ok-write_id-in-Slice+in_ok-write_kind-in-Slice w ↦
      shaped c.args.name.now w.in-Slice.is (both_written w.in_ok-write_id-in-Slice.ensures
      (both_written w.in_ok-write_kind-in-Slice.ensures (behind w.out-is c.write_name.ensures)))
  | in-Struct+in_ok-key-in-Struct+in_ok-write_field_types-in-Struct+in_ok-write_kind-in-Struct w ↦
      shaped c.args.name.now w.in-Struct.is (both_written (one_written w.in_ok-key-in-Struct.ensures)
      (both_written (same_written (ap (λ l. array (field_types_json l)) w.as_slice.ensures)
      w.in_ok-write_field_types-in-Struct.ensures)
      (both_written w.in_ok-write_kind-in-Struct.ensures (behind w.out-is c.write_name.ensures))))
  | in-Map+in_ok-write_id-in-Map+in_ok-write_id-in-Map-2+in_ok-write_kind-in-Map w ↦
      shaped c.args.name.now w.in-Map.is (both_written w.in_ok-write_id-in-Map.ensures
      (both_written w.in_ok-write_id-in-Map-2.ensures (both_written w.in_ok-write_kind-in-Map.ensures
      (behind w.out-is c.write_name.ensures))))
  | in-Opaque+in_ok-write_kind-in-Opaque w ↦
      let marshal = rw w.marshal_name.ensures at w.in_ok-write_kind-in-Opaque.ensures in
      shaped c.args.name.now w.in-Opaque.is (both_written marshal (behind w.out-is c.write_name.ensures))
]
