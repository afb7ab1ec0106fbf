-- What is written of a part without parts, by its kind.
use Rattle.std.proofs.Common.{[], ◌∷◌, ap, ◌≡◌, ◌∙◌, ◌==◌, refl, rules, w64}
use Rattle.std.specs.Fmt.{signed_decimal}
use Rattle.std.proofs.lemmas.Int.{to_z-of_z}
use Rattle.json.specs.Token.{Token}
use Rattle.json.specs.Json as json
use Rattle.json.specs.Tree.{json_tokens}
use Rattle.serde_json.specs.Written.{outline}
use Rattle.gob_read.specs.Leaf.{signed_of}
use Rattle.gob_read.proofs.PublicLaws.{signed_is}
use Rattle.gob_json.specs.Json.{integer_json, natural_json}
use Rattle.gob_json_writer.proofs.TapeLaws.{integer_token}
use Rattle.gob_plain.proofs.SomeLaws.{one_written, some_of}
use Rattle.gob_plain.proofs.PartLaws.{leaf_plain, null_leaf}
use Rattle.gob_plain.proofs.leaf.write_leaf.Goals as goal

pub returns-in-Bool : goal.returns-in-Bool
returns-in-Bool c =
    leaf_plain c.args.first c.args.second c.args.bytes.now c.in-Bool.is (some_of (one_written c.boolean.ensures)
    (json.boolean (c.args.first == 1), refl, refl))

pub returns-in-Int : goal.returns-in-Int
returns-in-Int c =
    let is : c.to_signed.result ≡ signed_of c.args.first = signed_is c.args.first c.to_signed.result c.ranges.first.fits
    c.to_signed.ensures in
    leaf_plain c.args.first c.args.second c.args.bytes.now c.in-Int.is
    (some_of (one_written c.i64.ensures) (
      outline (integer_json (signed_of c.args.first)),
      refl,
      ap (λ i. Token.number (signed_decimal i) ∷ []) (to_z-of_z w64 c.to_signed.result (search rules))
          ∙ integer_token c.to_signed.result ∙ ap (λ i. json_tokens (outline (integer_json i))) is,
    ))

pub returns-in-Uint : goal.returns-in-Uint
returns-in-Uint c =
    leaf_plain c.args.first c.args.second c.args.bytes.now c.in-Uint.is
    (some_of (one_written c.u64.ensures) (outline (natural_json c.args.first), refl, refl))

pub returns-in-Bytes : goal.returns-in-Bytes
returns-in-Bytes c = leaf_plain c.args.first c.args.second c.args.bytes.now c.in-Bytes.is c.write_bytes.ensures

pub returns-in_default : goal.returns-in_default
returns-in_default c = some_of (one_written c.null.ensures) (
  json.null,
  null_leaf c.args.kind c.args.first c.args.second c.args.bytes.now c.in_default.not-Bool c.in_default.not-Int
      c.in_default.not-Uint c.in_default.not-Float c.in_default.not-Complex c.in_default.not-Bytes c.in_default.not-Str,
  refl,
)
