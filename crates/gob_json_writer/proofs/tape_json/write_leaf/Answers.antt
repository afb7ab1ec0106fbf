use Rattle.std.proofs.Common.{[], ◌∷◌, ap, ◌≡◌, ◌∙◌, sym, subst, rules, w64}
use Rattle.std.specs.Fmt.{signed_decimal}
use Rattle.std.proofs.lemmas.Int.{to_z-of_z}
use Rattle.json.specs.Token.{Token}
use Rattle.json.specs.Tree.{json_tokens}
use Rattle.serde_json.specs.Written.{outline}
use Rattle.gob_read.specs.Leaf.{signed_of}
use Rattle.gob_read.proofs.PublicLaws.{signed_is}
use Rattle.gob_json.specs.Json.{integer_json}
use Rattle.gob_json_writer.specs.TapeJson.{leaf_json}
use Rattle.gob_json_writer.specs.WritesJson.{WritesTokens}
use Rattle.gob_json_writer.proofs.TapeLaws.{integer_token}
use Rattle.gob_json_writer.proofs.WrittenLaws.{one_written}
use Rattle.gob_json_writer.proofs.tape_json.write_leaf.Goals as goal

pub returns-in-Int : goal.returns-in-Int
returns-in-Int c =
    let is : c.to_signed.result ≡ signed_of c.args.first = signed_is c.args.first c.to_signed.result c.ranges.first.fits
    c.to_signed.ensures in
    subst (WritesTokens c.i64.result c.args.out.now c.i64.new.self)
    (ap (λ i. Token.number (signed_decimal i) ∷ []) (to_z-of_z w64 c.to_signed.result (search rules))
    ∙ integer_token c.to_signed.result ∙ ap (λ i. json_tokens (outline (integer_json i))) is
    ∙ ap (λ k. json_tokens (outline (leaf_json k c.args.first c.args.second c.args.bytes.now))) (sym c.in-Int.is))
    (one_written c.i64.ensures)
