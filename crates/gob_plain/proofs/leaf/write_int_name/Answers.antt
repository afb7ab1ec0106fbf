-- The signed number is the one that the unsigned one spells.
use Rattle.std.proofs.Common.{◌≡◌, [], ◌∷◌, subst, ◌∙◌, rules, w64}
use Rattle.std.specs.Fmt.{signed_decimal}
use Rattle.std.proofs.lemmas.Int.{to_z-of_z}
use Rattle.json.specs.Token.{Token}
use Rattle.gob_read.specs.Leaf.{signed_of}
use Rattle.gob_read.proofs.PublicLaws.{signed_is}
use Rattle.gob_json_writer.specs.WritesJson.{WritesTokens}
use Rattle.gob_plain.proofs.leaf.write_int_name.Goals as goal

pub returns : goal.returns
returns c =
    let is : c.to_signed.result ≡ signed_of c.args.number = signed_is c.args.number c.to_signed.result
    c.ranges.number.fits c.to_signed.ensures in
    subst (λ i. WritesTokens c.write_signed_name.result c.args.out.now c.write_signed_name.new.out
    (Token.key (signed_decimal i) ∷ [])) (to_z-of_z w64 c.to_signed.result (search rules) ∙ is)
    c.write_signed_name.ensures
