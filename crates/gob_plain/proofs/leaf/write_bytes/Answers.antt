-- The text is one string.
use Rattle.std.proofs.Common.{rules, ◌∷◌, [], ap, refl}
use Rattle.json.specs.Json as json
use Rattle.json.specs.Token.{Token}
use Rattle.base64.specs.Engines.{standard}
use Rattle.base64.specs.GeneralPurpose.{encode_of}
use Rattle.gob_plain.proofs.SomeLaws.{some_of, one_written}
use Rattle.gob_plain.proofs.leaf.write_bytes.Goals as goal

pub returns : goal.returns
returns c =
    some_of (one_written c.string.ensures)
    (json.string (encode_of standard c.args.bytes.now), refl, ap (λ t. Token.string t ∷ []) (search rules))
