-- The signed number is the one that the unsigned one spells.
use Rattle.std.proofs.Common.{◌≡◌, ◌∙◌, ap, rules, w64}
use Rattle.std.specs.Fmt.{signed_decimal}
use Rattle.std.proofs.lemmas.Int.{to_z-of_z}
use Rattle.std.proofs.lemmas.Result.{IfOk-weaker}
use Rattle.gob_read.specs.Leaf.{signed_of}
use Rattle.gob_read.proofs.PublicLaws.{signed_is}
use Rattle.gob_plain.proofs.leaf.int_name.Goals as goal

pub returns : goal.returns
returns c =
    let is : c.to_signed.result ≡ signed_of c.args.number = signed_is c.args.number c.to_signed.result
    c.ranges.number.fits c.to_signed.ensures in
    IfOk-weaker c.from_str.result _ _
    (λ s e. e ∙ c.format.ensures.text ∙ ap signed_decimal (to_z-of_z w64 c.to_signed.result (search rules) ∙ is))
    c.from_str.ensures.ok
