-- The event is said by its tokens.
use Rattle.std.proofs.Common.{[], ◌∷◌, refl, rules, subst, w64}
use Rattle.std.specs.Fmt.{signed_decimal}
use Rattle.std.proofs.lemmas.Int.{to_z-of_z}
use Rattle.std.proofs.lemmas.Result.{on_ok_weaker}
use Rattle.json.specs.Token.{Token}
use Rattle.json.specs.Tree.{json_tokens}
use Rattle.serde_json.specs.Written.{outline}
use Rattle.gob_json.specs.Json.{integer_json}
use Rattle.gob_value.specs.Tree as Value
use Rattle.gob_plain.specs.PutsTokens.{PutsTokens}
use Rattle.gob_plain.proofs.LineLaws.{put_of}
use Rattle.gob_plain.proofs.PlaceLaws.{empty_utf8, leaf_said, name_said}
use Rattle.gob_plain.proofs.visitor.PlainVisitor.int.Goals as goal

pub returns-then-takes_name : goal.returns-then-takes_name
returns-then-takes_name g c = (
  refl,
  refl,
  on_ok_weaker c.signed_name.result
      (put_of (name_said (Value.int c.args.number) empty_utf8 (c.takes_name.ensures.name c.if-takes_name.true)))
      (subst (λ i. PutsTokens c.signed_name.result c.args.self.now.out c.signed_name.new.self
      (Token.key (signed_decimal i) ∷ [])) (to_z-of_z w64 c.args.number (search rules)) c.signed_name.ensures),
)

pub returns : goal.returns
returns g c = (
  refl,
  refl,
  on_ok_weaker c.i64.result
      (put_of (leaf_said (Value.int c.args.number) (c.takes_name.ensures.other c.if-takes_name.false) _
      (_, refl, refl)))
      (subst (λ i. PutsTokens c.i64.result c.args.self.now.out c.i64.new.self
      (json_tokens (outline (integer_json i)))) (to_z-of_z w64 c.args.number (search rules)) c.i64.ensures),
)
