-- The number waits behind what was gathered.
use Rattle.std.proofs.Common.{◌≡◌, List, ℕ, ◌++◌, ◌∙◌, ap, of_z, to_z, w64, SFits}
use Rattle.std.proofs.lemmas.Int.{to_z-of_z}
use Rattle.serde_json.specs.Written.{compact_text}
use Rattle.gob_json.specs.Json.{integer_json}
use Rattle.gob_json.proofs.GatheredLaws.{gathered_on, gathered_failed}
use Rattle.gob_json.proofs.text.gathered.GatheredPartOut.put_integer.Goals as goal

this_integer : {left : List ℕ} (waits : List ℕ) (i : _) → SFits w64 i
    → left ≡ waits ++ compact_text (integer_json (to_z w64 (of_z w64 i)))
    → left ≡ waits ++ compact_text (integer_json i)
this_integer waits i fits e = e ∙ ap (λ i. waits ++ compact_text (integer_json i)) (to_z-of_z w64 i fits)

pub returns : goal.returns
returns g c = (
  c.in_ok-make_room.ensures.same,
  gathered_on g.O.TextOut.puts _ c.in_ok-make_room.ensures.put
      (this_integer _ c.args.number c.ranges.number c.add_integer.ensures),
)

pub returns-in_err-make_room : goal.returns-in_err-make_room
returns-in_err-make_room g c = (
  c.in_err-make_room.ensures.same,
  gathered_failed g.O.TextOut.puts g.met.O.TextOut.cut _ _ _ _ _ c.from_residual.result c.from_residual.ensures.1
      c.in_err-make_room.ensures.put,
)
