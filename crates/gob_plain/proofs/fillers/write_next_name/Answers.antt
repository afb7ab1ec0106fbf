-- The text is that of what fills the nil, or of null.
use Rattle.std.proofs.Common.{◌∷◌, [], ◌∙◌, Option, List, ℕ, ap, sym}
use Rattle.std.specs.Prelude.{unwrap_or, option_map, string_bytes}
use Rattle.json.specs.Token.{Token}
use Rattle.gob_plain.proofs.FillerLaws.{some_said}
use Rattle.gob_plain.proofs.SomeLaws.{some_of, one_written}
use Rattle.gob_plain.proofs.fillers.write_next_name.Goals as goal

pub returns-in-Some : goal.returns-in-Some
returns-in-Some c =
    let said = some_said c.args.next.now c.requires in
    some_of (one_written c.key.ensures) (
      said.0,
      said.1,
      ap (λ (s : List ℕ). Token.key s ∷ [])
          (c.as_str.ensures.value
          ∙ ap (λ (o : Option (List ℕ)). unwrap_or o [])
          (ap (option_map string_bytes) (sym c.in-Some.is) ∙ c.in_ok-text.ensures said.0 said.1)),
    )

pub returns-in-None : goal.returns-in-None
returns-in-None c =
    let said = some_said c.args.next.now c.requires in
    some_of (one_written c.key-in-None.ensures) (
      said.0,
      said.1,
      ap (λ (o : Option (List ℕ)). Token.key (unwrap_or o []) ∷ [])
          (ap (option_map string_bytes) (sym c.in-None.is) ∙ c.in_ok-text.ensures said.0 said.1),
    )
