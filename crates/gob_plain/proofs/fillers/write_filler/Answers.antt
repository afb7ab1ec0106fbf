-- The JSON of the text, with the name before it or alone.
use Rattle.std.proofs.Common.{◌≡◌, ◌∷◌, [], ◌++◌, List, ap, refl, ◌∙◌}
use Rattle.json.specs.Token.{Token}
use Rattle.json.specs.Json as json
use Rattle.json.specs.Lex.{tokens}
use Rattle.json.specs.Tree.{json_tokens}
use Rattle.gob_plain.specs.Plain.{name_text}
use Rattle.gob_plain.proofs.FillerLaws.{says_named, says_bare}
use Rattle.gob_plain.proofs.SomeLaws.{some_of, some_behind, one_written}
use Rattle.gob_plain.proofs.fillers.write_filler.Goals as goal

pub returns-in-Some : goal.returns-in-Some
returns-in-Some c =
    let i = c.requires.0 in
    let name = c.in-Some.name in
    let key = Token.key (name_text name.now) in
    some_behind {Q = λ (ts : List Token). ts ≡ key ∷ (json_tokens i ++ Token.end_object ∷ [])}
    (one_written c.in_ok-begin_object-in-Some.ensures)
    (some_behind {Q = λ (ts : List Token). ts ≡ json_tokens i ++ Token.end_object ∷ []}
    c.in_ok-write_name-in-Some.ensures
    (some_behind {Q = λ (ts : List Token). ts ≡ Token.end_object ∷ []}
    (c.in_ok-copy_json-in-Some.ensures.tokens i (ap tokens c.as_str.ensures.value ∙ c.requires.1))
    (some_of (one_written c.end_object.ensures) refl)
    (λ ys p. ap (λ (l : List Token). json_tokens i ++ l) p))
    (λ ys p. ap (λ (l : List Token). key ∷ l) p))
    (λ ys p. (
      json.object (json.member (name_text name.now) i json.no_members),
      says_named c.args.filler.now name i c.in-Some.is c.requires.1,
      ap (λ (l : List Token). Token.begin_object ∷ l) p,
    ))

pub returns : goal.returns
returns c =
    let i = c.requires.0 in
    some_of (c.copy_json-in-None.ensures.tokens i (ap tokens c.as_str-in-None.ensures.value ∙ c.requires.1))
    (i, says_bare c.args.filler.now i c.in-None.is c.requires.1, refl)
