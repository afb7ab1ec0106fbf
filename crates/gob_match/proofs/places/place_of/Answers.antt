use Rattle.std.proofs.Common.{ℕ, get_or, refl, rules}
use Rattle.std.proofs.lemmas.List.Sorted.{answers_always}
use Rattle.std.proofs.lemmas.Option.{slice_get-get_or}
use Rattle.gob_match.specs.declared.places.FieldPlace.{FieldPlace}
use Rattle.gob_match.proofs.PartLaws.{numbered, unnumbered}
use Rattle.gob_match.proofs.places.place_of.Goals as goal

pub returns-in-Ok-clause-found : goal.returns-in-Ok-clause-found
returns-in-Ok-clause-found c =
    let places = c.args.places.now in
    let i = c.in-Ok.index in
    let key : FieldPlace → ℕ = λ p. p.number in
    let none : FieldPlace = record { number = 0; at = 0 } in
    let found = c.in-Ok.ensures.position key (answers_always _ _ _ (λ f a r g called. search rules)) in
    record {
      index = i;
      place = get_or places i none;
      there = slice_get-get_or places i none c.in-Ok.ensures.bound;
      numbered = numbered key places c.args.number i none found;
      is = refl;
    }

pub returns-in-Err-clause-none : goal.returns-in-Err-clause-none
returns-in-Err-clause-none c = λ e.
    let key : FieldPlace → ℕ = λ p. p.number in
    let parted = c.in-Err.ensures.position key (answers_always _ _ _ (λ f a r g called. search rules)) in
    unnumbered key c.args.places.now c.args.number c.in-Err.field-0 c.requires parted
