-- The name is that which is known at the place.
use Rattle.std.proofs.Common.{◌∙◌, ℕ, List, Bor, Option, ap, sym}
use Rattle.std.specs.Option.{option_copied}
use Rattle.std.specs.Prelude.{option_map}
use Rattle.gob_source.specs.declared.by_type.NamePlace.{NamePlace}
use Rattle.gob_source.specs.Registered.{names_of, namings}
use Rattle.gob_source.proofs.RegisteredLaws.{is_none, is_there}
use Rattle.gob_source.proofs.by_type.NamesByType.name_of.Goals as goal

pub unreachable-requires : goal.unreachable-requires
unreachable-requires c =
    let x : NamePlace = record { id = c.args.id; place = c.args.place } in
    is_none (names_of c.args.id (namings c.args.self.now.all.now)) c.args.place c.requires
    (ap (λ (o : Option (Bor (Bor (List ℕ)))). option_map (λ (n : Bor (List ℕ)). n.now) (option_copied o))
    (sym c.in-None.is)
    ∙ ap (λ (o : Option (Bor (List ℕ))). option_map (λ (n : Bor (List ℕ)). n.now) o) c.get.ensures.value
    ∙ c.args.self.now.known.each x)

pub returns : goal.returns
returns c =
    let x : NamePlace = record { id = c.args.id; place = c.args.place } in
    is_there (names_of c.args.id (namings c.args.self.now.all.now)) c.args.place c.in-Some.name.now.now
    (ap (λ (o : Option (Bor (Bor (List ℕ)))). option_map (λ (n : Bor (List ℕ)). n.now) (option_copied o))
    (sym c.in-Some.is)
    ∙ ap (λ (o : Option (Bor (List ℕ))). option_map (λ (n : Bor (List ℕ)). n.now) o) c.get.ensures.value
    ∙ c.args.self.now.known.each x)
