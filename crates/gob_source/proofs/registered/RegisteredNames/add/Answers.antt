-- A key that is inserted is a name that is added.
use Rattle.std.proofs.Common.{◌∙◌, ℕ, List, ap, refl}
use Rattle.gob_source.specs.declared.registered.Registered.{Registered}
use Rattle.gob_source.specs.Registered.{Naming, is_naming, naming, with_naming}
use Rattle.gob_source.proofs.RegisteredLaws.{naming_added}
use Rattle.gob_source.proofs.registered.RegisteredNames.add.Goals as goal

pub returns : goal.returns
returns c =
    let k : Registered = record { id = c.args.id; name = c.in_ok-name.name } in
    naming_added (λ (a b : Registered). is_naming (naming a) (naming b)) c.self.inside.names.keys
    c.insert_full.new.self.keys k (λ x. refl) c.in_ok-insert_full.ensures.keys
    ∙ ap (λ (ps : List Naming). with_naming ps (c.args.id, c.in_ok-name.name.items)) c.self.view_is
    ∙ ap (λ (n : List ℕ). with_naming c.args.self.now (c.args.id, n)) c.in_ok-name.ensures.items
