use Rattle.std.proofs.Common.{◌≡◌, ◌++◌, ◌∷◌, [], sym, subst, ◌∙◌}
use Rattle.std.proofs.lemmas.Result.{IfOk-from_err}
use Rattle.gob_match.specs.Machine.Search.{came, IsAt, AddsPairs}
use Rattle.gob_match.proofs.FoundLaws.{same_pair, known_at, no_lookup, IsStepTo, adds_known, adds_new, at_new}
use Rattle.gob_match.proofs.found.Found.add.Goals as goal
use Rattle.indexmap.proofs.CallerLemmas.{insert_entry-new}

pub returns-in-Some : goal.returns-in-Some
returns-in-Some c =
    let known = subst (λ es. IsAt es c.in-Some.known c.args.pair) c.self.view_is
    (known_at c.args.pair c.self.inside.pairs.entries c.in-Some.known (sym c.in-Some.ensures.index)) in
    record { at = known; added = adds_known known }

pub returns : goal.returns
returns c =
    let es = c.self.inside.pairs.entries in
    let none = no_lookup _ (sym c.in_default.ensures.found) in
    let grown : c.insert.new.self.entries ≡ es ++ (c.args.pair, came c.args.place c.args.step) ∷ [] =
    c.in_ok-insert.ensures.entries
    ∙ insert_entry-new same_pair c.self.inside.pairs c.args.pair (came c.args.place c.args.step) none in
    record {
      at = subst (λ n. IsAt c.insert.new.self.entries n c.args.pair) (sym c.len-new.ensures.len)
          (at_new es c.args.place c.args.step grown);
      added =
          subst (λ zs. AddsPairs zs c.insert.new.self.entries c.args.place (IsStepTo c.args.step c.args.pair))
          c.self.view_is (adds_new es c.args.place c.args.step grown);
    }

pub returns-in_err-insert-clause-at : goal.returns-in_err-insert-clause-at
returns-in_err-insert-clause-at c = IfOk-from_err c.from_residual.result _ c.from_residual.ensures.0

pub returns-in_err-insert-clause-added : goal.returns-in_err-insert-clause-added
returns-in_err-insert-clause-added c = IfOk-from_err c.from_residual.result _ c.from_residual.ensures.0
