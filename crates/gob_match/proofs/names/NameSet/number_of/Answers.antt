use Rattle.std.proofs.Common.{subst, Contains, MatchOption, ◌≡◌, Some}
use Rattle.std.specs.Prelude.{slice_get}
use Rattle.gob_match.proofs.NameLaws.{names_found}
use Rattle.gob_match.proofs.names.NameSet.number_of.Goals as goal

pub returns : goal.returns
returns c =
    subst (λ names. MatchOption c.get_index_of.result (¬ Contains names c.args.name.now)
    (λ k. slice_get names k ≡ Some c.args.name.now)) c.self.view_is
    (names_found c.self.inside.names.keys c.args.name c.get_index_of.result c.get_index_of.ensures.index
    c.get_index_of.ensures.found)
