use Rattle.std.proofs.Common.{rules, tests}
use Rattle.std.proofs.lemmas.Iterator.{YieldsList-from_slice}
use Rattle.std.proofs.lemmas.Iterator.Search.{any_from_yields_List}
use Rattle.std.specs.Prelude.{not}
use Rattle.gob_salvage.proofs.keeping.Salvaged.is_damaged.Goals as goal

pub returns : goal.returns
returns c =
    any_from_yields_List (λ g. not g.is_repeated) _ _ _ c.any.ensures.ran
    (YieldsList-from_slice c.args.self.now.gaps.items (cc)) (λ x b q k. search (rules, tests))
