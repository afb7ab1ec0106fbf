use Rattle.std.proofs.Common.{IfOk, List, ℕ, subst}
use Rattle.gob_stream.specs.Bounds.{within_trees}
use Rattle.gob_stream.specs.Calls.Ends.{reader_of}
use Rattle.gob_filled.specs.Outcome.{profile}
use Rattle.gob_split.specs.Definitions.{AppendsDefinitions}
use Rattle.gob_tool.specs.Answering.{EndsWhole}
use Rattle.gob_salvage.specs.Running.{IsOf}
use Rattle.gob.proofs.SalvagingLaws.{front_if}
use Rattle.gob.proofs.salvage.front_of.Goals as goal

pub returns : goal.returns
returns g c = λ bytes known.
    let now = g.R.Read.remaining (reader_of c.push_definitions.new.input) in
    front_if (within_trees c.args.limits) bytes c.push_definitions.new.defining.items now c.counted.result
    (subst (λ (old : List ℕ). EndsWhole profile (within_trees c.args.limits) bytes now
    (AppendsDefinitions (within_trees c.args.limits) old c.push_definitions.new.defining.items))
    c.new-defining.ensures.items (c.in_ok-push_definitions.ensures.defined bytes known))
    (subst (λ (d : List ℕ). IfOk c.counted.result (IsOf (within_trees c.args.limits) d)) c.deref.ensures.value
    c.counted.ensures)
