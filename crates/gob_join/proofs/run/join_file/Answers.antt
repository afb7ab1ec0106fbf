-- What is answered is what the items' run answers, under these limits.
use Rattle.std.proofs.Common.{◌∙◌}
use Rattle.gob_stream.specs.Calls.Ends.{reader_of}
use Rattle.gob_join.proofs.JoiningLaws.{all_answers, no_memory}
use Rattle.gob_join.proofs.run.join_file.Goals as goal

pub join_items-requires-clause-new : goal.join_items-requires-clause-new
join_items-requires-clause-new g c = c.in_ok-reader.ensures.new _

pub join_items-requires-clause-none : goal.join_items-requires-clause-none
join_items-requires-clause-none g c = c.in_ok-known.ensures

pub returns-in_err-reader-clause-joined : goal.returns-in_err-reader-clause-joined
returns-in_err-reader-clause-joined g c = λ before out bytes h known.
    no_memory _ bytes _ _ before out _ c.from_residual.result h c.from_residual.ensures.1

pub returns-in_err-known-clause-joined : goal.returns-in_err-known-clause-joined
returns-in_err-known-clause-joined g c = λ before out bytes h known.
    no_memory _ bytes _ _ before out _ c.from_residual-in_err-known.result h c.from_residual-in_err-known.ensures.1

pub returns-clause-joined : goal.returns-clause-joined
returns-clause-joined g c = λ before out bytes h known.
    all_answers c.args.limits c.join_items.new.reader bytes (g.R.Read.remaining (reader_of c.args.input.now))
    (g.R.Read.remaining (reader_of c.join_items.new.input)) _ before out _ _ c.join_items.result
    (c.join_items.ensures.limits ∙ c.in_ok-reader.ensures.limits) known (c.join_items.ensures.joined before out h)
