use Rattle.std.proofs.Common.{arith, refl, [], ◌∷◌}
use Rattle.gob_read.proofs.Machine.Runs.{number_can_take, number_goes_on, number_answers, bad_head_refused}
use Rattle.gob_read.proofs.Machine.Runs.{not_minimal_refused}
use Rattle.gob_read.proofs.run.Run.take_number_byte.Goals as goal

pub take_whole_number-requires : goal.take_whole_number-requires
take_whole_number-requires g c = number_can_take c.args.item (c.args.b ∷ []) c.requires.expected c.requires.has_read
    c.in-Done.ensures.judged (let r = c.requires.room in omega arith)

pub returns-in-More-clause-taken : goal.returns-in-More-clause-taken
returns-in-More-clause-taken g c = record {
  more = record { taken = refl; length_is = refl; depth_is = refl };
  steps = number_goes_on c.args.item c.args.b c.requires.expected refl c.in-More.ensures.next refl refl refl
      c.in-More.ensures.judged;
}

pub returns-in-BadHead-clause-taken : goal.returns-in-BadHead-clause-taken
returns-in-BadHead-clause-taken g c = rw c.refuse.ensures (bad_head_refused c.args.item c.args.b c.requires.expected
    c.in-BadHead.ensures.judged)

pub returns-in-NotMinimal-clause-taken : goal.returns-in-NotMinimal-clause-taken
returns-in-NotMinimal-clause-taken g c = rw c.refuse-in-NotMinimal.ensures (not_minimal_refused c.args.item c.args.b
    c.requires.expected c.in-NotMinimal.ensures.judged)

pub returns-in-Done-clause-taken : goal.returns-in-Done-clause-taken
returns-in-Done-clause-taken g c = number_answers _ _ _ _ _ c.args.item (c.args.b ∷ []) c.take_whole_number.result
    c.requires.expected refl c.in-Done.ensures.next refl refl refl refl c.in-Done.ensures.judged
    c.take_whole_number.ensures
