use Rattle.gob_join.specs.Renaming.{among}
use Rattle.gob_join.proofs.NumberLaws.{numbered_then}
use Rattle.gob_join.proofs.numbering.number.Goals as goal

pub returns : goal.returns
returns c = numbered_then c.number_anew.result (among c.number_anew.new.renaming)
    c.in_ok-keep_ids.ensures c.number_anew.ensures
