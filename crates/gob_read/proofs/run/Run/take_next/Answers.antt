use Rattle.std.proofs.Common.{ap, ◌∙◌}
use Rattle.gob_read.specs.declared.next.Next.TheVariants.{Number}
use Rattle.gob_read.proofs.Machine.Nils.{if_ok, number_clear}
use Rattle.gob_read.proofs.run.Run.take_next.Goals as goal

pub take_part-requires : goal.take_part-requires
take_part-requires g c =
    let b = c.requires in
    record {
      expected = c.in-Number-Part.is ∙ ap Number (rw c.in-Number-Part.is at c.in-Number-Part.field-0-is);
      has_read = b.has_read;
      some = b.some;
      room = b.room;
    }

pub returns-in_ok-take_raw_bytes-in-Raw-clause-taken : goal.returns-in_ok-take_raw_bytes-in-Raw-clause-taken
returns-in_ok-take_raw_bytes-in-Raw-clause-taken g c =
    c.in_ok-take_raw_bytes-in-Raw.ensures.taken (g.S.Shapes.table c.args.shapes.now)

pub returns-in_ok-take_raw_bytes-in-Raw-clause-clear : goal.returns-in_ok-take_raw_bytes-in-Raw-clause-clear
returns-in_ok-take_raw_bytes-in-Raw-clause-clear g c = λ n u e k. c.in_ok-take_raw_bytes-in-Raw.ensures.clear u e

pub returns-in-Number-Part-clause-clear : goal.returns-in-Number-Part-clause-clear
returns-in-Number-Part-clause-clear g c = if_ok c.take_part.result
    (λ _ s n. number_clear c.args.self.now c.take_part.new.self n s) c.take_part.ensures.clear

pub returns-in-Number-clause-clear : goal.returns-in-Number-clause-clear
returns-in-Number-clause-clear g c = if_ok c.take_number.result
    (λ _ s n. number_clear c.args.self.now c.take_number.new.self n s) c.take_number.ensures.clear
