use Rattle.std.proofs.Common.{[]}
use Rattle.gob_appended.specs.Once.{staying}
use Rattle.gob_appended.proofs.InputLaws.{all_in_order, all_stand, at_offset}
use Rattle.gob_appended.proofs.laws.offsets_are_those_of_the_input.Goals as goal

pub returns : goal.returns
returns c = record {
  stands = λ xs k d l. at_offset xs _ (all_stand 0 [] (staying 0) xs k d l);
  in_order = all_in_order 0 [] (staying 0);
}
