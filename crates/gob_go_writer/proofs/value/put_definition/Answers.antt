use Rattle.std.proofs.Common.{◌++◌, ◌-◌, arith, refl, subst}
use Rattle.gob_stream.proofs.DenialLaws.{denial_weaker}
use Rattle.gob_stream.proofs.FaultSteps.{passed}
use Rattle.gob_num.specs.Unsigned.{AreBytes}
use Rattle.gob_num.proofs.PublicLaws.{bytes-append, bytes_rest, signed_unsigned, unsigned_bytes}
use Rattle.gob_go_writer.proofs.LetterLaws.{takes_then, puts}
use Rattle.gob_go_writer.proofs.PartSteps.{below_zero}
use Rattle.gob_go_writer.proofs.value.put_definition.Goals as goal

pub returns-in_err-write_description-clause-refused : goal.returns-in_err-write_description-clause-refused
returns-in_err-write_description-clause-refused c =
    passed c.from_residual-in_err-write_description.result _ c.from_residual-in_err-write_description.ensures.1
    (denial_weaker c.in_err-write_description.field-0.0 (λ r unfit. (
      unfit.0,
      λ s.
          let d = s.spelled in
          unfit.1 (record { bytes = d.description; spelled = d.described; within = d.shallow }),
    )) c.in_err-write_description.ensures.refused)

pub returns-clause-ok : goal.returns-clause-ok
returns-clause-ok c =
    let n = c.in_ok-put_int.ensures in
    let a = c.in_ok-write_description.ensures.spelled in
    let last = c.put_int.new.self.last.items in
    let described : AreBytes a.bytes = bytes_rest last a.bytes (subst AreBytes a.appended
    c.in_ok-write_description.ensures.bytes) in
    record {
      letters = n.letters ++ a.bytes;
      spelled = record {
        spelled = record {
          below = c.args.id.0 - 1;
          number = n.letters;
          description = a.bytes;
          id_is = omega arith;
          small = omega arith;
          numbered = below_zero (omega arith) (omega arith) n.spelled;
          described = a.spelled;
          shallow = c.in_ok-write_description.ensures.within;
          whole = refl;
        };
        are_bytes = bytes-append n.letters a.bytes (unsigned_bytes (signed_unsigned n.spelled).1) described;
      };
      takes = takes_then n.takes (puts refl a.appended);
    }
