use Rattle.std.proofs.Common.{arith, refl}
use Rattle.gob_read.proofs.Machine.Parts.{if_ok}
use Rattle.gob_read.proofs.Machine.ItemSteps.{can_tell_more, can_end_raw, raw_can_end, raw_ended, raw_goes_on}
use Rattle.gob_read.proofs.state.State.take_raw_bytes.Goals as goal

pub raw_more-requires : goal.raw_more-requires
raw_more-requires g c = can_tell_more c.args.bytes.now c.requires

pub leave-requires : goal.leave-requires
leave-requires g c = can_end_raw c.args.bytes.now c.requires c.in_ok-raw_more.ensures

pub after_part-requires : goal.after_part-requires
after_part-requires g c = raw_can_end c.args.bytes.now refl c.in_ok-raw_more.ensures c.in_ok-leave.ensures (let f =
    c.requires.few in omega arith) c.requires

pub returns-then-rest-eq0 : goal.returns-then-rest-eq0
returns-then-rest-eq0 g c = if_ok c.after_part.result (λ moved h. record {
  last = λ T t p r b e. h.each T t _ (raw_ended c.args.bytes.now c.requires.expected refl c.in_ok-raw_more.ensures
      c.in_ok-leave.ensures e b);
  other = λ T t p r b l. absurd (omega arith);
}) c.after_part.ensures

pub returns : goal.returns
returns g c = record {
  last = λ T t p r b e. absurd (omega arith);
  other = λ T t p r b l. record {
    more = refl;
    expected = refl;
    stack = refl;
    placed = raw_goes_on c.args.bytes.now c.requires.expected refl refl c.in_ok-raw_more.ensures (omega arith)
        (omega arith) b;
  };
}
