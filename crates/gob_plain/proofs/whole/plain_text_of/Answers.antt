-- Where something is said of types the text is that of a tape.
use Rattle.std.proofs.Common.{refl}
use Rattle.gob_plain.proofs.whole.plain_text_of.Goals as goal

pub told_text_of-requires : goal.told_text_of-requires
told_text_of-requires c = record {
  taken = c.may_be_told.ensures.taken c.if-may_be_told.true;
  listed = c.may_be_told.ensures.listed c.if-may_be_told.true;
}

pub tape_of-requires : goal.tape_of-requires
tape_of-requires c = c.if-not-kept.ensures.0 refl

pub returns : goal.returns
returns c =
    let w = c.is_whole.ensures c.if-not-is_whole.false in
    let s = c.in_ok-plain_text.ensures w.value (c.in_ok-tape.ensures w.value w.spelled) in (w, s.0, s.1, s.2, s.3)
