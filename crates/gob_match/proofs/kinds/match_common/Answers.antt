use Rattle.std.proofs.Common.{inl, inr, arith}
use Rattle.gob_match.proofs.KindLaws.{structs_convert, empty_structs_convert, structs_clash}
use Rattle.gob_match.proofs.kinds.match_common.Goals as goal

pub returns-then-len-gt0 : goal.returns-then-len-gt0
returns-then-len-gt0 c = structs_convert c.requires.distinct c.requires.common
    (omega (arith, c.if-len-gt0.true, c.len.ensures, c.args.common.ok))

pub returns-then-count-gt0 : goal.returns-then-count-gt0
returns-then-count-gt0 c = structs_clash c.requires.distinct c.requires.common
    (λ some. omega (arith, some, c.if-len-gt0.false, c.len.ensures, c.args.common.ok))
    (inl (omega (arith, c.if-count-gt0.true, c.count.ensures)))

pub returns-then-count-gt0-2 : goal.returns-then-count-gt0-2
returns-then-count-gt0-2 c = structs_clash c.requires.distinct c.requires.common
    (λ some. omega (arith, some, c.if-len-gt0.false, c.len.ensures, c.args.common.ok))
    (inr (omega (arith, c.if-count-gt0-2.true, c.count-2.ensures)))

pub returns : goal.returns
returns c = empty_structs_convert c.requires.distinct c.requires.common
    (λ some. omega (arith, some, c.if-count-gt0.false, c.count.ensures))
    (λ some. omega (arith, some, c.if-count-gt0-2.false, c.count-2.ensures))
