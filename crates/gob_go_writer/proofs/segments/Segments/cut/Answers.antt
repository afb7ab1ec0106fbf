use Rattle.std.proofs.Common.{subst}
use Rattle.gob_num.specs.Spelled.{Appends}
use Rattle.gob_go_writer.specs.Machine.Letters.{IsSegment}
use Rattle.gob_go_writer.proofs.LetterLaws.{cuts}
use Rattle.gob_go_writer.proofs.segments.Segments.cut.Goals as goal

pub returns : goal.returns
returns c = cuts (subst (λ s. Appends (IsSegment s) c.args.self.now.ended.items c.write_segment.new.out.items)
    c.deref.ensures.value c.in_ok-write_segment.ensures.ok) c.clear.ensures.items
