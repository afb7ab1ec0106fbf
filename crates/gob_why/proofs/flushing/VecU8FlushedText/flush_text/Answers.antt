use Rattle.std.proofs.Common.{sym, append-nil}
use Rattle.gob_why.proofs.flushing.VecU8FlushedText.flush_text.Goals as goal

pub returns : goal.returns
returns c = sym (append-nil c.args.self.now.items)
