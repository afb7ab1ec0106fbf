-- A key that is inserted is a text that is added.
use Rattle.std.proofs.Common.{◌≡◌, not, subst}
use Rattle.gob_plain.specs.Machine.Naming.{has_text, with_text}
use Rattle.gob_plain.proofs.DistinctLaws.{bytes_of, text_added}
use Rattle.gob_plain.proofs.distinct.Seen.add.Goals as goal

pub returns : goal.returns
returns c =
    subst (λ texts. (c.in_ok-new.new ≡ not (has_text c.args.text.now texts))
    × (bytes_of c.insert_full.new.self.keys ≡ with_text texts c.args.text.now)) c.self.view_is
    (text_added c.self.inside.texts.keys c.insert_full.new.self.keys c.args.text c.in_ok-new.new
    c.in_ok-new.ensures.keys c.in_ok-new.ensures.added)
