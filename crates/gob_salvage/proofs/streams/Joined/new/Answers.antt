use Rattle.std.proofs.Common.{ap, refl, ◌∙◌}
use Rattle.gob_stream.specs.Bounds.{within_trees}
use Rattle.gob_salvage.proofs.StreamsLaws.{first_next, none_yet}
use Rattle.gob_salvage.proofs.streams.Joined.new.Goals as goal

pub returns-clause-joined : goal.returns-clause-joined
returns-clause-joined c = λ bytes room small.
    none_yet bytes c.in_ok-new.ensures.nothing (ap (λ L. within_trees L) c.in_ok-new.ensures.limits)
    (ap (λ w. w.items) c.new-3.ensures.writer ∙ c.new-2.ensures.items) c.new-4.ensures.items
    (first_next c.new-5.ensures.items refl) room small

pub returns-clause-next : goal.returns-clause-next
returns-clause-next c = first_next c.new-5.ensures.items refl
