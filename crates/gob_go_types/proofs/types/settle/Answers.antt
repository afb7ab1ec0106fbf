-- An open definition gets the kind of its parts.
use Rattle.std.proofs.Common.{◌∙◌, ap, arith, length, length-append, sym}
use Rattle.gob_go_types.proofs.KeptLaws.{settled_done, settled_keeps, settled_sound, still_done}
use Rattle.gob_go_types.proofs.KindLaws.{keeps_same}
use Rattle.gob_go_types.proofs.types.settle.Goals as goal

pub close-requires : goal.close-requires
close-requires c =
    let longer =
    ap length c.in_ok-kind.ensures.goes.slots
    ∙ length-append c.args.numbers.now.slots.items c.in_ok-kind.ensures.goes.more in
    omega (arith, longer, c.requires.within)

pub returns-in_default-clause-keeps : goal.returns-in_default-clause-keeps
returns-in_default-clause-keeps c = keeps_same c.args.numbers.now

pub returns-in_default-clause-done : goal.returns-in_default-clause-done
returns-in_default-clause-done c =
    still_done c.args.numbers.now.slots.items c.args.at (sym c.open_at-parts.ensures ∙ c.in_default.is)
    c.requires.within c.requires.done

pub returns-clause-sound : goal.returns-clause-sound
returns-clause-sound c =
    settled_sound c.args.code.now.source.now c.args.numbers.now c.kind_at.new.numbers c.close.new.self c.args.at
    c.in-Some.place c.in_ok-kind.kind c.in_ok-kind.ensures.goes (sym c.open_at-parts.ensures ∙ c.in-Some.is)
    c.close.ensures.slots c.close.ensures.ids c.close.ensures.made c.close.ensures.free
    c.in_ok-kind.ensures.says c.in_ok-kind.ensures.sound

pub returns-clause-keeps : goal.returns-clause-keeps
returns-clause-keeps c =
    settled_keeps c.args.numbers.now c.kind_at.new.numbers c.close.new.self c.args.at c.in-Some.place c.in_ok-kind.kind
    c.in_ok-kind.ensures.goes (sym c.open_at-parts.ensures ∙ c.in-Some.is) c.close.ensures.slots c.close.ensures.ids

pub returns-clause-done : goal.returns-clause-done
returns-clause-done c =
    settled_done c.args.numbers.now c.kind_at.new.numbers c.close.new.self c.args.at c.in_ok-kind.kind
    c.in_ok-kind.ensures.goes c.requires.within c.close.ensures.slots c.requires.done
