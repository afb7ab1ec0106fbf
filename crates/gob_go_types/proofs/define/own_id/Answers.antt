-- A declared type that is met gets an id, and waits for its kind.
use Rattle.std.proofs.Common.{ap, rules}
use Rattle.gob_go_types.proofs.KeptLaws.{goes_own, sound_own}
use Rattle.gob_go_types.proofs.define.own_id.Goals as goal

pub returns-clause-sound : goal.returns-clause-sound
returns-clause-sound c =
    sound_own c.args.code.now.source.now c.args.numbers.now _ c.args.place c.args.parts c.in_ok-id.id
    c.in_ok-declaration.declaration c.add.new.self.ids.entries c.requires.sound c.in_ok-id.ensures.numbered
    c.in_ok-id.ensures.added (ap (λ m. m.entries) c.add.ensures.made) c.in_ok-declaration.ensures c.requires.led
    (goes_own c.args.numbers.now _ c.args.place c.in_ok-id.id _ c.add.new.self.ids.entries c.in_ok-id.ensures.added
    (search rules) (ap (λ m. m.entries) c.add.ensures.ids) c.in_ok-put_id.ensures)
    (ap (λ m. m.entries) c.add.ensures.ids) c.in_ok-put_id.ensures

pub returns-clause-goes : goal.returns-clause-goes
returns-clause-goes c =
    goes_own c.args.numbers.now _ c.args.place c.in_ok-id.id _ c.add.new.self.ids.entries c.in_ok-id.ensures.added
    (search rules) (ap (λ m. m.entries) c.add.ensures.ids) c.in_ok-put_id.ensures
