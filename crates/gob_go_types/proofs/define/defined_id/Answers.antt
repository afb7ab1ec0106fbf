-- A definition is put behind the others, unless one of its name and kind is there.
use Rattle.std.proofs.Common.{◌∙◌, ap, refl, subst, sym}
use Rattle.gob_types.specs.declared.kind.Kind.{Kind}
use Rattle.gob_go_types.specs.declared.numbers.Form.TheVariants as form
use Rattle.gob_go_types.specs.declared.numbers.Numbers.{Numbers}
use Rattle.gob_go_types.specs.Machine.{finished}
use Rattle.gob_go_types.specs.Types.{Has, defined}
use Rattle.gob_go_types.proofs.KeptLaws.{added_sound, added_there, goes_one, made_more, sound_done}
use Rattle.gob_go_types.proofs.SlotLaws.{finished_last}
use Rattle.gob_go_types.proofs.define.defined_id.Goals as goal

pub returns-in_default-clause-sound : goal.returns-in_default-clause-sound
returns-in_default-clause-sound c =
    added_sound c.args.code.now.source.now c.args.numbers.now c.add.new.self c.args.name c.args.kind c.add.result
    c.requires c.add.ensures.numbered c.add.ensures.added c.add.ensures.ids c.add.ensures.made

pub returns-in_default-clause-there : goal.returns-in_default-clause-there
returns-in_default-clause-there c =
    added_there c.args.numbers.now c.add.new.self c.args.name c.args.kind c.add.result c.add.ensures.added

pub returns-in-Some-made_id-clause-there : goal.returns-in-Some-made_id-clause-there
returns-in-Some-made_id-clause-there c =
    subst (λ (k : Kind). Has (finished c.args.numbers.now.slots.items) (defined c.in-Some-made_id.id c.args.name.now k))
    c.in-Some.ensures
    (c.requires.made.each (record { name = c.args.name; kind = c.in-Some.made }) _
    (sym c.made_id.ensures ∙ c.in-Some-made_id.is))

pub returns-clause-there : goal.returns-clause-there
returns-clause-there c =
    finished_last c.args.numbers.now.slots.items c.add-2.new.self.slots.items
    (record { id = c.in_ok-id.id; name = c.args.name; form = form.Done c.args.kind }) c.args.kind
    c.in_ok-id.ensures.added refl

pub returns-clause-sound : goal.returns-clause-sound
returns-clause-sound c =
    let b : Numbers = record {
      slots = c.add-2.new.self.slots;
      ids = c.add-2.new.self.ids;
      made = c.put_made.new.made;
      free = c.add-2.new.self.free;
    } in
    sound_done c.args.code.now.source.now c.args.numbers.now b _ c.requires c.in_ok-id.ensures.numbered
    c.in_ok-id.ensures.added (ap (λ m. m.entries) c.add-2.ensures.ids)
    (made_more c.args.numbers.now b (record { name = c.args.name; kind = c.in-Some.made }) c.in_ok-id.id
    c.add-2.new.self.made.entries
    (goes_one c.args.numbers.now b _ c.in_ok-id.ensures.added (ap (λ m. m.entries) c.add-2.ensures.ids))
    c.requires.made
    (subst (λ (k : Kind). Has (finished c.add-2.new.self.slots.items) (defined c.in_ok-id.id c.args.name.now k))
    (sym c.in-Some.ensures)
    (finished_last c.args.numbers.now.slots.items c.add-2.new.self.slots.items
    (record { id = c.in_ok-id.id; name = c.args.name; form = form.Done c.args.kind }) c.args.kind
    c.in_ok-id.ensures.added refl))
    (ap (λ m. m.entries) c.add-2.ensures.made) c.in_ok-put_made.ensures)
