use Rattle.std.proofs.Common.{◌++◌, ◌∙◌, List, ap, arith, w64, ℕ}
use Rattle.std.proofs.lemmas.Int.{ints, to_z_pos}
use Rattle.gob_tool.proofs.FormLaws.{described_spelled}
use Rattle.gob_tool.proofs.TidiedLaws.{described_last}
use Rattle.gob_tool.proofs.received_form.push_definition.Goals as goal

pub spell_fitting-requires : goal.spell_fitting-requires
spell_fitting-requires c =
    let d = described_last c.requires in
    record { bytes = d.fits.bytes; spelled = d.fits.spelled; within = d.shallow }

pub overflow_cast-id : goal.overflow_cast-id
overflow_cast-id c = let d = described_last c.requires in omega (arith, ints, d.small)

pub overflow_sub-id : goal.overflow_sub-id
overflow_sub-id c =
    let d = described_last c.requires in
    rw (to_z_pos w64 c.args.id.0 d.small) (omega (arith, ints, d.small))

pub returns : goal.returns
returns c =
    let d = described_last c.requires in
    let spelled = c.in_ok-spell_fitting.ensures in
    record {
      bytes = c.push_content.new.text.items;
      spelled = described_spelled _ d c.requires (omega (arith, ints, d.small, d.id_is)) spelled.spelled
          (c.deref.ensures.value ∙ spelled.appended
          ∙ ap (λ (l : List ℕ). l ++ spelled.bytes) c.new-content.ensures.items) c.in_ok-push_content.ensures;
      appended = c.in_ok-extend_from_slice.ensures.items
          ∙ ap (λ (l : List ℕ). c.args.definitions.now.items ++ l) c.deref-2.ensures.value;
    }
