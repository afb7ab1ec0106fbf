use Rattle.std.proofs.Common.{◌++◌, ◌∙◌, List, ap, arith, w64, ℕ}
use Rattle.std.proofs.lemmas.Int.{ints, to_z_pos}
use Rattle.std.proofs.lemmas.Result.{on_ok_weaker}
use Rattle.gob_tool.proofs.TidiedLaws.{described_last, form_shallow, tidy_definition}
use Rattle.gob_tool.proofs.tidied.push_tidy_definition.Goals as goal

pub tidy-requires : goal.tidy-requires
tidy-requires c = (described_last c.requires.of_stream).fits

pub spell_fitting-spelled-requires : goal.spell_fitting-spelled-requires
spell_fitting-spelled-requires c =
    form_shallow (described_last c.requires.of_stream).shallow c.in_ok-tidied.ensures.fits

pub overflow_cast-id : goal.overflow_cast-id
overflow_cast-id c = let d = described_last c.requires.of_stream in omega (arith, ints, d.small)

pub overflow_sub-id : goal.overflow_sub-id
overflow_sub-id c =
    let d = described_last c.requires.of_stream in
    rw (to_z_pos w64 c.args.id.0 d.small) (omega (arith, ints, d.small))

pub returns : goal.returns
returns c =
    let d = described_last c.requires.of_stream in
    let spelled = c.in_ok-spelled.ensures in
    on_ok_weaker c.push_content.result (λ h.
    tidy_definition _ d (omega (arith, ints, d.small, d.id_is)) c.in_ok-tidied.ensures.tidy spelled.spelled
    (c.deref.ensures.value ∙ spelled.appended
    ∙ ap (λ (l : List ℕ). l ++ spelled.bytes) c.new-content.ensures.items) h)
    c.push_content.ensures
