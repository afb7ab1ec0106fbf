use Rattle.std.proofs.Common.{◌∙◌, arith, w64}
use Rattle.std.proofs.lemmas.Int.{ints, to_z_pos}
use Rattle.std.proofs.lemmas.Result.{on_ok_weaker}
use Rattle.gob_tool.proofs.TidiedLaws.{form_of, tape_fits, tidy_value, value_last}
use Rattle.gob_tool.proofs.tidied.push_tidy_value.Goals as goal

pub tidy_tape-requires : goal.tidy_tape-requires
tidy_tape-requires c = let s = c.requires.of_stream in tape_fits s.1 (value_last s.2)

pub overflow_cast-id : goal.overflow_cast-id
overflow_cast-id c = let s = value_last c.requires.of_stream.2 in omega (arith, ints, s.small)

pub returns : goal.returns
returns c = on_ok_weaker c.push_content.result (λ h v m last.
    let s = value_last last in
    let f = form_of m s c.in_ok-tidied.ensures.tidy c.in_ok-tidied.ensures.fits in
    tidy_value _ (to_z_pos w64 c.args.id.0 s.small) f.tidies f.spelled
    (c.deref.ensures.value ∙ c.in_ok-spelled.ensures f.form f.bytes f.means f.spelled) h)
    c.push_content.ensures
