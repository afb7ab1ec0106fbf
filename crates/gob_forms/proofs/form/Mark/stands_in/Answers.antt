-- A mark stands behind an offset where what is left there begins with it.
use Rattle.std.proofs.Common.{◌++◌, length, drop, take, ap, ◌∙◌}
use Rattle.std.proofs.lemmas.List.{length-take-le}
use Rattle.std.proofs.lemmas.Bool.Decides.{Decides-eqb}
use Rattle.std.proofs.lemmas.Slice.Eq.{starts_is}
use Rattle.gob_forms.specs.Forms.{mark_in}
use Rattle.gob_forms.proofs.FormLaws.{behind, behind_mark}
use Rattle.gob_forms.proofs.form.Mark.stands_in.Goals as goal

pub returns-in-Some : goal.returns-in-Some
returns-in-Some c =
    let front = c.args.front.now in
    let at = c.args.self.now.at in
    let bytes = c.args.self.now.bytes.now in
    let rest = c.in-Some.rest.now in
    let found = c.in-Some.ensures.lookup.0 in
    let begun = starts_is Decides-eqb rest bytes c.starts_with.result c.starts_with.ensures.value in
    let whole = behind front rest at found.0 found.2 in (
      λ t. record {
        before = take at front;
        rest = drop (length bytes) rest;
        offset = length-take-le at front found.0;
        whole = whole ∙ ap (λ l. take at front ++ l) (begun.0 t);
      },
      λ s. begun.1 s.rest (behind_mark (mark_in c.args.self.now) front rest whole s found.0),
    )
