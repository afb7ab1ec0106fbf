-- Each item that waits as a whole is passed once its text stands.
use Rattle.std.proofs.Common.{◌∙◌, ◌++◌, List, ℕ, ap, arith, refl, subst, sym}
use Rattle.gob_types.specs.Defined.{types}
use Rattle.gob_stream.specs.Calls.ReaderOf.{session_of}
use Rattle.gob_tool.specs.Texts.{IsTextBy}
use Rattle.gob_tool.proofs.TextLaws.{none_appended, one_appended, texts_fall, whole_made}
use Rattle.gob_tool.proofs.texts.pass_texts.Goals as goal

pub items-init : goal.items-init
items-init g c =
    let stands = c.requires.so_far.stands in (
      refl,
      stands,
      λ e. cc,
      λ e. (refl, refl),
      λ read now given h. none_appended g.S.Steps.stepping c.args.gathered.now.items stands h,
      c.requires.fits,
    )

pub pass-requires : goal.pass-requires
pass-requires g c =
    let w = rw c.in-Some.is at c.in_ok-used.ensures.made in
    record { between = w.item.between; item = (_, w.item.next); within = w.item.within }

pub items-preserved : goal.items-preserved
items-preserved g c =
    let i = c.items.invariant in
    let p = c.pass.ensures in
    let w = rw c.in-Some.is at c.in_ok-used.ensures.made in
    let so = c.requires.so_far in
    let a = i.4 so.read so.now so.given so.has in
    let made = whole_made g.S.Steps.stepping {of_item = g.M.TextSteps.of_item c.args.texts.now} p.stands w p.limits
    p.table p.between p.passed a.1.after in (
      p.limits ∙ i.0,
      p.stands,
      λ e. omega (arith, made.1, a.1.onward),
      λ e. cc,
      λ read now given h.
          one_appended g.S.Steps.stepping c.args.gathered.now.items p.stands (i.4 read now given h) p.limits p.table
          p.between w p.passed
          (c.in_ok-extend_from_slice.ensures.items
          ∙ ap (λ (l : List ℕ). c.items.gathered.items ++ l) c.deref.ensures.value),
      subst (λ d. g.M.TextSteps.fits c.args.texts.now c.whole_text.new.kept (types d)) (sym p.table)
          c.in_ok-used.ensures.fits,
    )

pub items-smaller : goal.items-smaller
items-smaller g c =
    let d = g.S.Steps.stepping in
    let so = c.requires.so_far in
    let p = c.pass.ensures in
    let a = c.items.invariant.4 so.read so.now so.given so.has in
    let w = rw c.in-Some.is at c.in_ok-used.ensures.made in
    let Is = IsTextBy d (g.M.TextSteps.of_item c.args.texts.now) (g.M.TextSteps.of_value c.args.texts.now) in
    let made = whole_made d {of_item = g.M.TextSteps.of_item c.args.texts.now} p.stands w p.limits p.table p.between
    p.passed a.1.after in
    texts_fall d p.stands c.items.reader (d.taken (session_of c.items.reader)) p.limits made.0.after
    made.1

pub returns-in_err-extend_from_slice-clause-passed : goal.returns-in_err-extend_from_slice-clause-passed
returns-in_err-extend_from_slice-clause-passed g c = λ read now given h.
    let a = c.items.invariant.4 read now given h in
    (a.0, a.1, c.in_err-extend_from_slice.ensures.items ∙ a.2)
