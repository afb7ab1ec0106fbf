-- Each level says the value.
use Rattle.std.proofs.Common.{◌≡◌, ◌∙◌, ◌+◌, ◌∷◌, ◌++◌, List, ap, drop, refl, sym, subst}
use Rattle.std.proofs.lemmas.List.{at_drop_more, drop_all}
use Rattle.gob_types.specs.Defined.{types}
use Rattle.gob_plain.specs.declared.go.level.HeldText.{HeldText}
use Rattle.gob_go.specs.declared.filled.Filled.{out-Filled}
use Rattle.gob_go.specs.declared.filled.Filling.{Filling}
use Rattle.gob_value.specs.Tree.{Tree}
use Rattle.gob_value.specs.Top.{SpellsTop}
use Rattle.gob_tape.specs.Meaning.{Means}
use Rattle.gob_json_writer.specs.Gaps.{AreGaps}
use Rattle.gob_plain.specs.Fillers.{AreFillers}
use Rattle.gob_plain.specs.Machine.Parting.{AreParted}
use Rattle.gob_plain.specs.Machine.Placing.{AllFit, AreIn, IsTag}
use Rattle.gob_plain.proofs.HeldPlainLaws.{FitWithRest, TapeText, all_fit, fit_more, held_fits, held_in, level_said}
use Rattle.gob_plain.proofs.HeldPlainLaws.{some_said}
use Rattle.gob_plain.proofs.PartingLaws.{texts_fill}
use Rattle.gob_plain.proofs.go.text.+text.Goals as goal

pub held_by-returns : goal.held_by-returns
held_by-returns t c =
    held_fits c.of.ensures.name c.of.ensures.level
    (subst (λ b. IsTag c.args.tagged b c.tag_of-name.result) c.deref.ensures.value c.tag_of-name.ensures)
    c.in_ok-level.ensures.some (λ w q. c.in_ok-level.ensures.said w q)

pub all_held-loop-filling-init : goal.all_held-loop-filling-init
all_held-loop-filling-init t c = λ more h.
    subst (λ (l : List HeldText). AllFit c.args.tagged c.args.style (types c.args.table.now)
    (out-Filled c.args.value.now).fillings.items (l ++ more)) (sym c.in_ok-all.ensures.items) h

pub all_held-loop-filling-preserved : goal.all_held-loop-filling-preserved
all_held-loop-filling-preserved t c =
    let T = types c.args.table.now in
    let all = (out-Filled c.args.value.now).fillings.items in
    let items = c.deref-filling-items.result.now in
    let same : items ≡ all = c.deref-filling-items.ensures.value in
    let i = c.loop-filling.filling-index in
    let kept = c.filling-item.result in
    let held = c.loop-filling.all.items in
    let rest : drop i items ≡ kept ∷ drop (i + 1) items =
    at_drop_more (λ (l : List Filling). l) items i kept c.loop-filling-test.true
    ∙ ap (λ k. k ∷ drop (i + 1) items) (sym c.filling-item.is) in
    subst (λ (l : List Filling). FitWithRest c.args.tagged c.args.style T (drop (i + 1) l) all c.push.new.self.items)
    same
    (fit_more held
    (subst (λ (r : List Filling). FitWithRest c.args.tagged c.args.style T r all held)
    (ap (λ (l : List Filling). drop i l) (sym same) ∙ rest) c.loop-filling.invariant)
    c.in_ok-push.ensures.items c.in_ok-held.ensures)

pub all_held-returns : goal.all_held-returns
all_held-returns t c =
    let all = (out-Filled c.args.value.now).fillings.items in
    let items = c.deref-filling-items.result.now in
    let i = c.loop-filling.filling-index in
    all_fit
    (subst (λ (r : List Filling). FitWithRest c.args.tagged c.args.style (types c.args.table.now) r all
    c.loop-filling.all.items)
    (ap (λ (l : List Filling). drop i l) (sym c.deref-filling-items.ensures.value)
    ∙ drop_all i items c.loop-filling-test.false) c.loop-filling.invariant)

pub level_of-tape_of-requires : goal.level_of-tape_of-requires
level_of-tape_of-requires t c = c.if-not-kept.ensures.0 refl

pub level_of-gaps_of-requires : goal.level_of-gaps_of-requires
level_of-gaps_of-requires t c = c.if-not-kept.ensures.0 refl

pub level_of-bare_level-requires-clause-kept : goal.level_of-bare_level-requires-clause-kept
level_of-bare_level-requires-clause-kept t c = c.if-not-kept.ensures.0 refl

pub level_of-plain_text_with-requires : goal.level_of-plain_text_with-requires
level_of-plain_text_with-requires t c =
    let placed = c.in_ok-texts.ensures in
    subst AreFillers (sym c.deref-6.ensures.value) (texts_fill placed.2 (held_in placed.1 c.in_ok-held.ensures))

pub level_of-returns-clause-said : goal.level_of-returns-clause-said
level_of-returns-clause-said t c =
    let T = types c.args.table.now in
    let id = c.args.id in
    let value = out-Filled c.args.value.now in
    let held = c.in_ok-held.held.items in
    let placed = c.in_ok-texts.ensures in
    let tape = c.in_ok-tape.tape in
    let texts = c.deref-6.result.now in
    let gaps : AreGaps T id value.skeleton.items 0 value.fillings.items c.in_ok-gaps.gaps.items =
    subst (λ b. AreGaps T id b 0 value.fillings.items c.in_ok-gaps.gaps.items) c.deref-2.ensures.value
    (subst (λ (l : List Filling). AreGaps T id c.deref-2.result.now 0 l c.in_ok-gaps.gaps.items)
    c.deref-3.ensures.value c.in_ok-gaps.ensures) in
    let into : AreIn 0 c.in_ok-nils.nils.items c.in_ok-gaps.gaps.items held placed.0 =
    subst (λ l. AreIn 0 l c.in_ok-gaps.gaps.items held placed.0) c.deref-4.ensures.value
    (subst (λ l. AreIn 0 c.deref-4.result.now l held placed.0) c.deref-5.ensures.value placed.1) in
    level_said {value = c.args.value.now} {texts = texts} c.of.result
    (subst (λ b. (v : Tree) → SpellsTop T id v b → Means tape v) c.deref.ensures.value c.in_ok-tape.ensures)
    c.in_ok-nils.ensures gaps
    (subst (λ style. AllFit c.args.tagged style T value.fillings.items held) c.within.ensures c.in_ok-held.ensures) into
    (subst (λ l. AreParted placed.0 texts l) (sym c.of.ensures.held)
    (subst (λ l. AreParted placed.0 l c.in_ok-texts.field-0.held.items) (sym c.deref-6.ensures.value) placed.2))
    (subst (TapeText c.args.style T id tape texts) (sym c.of.ensures.text) c.in_ok-text.ensures)

pub level_of-returns-clause-some : goal.level_of-returns-clause-some
level_of-returns-clause-some t c =
    let T = types c.args.table.now in
    let placed = c.in_ok-texts.ensures in
    let texts = c.deref-6.result.now in
    let some = c.depth-depth.ensures.some in
    some_said c.args.style T c.args.id {texts = texts} c.of.result
    (subst (λ l. AreParted placed.0 texts l) (sym c.of.ensures.held)
    (subst (λ l. AreParted placed.0 l c.in_ok-texts.field-0.held.items) (sym c.deref-6.ensures.value) placed.2))
    (held_in placed.1 c.in_ok-held.ensures) some.value
    (subst (TapeText c.args.style T c.args.id c.in_ok-tape.tape texts) (sym c.of.ensures.text) c.in_ok-text.ensures
    some.value some.means)
