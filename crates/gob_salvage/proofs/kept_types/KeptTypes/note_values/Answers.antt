use Rattle.std.proofs.Common.{◌∙◌, ap, arith, refl, true≢false, sym}
use Rattle.std.proofs.lemmas.Int.{ints}
use Rattle.gob_salvage.proofs.NotingLaws.{NotesNumber, is_noted, not_noted, walk_on, walk_start, walked_all}
use Rattle.gob_salvage.proofs.kept_types.KeptTypes.note_values.Goals.{then-frame-last+then-frame-ge0+in_ok-insert}
use Rattle.gob_salvage.proofs.kept_types.KeptTypes.note_values.Goals.{else-frame-last}
use Rattle.gob_salvage.proofs.kept_types.KeptTypes.note_values.Goals as goal

pub values-init : goal.values-init
values-init c = record { walked = λ L T offset items a. walk_start a refl; any = refl }

pub values-preserved : goal.values-preserved
values-preserved c =
    let noted : NotesNumber c.values.self.ids.keys c.if-frame-last.self.ids.keys c.in-Some.frame.number =
    elim c.if-frame-last.branch [
      | then-frame-last+then-frame-ge0+in_ok-insert w ↦ is_noted _ _
          (ap (λ k. k.ids.keys) w.self-is ∙ w.in_ok-insert.ensures.keys) (omega (arith, ints))
      | else-frame-last w ↦ not_noted (ap (λ k. k.ids.keys) w.self-is)
    ] in
    record {
      walked = λ L T offset items a.
          walk_on (c.values.invariant.walked L T offset items a) c.in-Some.ensures.frame c.in-Some.ensures.number noted;
      any = elim c.if-frame-last.branch [
        | then-frame-last+then-frame-ge0+in_ok-insert w ↦ ap (λ k. k.any) w.self-is ∙ c.values.invariant.any
        | else-frame-last w ↦ ap (λ k. k.any) w.self-is ∙ c.values.invariant.any
      ];
    }

pub returns-in_default : goal.returns-in_default
returns-in_default c = λ L T offset items a before noted. record {
  each = walked_all (c.values.invariant.walked L T offset items a) before noted.each;
  none = λ e. absurd (true≢false (sym c.values.invariant.any ∙ e));
}

pub returns : goal.returns
returns c = λ L T offset items a before noted. record {
  each = walked_all (c.values.invariant.walked L T offset items a) before noted.each;
  none = λ e. absurd (true≢false (sym c.values.invariant.any ∙ e));
}
