use Rattle.std.proofs.Common.{◌∙◌, ◌<◌, ◌++◌, ap, arith, codes, drop, length, refl, rules, subst, sym, take, true}
use Rattle.std.specs.Fmt.{decimal, HasWritten}
use Rattle.std.specs.List.{flat_map}
use Rattle.std.proofs.lemmas.Grind.{put_two}
use Rattle.gob_match.specs.ClashText.{path_text}
use Rattle.gob_left_out.specs.Tally.{TallyRow}
use Rattle.gob_left_out.specs.TallyText.{later_text}
use Rattle.gob_left_out.proofs.TallyTextLaws.{field_there, next_field, none_before, told_all}
use Rattle.gob_left_out.proofs.tally_text.LaterTextDisplay.fmt.Goals as goal

pub loop-place-init : goal.loop-place-init
loop-place-init g c = λ plain.
    subst (λ bs. HasWritten g.W.Write.write_str_gives c.args.f.now bs c.args.f.now)
    (sym (none_before c.args.self.now.0.now)) (search rules)

pub unreachable-requires : goal.unreachable-requires
unreachable-requires g c =
    let within : c.loop-place.place < length c.args.self.now.0.now =
    omega (arith, c.loop-place-test.true, c.min-place-end.ensures, c.len.ensures) in
    absurd (field_there c.args.self.now.0.now c.loop-place.place within c.in_default.ensures)

pub loop-place-preserved : goal.loop-place-preserved
loop-place-preserved g c = λ plain.
    let before = c.loop-place.invariant plain in
    let rows = drop 1 (take c.loop-place.place c.args.self.now.0.now) in
    let done = flat_map (λ (row : TallyRow). later_text row.1) rows in
    put_two g.W.Write.write_str_gives _ _ _ _ _ _ before (c.in_ok-write.ensures.writes before.plain (refl {a = true}))
    (ap (λ path. done ++ (codes ", " ++ (path_text path ++ (codes " of " ++ decimal c.in-Some.field.now.values))))
    c.deref.ensures.value
    ∙ next_field c.args.self.now.0.now c.loop-place.place c.in-Some.field.now c.loop-place.auto.place
    c.in-Some.ensures)

pub returns-clause-writes : goal.returns-clause-writes
returns-clause-writes g c = λ plain _.
    let told = told_all c.args.self.now.0.now c.loop-place.place c.min-place-end.result
    (omega (arith, c.min-place-end.ensures, c.len.ensures)) (omega (arith, c.loop-place-test.false))
    c.loop-place.auto.place-end in
    subst (λ rows. HasWritten g.W.Write.write_str_gives c.args.f.now
    (flat_map (λ (row : TallyRow). later_text row.1) (drop 1 rows)) c.loop-place.f) told (c.loop-place.invariant plain)
