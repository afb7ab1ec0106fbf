use Rattle.std.proofs.Common.{ℕ, rules}
use Rattle.std.proofs.lemmas.List.Sorted.{answers_always}
use Rattle.gob_value.specs.declared.value.Value.{Value}
use Rattle.gob_match.proofs.PartLaws.{part_found, part_absent}
use Rattle.gob_match.proofs.receiving.part_at.Goals as goal

pub returns-in-Ok : goal.returns-in-Ok
returns-in-Ok c =
    let key : ℕ × Value → ℕ = λ p. p.0 in
    let found = c.in-Ok.ensures.position key (answers_always _ _ _ (λ f a r g called. search rules)) in
    part_found c.args.parts.now c.args.number c.in-Ok.place c.index-parts-place.result c.in-Ok.ensures.bound found

pub returns-in-Err : goal.returns-in-Err
returns-in-Err c =
    let key : ℕ × Value → ℕ = λ p. p.0 in
    let parted = c.in-Err.ensures.position key (answers_always _ _ _ (λ f a r g called. search rules)) in
    part_absent c.args.parts.now c.args.number c.in-Err.field-0 c.requires parted
