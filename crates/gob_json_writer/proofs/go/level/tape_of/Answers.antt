use Rattle.std.proofs.Common.{ℕ, ◌≤◌, arith, ◌≡◌, List, [], refl, length, take, subst}
use Rattle.std.proofs.lemmas.List.{length-take-le, take_all}
use Rattle.gob_types.specs.Defined.{types}
use Rattle.gob_types.specs.Table.{Table}
use Rattle.gob_types.specs.declared.id.TypeId.{TypeId}
use Rattle.gob_value.specs.Tree.{Tree}
use Rattle.gob_value.specs.Top.{SpellsTop}
use Rattle.gob_value.proofs.PublicLaws.{same_top}
use Rattle.gob_read.specs.Calls.Reader.{IsMade}
use Rattle.gob_read.proofs.PublicLaws.{usable}
use Rattle.gob_tape.specs.Flat.{Flat}
use Rattle.gob_tape.specs.Meaning.{Means}
use Rattle.gob_json_writer.proofs.go.level.tape_of.Goals as goal

-- a tape that is made of as many bytes as the body has is one of the value that the body spells
made_of_body : {T : Table} {t : TypeId} {limit used : ℕ} {body : List ℕ} {tape : Flat} → used ≤ length body
    → IsMade T t limit (length body) Means tape (take used body)
    → (v : Tree) → SpellsTop T t v body → Means tape v
made_of_body {T = T} {t = t} {used = used} {body = body} {tape = tape} within m v s =
    let count = length-take-le used body within in
    let all : take used body ≡ body = take_all used body (omega (arith, m.all, count)) in
    let made = subst (λ z. SpellsTop T t m.value z) all m.spelled in
    subst (Means tape) (same_top [] [] made s refl).value m.meant

pub push-requires : goal.push-requires
push-requires c =
    let after = c.in_ok-reader.ensures (types c.args.table.now) c.requires in
    usable (record { limit = _; announced = _; bytes = []; after = after })

pub returns-in-Ok-Done : goal.returns-in-Ok-Done
returns-in-Ok-Done c =
    let after = c.in_ok-reader.ensures (types c.args.table.now) c.requires in
    let given = c.in-Ok-Done.ensures.given c.args.id 65536 (length c.args.skeleton.now) [] after in
    let ends = rw c.in-Ok-Done.field-0-is at given in
    made_of_body ends.within ends.made
