-- The name of the struct is compared where there is one.
use Rattle.std.proofs.Common.{◌∙◌, sym}
use Rattle.std.specs.Prelude.{bytes_eq}
use Rattle.gob_rename.proofs.NameLaws.{told_of_all, told_of, both_true, first_false}
use Rattle.gob_rename.proofs.rename.Rename.tells.Goals as goal

pub returns-in-None : goal.returns-in-None
returns-in-None c = c.eq.ensures
    ∙ sym (told_of_all c.args.self.now c.args.struct_name.now c.args.field_name.now c.in-None.is)

pub returns-then-eq : goal.returns-then-eq
returns-then-eq c = c.eq-then-eq.ensures
    ∙ sym (told_of c.args.self.now c.args.struct_name.now c.args.field_name.now c.in-Some.name c.in-Some.is
    ∙ both_true (bytes_eq c.in-Some.name.now c.args.struct_name.now)
    (bytes_eq c.args.self.now.new.now c.args.field_name.now)
    (sym c.eq-in-Some.ensures ∙ c.if-eq.true))

pub returns-else-eq : goal.returns-else-eq
returns-else-eq c = c.if-eq.false
    ∙ sym (told_of c.args.self.now c.args.struct_name.now c.args.field_name.now c.in-Some.name c.in-Some.is
    ∙ first_false (bytes_eq c.in-Some.name.now c.args.struct_name.now)
    (bytes_eq c.args.self.now.new.now c.args.field_name.now)
    (sym c.eq-in-Some.ensures ∙ c.if-eq.false))
