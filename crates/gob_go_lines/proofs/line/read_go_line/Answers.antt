use Rattle.std.proofs.Common.{List, subst, sym}
use Rattle.json.specs.Token.{Token}
use Rattle.gob_types.specs.Defined.{types}
use Rattle.gob_go_lines.specs.Lines.{SaysPut}
use Rattle.gob_go_lines.proofs.line.read_go_line.Goals as goal

pub returns-in-Err-Wrong-clause-whole : goal.returns-in-Err-Wrong-clause-whole
returns-in-Err-Wrong-clause-whole c = λ id b says w.
    let whole = rw c.in-Err-Wrong.field-0-is at c.in-Err-Wrong.ensures.whole in
    whole id b (subst (λ (ts : List Token). SaysPut
    (types c.args.table.now) c.args.form.holds c.args.form.depth ts id b)
    (sym c.in_ok-tokens.ensures.ok) says) tt
