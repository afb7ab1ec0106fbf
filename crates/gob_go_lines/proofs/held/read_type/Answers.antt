use Rattle.std.proofs.Common.{◌≡◌, arith, ap, sym, subst, rules}
use Rattle.gob_types.specs.declared.id.TypeId.{TypeId}
use Rattle.gob_types.specs.Defined.{types}
use Rattle.gob_stream.specs.Body.{MayPut}
use Rattle.gob_lines.proofs.PartLaws.{natural_once}
use Rattle.gob_lines.proofs.PutLaws.{numbered}
use Rattle.gob_go_lines.proofs.held.read_type.Goals as goal

pub returns-then-not-may_hold-clause-whole : goal.returns-then-not-may_hold-clause-whole
returns-then-not-may_hold-clause-whole c = λ id j rest may small typed said w.
    let got = c.in_ok-read_uint.ensures.ok in
    let it = natural_once c.args.tokens.now c.read_uint.new.tokens rest c.in_ok-read_uint.ensures.fits (omega arith)
    got.is got.reads typed said in
    let may_too = subst (λ (i : TypeId). MayPut (types c.args.table.now) i) (sym (ap numbered it.0)) may in
    let yes = c.may_hold.ensures.whole may_too (omega (arith, it.0)) in
    let lost = c.if-not-may_hold.true in
    grind (arith, yes, lost)

pub returns-clause-whole : goal.returns-clause-whole
returns-clause-whole c = λ id j rest may small typed said.
    let got = c.in_ok-read_uint.ensures.ok in
    let it = natural_once c.args.tokens.now c.read_uint.new.tokens rest c.in_ok-read_uint.ensures.fits (omega arith)
    got.is got.reads typed said in
    (ap numbered it.0, it.1)
