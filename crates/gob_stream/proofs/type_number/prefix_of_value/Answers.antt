use Rattle.std.proofs.Common.{[], refl, subst, min}
use Rattle.gob_types.specs.Defined.{types}
use Rattle.gob_stream.specs.Machine.ReadParts.{ReadsValueIn, no_memory}
use Rattle.gob_stream.specs.Refusing.{refused_type}
use Rattle.gob_stream.specs.WriterRefusal.{RefusesType}
use Rattle.gob_stream.proofs.Reader.ValueSteps.{denied_steps, type_shown, value_begins}
use Rattle.gob_stream.proofs.type_number.prefix_of_value.Goals as goal

pub returns-in-Err : goal.returns-in-Err
returns-in-Err g c = λ offset m d a body k b s r.
    rw (c.of.ensures, ← b) (denied_steps (RefusesType (types c.args.table.now) c.args.id) c.in-Err.denial d a
    c.args.piece.now k r c.in-Err.ensures.judged
    (λ w. type_shown) (λ w y z q there. refused_type z there s q))

pub take-requires : goal.take-requires
take-requires g c = record {
  limit = min c.depth.result g.B.Builder.DEPTH;
  bytes = [];
  after = c.in-Ok.ensures (types c.args.table.now) c.in_default.ensures.judged.ready;
  order = c.requires;
}

pub returns-in-Ok : goal.returns-in-Ok
returns-in-Ok g c = λ offset m d a body k b s r.
    let p = c.in_default.ensures.judged in
    value_begins d a c.args.piece.now k s r p
    (subst (λ n. ReadsValueIn g.B.Builder.building (types c.args.table.now)
    c.args.id (min n g.B.Builder.DEPTH) c.args.rest [] c.args.piece.now c.take.result) c.depth.ensures.depth
    (c.take.ensures (min c.depth.result g.B.Builder.DEPTH) [] (c.in-Ok.ensures (types c.args.table.now) p.ready)))

pub returns-in-Err-new : goal.returns-in-Err-new
returns-in-Err-new g c = λ offset m d a body k b s r. no_memory refl
