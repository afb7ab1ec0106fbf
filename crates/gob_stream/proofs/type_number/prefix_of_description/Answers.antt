use Rattle.std.proofs.Common.{◌≡◌, [], refl, ap, min, arith}
use Rattle.gob_types.specs.Base.{base_table}
use Rattle.gob_types.specs.Defined.{types}
use Rattle.gob_types.specs.declared.denial.Denial.TheVariants as denial
use Rattle.gob_stream.specs.Bounds.{no_deeper}
use Rattle.gob_stream.specs.Machine.ReadParts.{no_memory}
use Rattle.gob_stream.specs.Refusing.{refused_id}
use Rattle.gob_stream.specs.WriterRefusal.{RefusesId}
use Rattle.gob_stream.proofs.Reader.DescriptionSteps.{wire_ready_in}
use Rattle.gob_stream.proofs.Reader.ValueSteps.{denied_steps}
use Rattle.gob_stream.proofs.Reader.DefinitionSteps.{id_shown, description_begins}
use Rattle.gob_stream.proofs.type_number.prefix_of_description.Goals as goal

pub returns-in-Err : goal.returns-in-Err
returns-in-Err g c = λ offset m n d a body k b i s r.
    let L = no_deeper g.B.Builder.DEPTH c.args.around.now.limits in
    rw (c.refusal.ensures, ← b) (denied_steps (RefusesId base_table L (types c.args.table.now) c.args.id)
    (denial.Refused c.in-Err.reason) d a c.args.piece.now k r (c.in-Err.ensures.judged L c.requires.known.most)
    (λ w. id_shown) (λ w y z q there. refused_id z there i s q))

pub take-requires-clause-has_read : goal.take-requires-clause-has_read
take-requires-clause-has_read g c = record {
  limit = min c.min-depth.result 1000;
  bytes = [];
  after = c.in-Ok.ensures (types c.args.table.now) (wire_ready_in c.requires.known.base);
  order = c.requires.order;
}

pub take-requires-clause-keeps : goal.take-requires-clause-keeps
take-requires-clause-keeps g c = c.requires.known.base

pub returns-in-Ok : goal.returns-in-Ok
returns-in-Ok g c = λ offset m n d a body k b i s r.
    let L = no_deeper g.B.Builder.DEPTH c.args.around.now.limits in
    let e : c.min-depth.result ≡ L.depth = omega (
      arith,
      c.min-depth.ensures,
      c.DEPTH.ensures,
      c.depth-depth.ensures.depth,
    ) in
    description_begins d a c.args.piece.now k i s r (c.in_default.ensures.judged L c.requires.known.most)
    c.requires.known.base (ap (λ d. min d 1000) e)
    (c.take.ensures (min c.min-depth.result 1000) [] (c.in-Ok.ensures (types c.args.table.now)
    (wire_ready_in c.requires.known.base)))

pub returns-in-Err-new : goal.returns-in-Err-new
returns-in-Err-new g c = λ offset m n d a body k b i s r. no_memory refl
