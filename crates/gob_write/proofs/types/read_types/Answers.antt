use Rattle.std.proofs.Common.{Ok, ap, refl, subst}
use Rattle.gob_types.specs.Defined.{Defined, types}
use Rattle.gob_stream.specs.Bounds.{Bounds, within_trees}
use Rattle.gob_stream.specs.Calls.Ends.{reader_of}
use Rattle.gob_stream.specs.Calls.Reader.{session_of}
use Rattle.gob_stream.specs.Calls.Session.{types_of}
use Rattle.gob_words.specs.Words.{text_of}
use Rattle.gob_write.specs.Types.{ReadsDefinitions, ReadsTypes}
use Rattle.gob_write.specs.declared.types.TypesFault.TheVariants as fault
use Rattle.gob_write.proofs.TypesLaws.{FindsSo, at_error, no_type_found, so_by_name, so_by_value, types_found}
use Rattle.gob_write.proofs.types.read_types.Goals.{in-Some, in-None}
use Rattle.gob_write.proofs.types.read_types.Goals as goal

pub returns-in_err-reader-clause-types : goal.returns-in_err-reader-clause-types
returns-in_err-reader-clause-types g c = λ bytes known.
    at_error (λ r. ReadsTypes (within_trees c.args.limits) bytes (g.Q.Read.remaining (reader_of c.args.input.now))
    (text_of c.args.named) c.args.lenient r) c.from_residual.result fault.Memory c.from_residual.ensures.1 tt

pub returns-in-Some-wanted-clause-types : goal.returns-in-Some-wanted-clause-types
returns-in-Some-wanted-clause-types g c = λ bytes known.
    let now = g.Q.Read.remaining (reader_of c.read_definitions.new.input) in
    let U = types_of (session_of c.read_definitions.new.reader) in
    let ds = c.read_definitions.new.definitions.items in
    let found : FindsSo U ds c.in_ok-first.first (text_of c.args.named) c.match-named.wanted =
    elim c.match-named.branch [
      | in-Some w ↦ so_by_name w.in-Some.word.now (types w.table.result.now) w.deref.result.now
          (ap text_of w.in-Some.is)
          (ap (λ (d : Defined). types d) w.table.ensures) w.deref.ensures.value w.wanted-is w.type_named-wanted.ensures
      | in-None w ↦ so_by_value (ap text_of w.in-None.is) w.wanted-is
    ] in
    types_found (record {
      definitions = c.read_definitions.new.definitions;
      id = c.in-Some-wanted.id;
      lenient = c.args.lenient;
    }) (subst (λ (K : Bounds). ReadsDefinitions (within_trees K) bytes now U ds (Ok c.in_ok-first.first))
    c.in_ok-reader.ensures.limits (c.in_ok-first.ensures.read bytes known)) found c.in-Some-wanted.is refl

pub returns-clause-types : goal.returns-clause-types
returns-clause-types g c = λ bytes known.
    let now = g.Q.Read.remaining (reader_of c.read_definitions.new.input) in
    let U = types_of (session_of c.read_definitions.new.reader) in
    let ds = c.read_definitions.new.definitions.items in
    let found : FindsSo U ds c.in_ok-first.first (text_of c.args.named) c.match-named.wanted =
    elim c.match-named.branch [
      | in-Some w ↦ so_by_name w.in-Some.word.now (types w.table.result.now) w.deref.result.now
          (ap text_of w.in-Some.is)
          (ap (λ (d : Defined). types d) w.table.ensures) w.deref.ensures.value w.wanted-is w.type_named-wanted.ensures
      | in-None w ↦ so_by_value (ap text_of w.in-None.is) w.wanted-is
    ] in
    no_type_found c.args.lenient (subst (λ (K : Bounds). ReadsDefinitions (within_trees K) bytes now U ds
    (Ok c.in_ok-first.first)) c.in_ok-reader.ensures.limits (c.in_ok-first.ensures.read bytes known)) found
    c.in-None-wanted.is
