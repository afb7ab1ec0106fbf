-- What was spelled by the base table is a spelling for a new writer, which has that table.
use Rattle.std.proofs.Common.{◌≡◌, ◌++◌, ◌≤◌, arith, sym, ap, ◌∙◌, subst}
use Rattle.gob_types.specs.declared.id.TypeId.{TypeId}
use Rattle.gob_types.specs.Defined.{types}
use Rattle.gob_value.specs.Spelling.{Spells}
use Rattle.gob_value.specs.Tree.{depth}
use Rattle.gob_value.specs.View.{view}
use Rattle.gob_stream.specs.Calls.Writing.{writer_types}
use Rattle.gob_stream_tests.proofs.values.put_spelled.Goals as goal

pub put_spelled-requires : goal.put_spelled-requires
put_spelled-requires g c =
    let t : TypeId = record { 0 = c.args.id } in
    let v = view c.args.value.now in
    let spelled = c.in_ok-spell.ensures.ok in
    let new = c.in_ok-writer.ensures in
    let bytes : spelled.bytes ≡ c.deref.result.now = sym (c.deref.ensures.value ∙ spelled.appended
    ∙ ap (λ l. l ++ spelled.bytes) c.new-spelling.ensures.items) in
    let base : types c.in_ok-table.table ≡ writer_types c.in_ok-writer.writer = c.in_ok-table.ensures.base
    ∙ sym new.nothing.table in
    let limit = ap (λ L. L.depth) (new.limits ∙ c.standard.ensures) in
    record {
      value = v;
      spelled = λ ready. (
        subst (λ T. Spells T t v c.deref.result.now) base (subst (λ b. Spells (types c.in_ok-table.table) t v b)
            bytes spelled.spelled),
        omega (arith, limit, c.in_ok-spell.ensures.within),
      );
    }
