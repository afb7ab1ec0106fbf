-- Part by part more is written, and less is left.
use Rattle.std.proofs.Common.{◌≡◌, ◌∙◌, ◌+◌, ◌<◌, ◌≤◌, ℕ, ap, sym, subst, Option, Some, None, List, Result, refl, arith}
use Rattle.std.specs.Prelude.{unwrap_or}
use Rattle.std.specs.Option.{IfSome}
use Rattle.json.specs.Written.{Written}
use Rattle.serde_json.specs.Data.{array}
use Rattle.gob_types.specs.Table.{shape_of}
use Rattle.gob_read.specs.Weight.{part_count, parts_of_all, parts_of_pairs, parts_of_fields}
use Rattle.gob_tape.specs.Seeing.{Gives, elements, alternating, present, parts_of, nodes_from}
use Rattle.gob_json.specs.Json.{key_type, text_json}
use Rattle.gob_json_writer.specs.NilsJson.{value_json_with, elements_json_with, pairs_json_with, fields_json_with}
use Rattle.gob_json_writer.specs.NilsJson.{interface_front}
use Rattle.gob_json_writer.specs.Nils.{HeldShows}
use Rattle.gob_json_writer.specs.WritesJson.{WritesTokens}
use Rattle.gob_types.specs.declared.id.TypeId.{TypeId}
use Rattle.gob_json_writer.proofs.TapeLaws.{next_is, none_fewer, still_fewer, within_left, elements_begun, elements_on}
use Rattle.gob_json_writer.proofs.TapeLaws.{elements_end, null_written, held_written}
use Rattle.gob_json_writer.proofs.TapeLaws.{fields_begun, fields_on, fields_end, entries_begun, key_turn, element_turn}
use Rattle.gob_json_writer.proofs.TapeLaws.{entries_end, leaf_seen, leaf_holds_none, as_many}
use Rattle.gob_json_writer.proofs.TapeLaws.{as_pairs, as_fields, as_nil, field_json_with}
use Rattle.gob_json_writer.proofs.WrittenLaws.{one_written, both_written, same_written, none_written_of, none_on}
use Rattle.gob_json_writer.proofs.WrittenLaws.{on_ok_of, on_counted, with_nils, no_more_levels}
use Rattle.gob_json_writer.specs.declared.held.Held.{Held}
use Rattle.gob_json_writer.proofs.tape_json.+part.Invariants.{measure, nil_measure}
use Rattle.gob_json_writer.proofs.tape_json.+part.Goals as goal
use Rattle.gob_json_writer.proofs.tape_json.+part.Goals.{write_entries-then-is_key+in_ok-begin_array-2+in_ok-write_part}
use Rattle.gob_json_writer.proofs.tape_json.+part.Goals.{write_entries-else-is_key+in_ok-write_part-2+in_ok-end_array}

same_front : {E : Type 0} {r : Result (Unit {0}) E} {old new : Written} {name shown : List ℕ}
    (id : TypeId) → shown ≡ name
    → WritesTokens r old new (interface_front shown id) → WritesTokens r old new (interface_front name id)
same_front {r = r} {old = old} {new = new} id e w =
    subst (λ name. WritesTokens r old new (interface_front name id)) e w

-- the number behind a value that has parts
counted : (n parts : ℕ) {all : ℕ} → all ≡ parts + 1 → n + 1 + parts ≡ n + all
counted n parts e = omega (arith, e)

pub write_elements-loop-part-init : goal.write_elements-loop-part-init
write_elements-loop-part-init g t c =
    let same = c.into_iter-part-iterator.ensures.into_iter_gives in record {
      next = tt;
      finite = tt;
      before = c.in_ok-begin_array.ensures.room.0;
      fewer = none_fewer same;
      levels = omega arith;
      written = λ vs N n h s.
          elements_begun n vs (one_written c.in_ok-begin_array.ensures)
          (subst (λ p. Gives p (elements vs)) (sym same) h) s;
    }

pub write_elements-loop-part-preserved : goal.write_elements-loop-part-preserved
write_elements-loop-part-preserved g t c = record {
  next = tt;
  finite = tt;
  before = c.in_ok-write_part.ensures.written.before ∙ c.loop-part.invariant.before;
  fewer = still_fewer c.next.ensures.steps c.in-Some.is c.loop-part.invariant.fewer;
  levels = omega (arith, c.in_ok-write_part.ensures.fewer, c.loop-part.invariant.levels);
  written = λ vs N n h s. elements_on (c.loop-part.invariant.written vs N n h s)
      (next_is c.next.ensures.steps c.in-Some.is) c.in_ok-write_part.ensures.written;
}

pub write_elements-returns : goal.write_elements-returns
write_elements-returns g t c = record {
  written = record {
    before = c.end_array.ensures.room.0 ∙ c.loop-part.invariant.before;
    each = λ vs N n h s. elements_end (c.loop-part.invariant.written vs N n h s)
        (next_is c.next.ensures.steps c.in-None.is) (one_written c.end_array.ensures);
  };
  fewer = c.loop-part.invariant.levels;
}

pub write_elements-returns-in_err-begin_array : goal.write_elements-returns-in_err-begin_array
write_elements-returns-in_err-begin_array g t c = record {
  written = none_on c.from_residual.ensures.0 c.begin_array.ensures.room.0;
  fewer = omega arith;
}

pub write_elements-returns-in_err-write_part : goal.write_elements-returns-in_err-write_part
write_elements-returns-in_err-write_part g t c = record {
  written = none_on c.from_residual-in_err-write_part.ensures.0
      (c.write_part.ensures.written.before ∙ c.loop-part.invariant.before);
  fewer = omega (arith, c.write_part.ensures.fewer, c.loop-part.invariant.levels);
}

pub write_entries-loop-part-init : goal.write_entries-loop-part-init
write_entries-loop-part-init g t c =
    let same = c.into_iter-part-iterator.ensures.into_iter_gives in record {
      next = tt;
      finite = tt;
      before = c.in_ok-begin_array.ensures.room.0;
      fewer = none_fewer same;
      levels = omega arith;
      written = λ ps N n h s. entries_begun n ps (one_written c.in_ok-begin_array.ensures)
          (subst (λ p. Gives p (alternating ps)) (sym same) h) s;
    }

pub write_entries-loop-part-preserved : goal.write_entries-loop-part-preserved
write_entries-loop-part-preserved g t c =
    let T = g.S.Shapes.table c.args.table.now in record {
      next = tt;
      finite = tt;
      before = elim c.if-is_key.branch [
        | write_entries-then-is_key+in_ok-begin_array-2+in_ok-write_part w ↦ ap (λ (o : Written). o.before) w.out-is
            ∙ w.in_ok-write_part.ensures.written.before ∙ w.in_ok-begin_array-2.ensures.room.0
            ∙ c.loop-part.invariant.before
        | write_entries-else-is_key+in_ok-write_part-2+in_ok-end_array w ↦ ap (λ (o : Written). o.before) w.out-is
            ∙ w.in_ok-end_array.ensures.room.0 ∙ w.in_ok-write_part-2.ensures.written.before
            ∙ c.loop-part.invariant.before
      ];
      fewer = still_fewer c.next.ensures.steps c.in-Some.is c.loop-part.invariant.fewer;
      levels = elim c.if-is_key.branch [
        | write_entries-then-is_key+in_ok-begin_array-2+in_ok-write_part w ↦
            no_more_levels g.N.Nils.levels w.nils-is w.in_ok-write_part.ensures.fewer c.loop-part.invariant.levels
        | write_entries-else-is_key+in_ok-write_part-2+in_ok-end_array w ↦
            no_more_levels g.N.Nils.levels w.nils-is w.in_ok-write_part-2.ensures.fewer c.loop-part.invariant.levels
      ];
      written = λ ps N n h s. elim c.if-is_key.branch [
        | write_entries-then-is_key+in_ok-begin_array-2+in_ok-write_part w ↦
            key_turn w.out-is w.if-is_key.true (c.loop-part.invariant.written ps N n h s)
            (next_is c.next.ensures.steps c.in-Some.is)
            (one_written w.in_ok-begin_array-2.ensures)
            (with_nils (g.N.Nils.shows T) w.nils-is w.in_ok-write_part.ensures.written)
        | write_entries-else-is_key+in_ok-write_part-2+in_ok-end_array w ↦
            element_turn w.out-is w.if-is_key.false (c.loop-part.invariant.written ps N n h s)
            (next_is c.next.ensures.steps c.in-Some.is)
            (with_nils (g.N.Nils.shows T) w.nils-is w.in_ok-write_part-2.ensures.written)
            (one_written w.in_ok-end_array.ensures)
      ];
    }

pub write_entries-returns : goal.write_entries-returns
write_entries-returns g t c = record {
  written = record {
    before = c.end_array-2.ensures.room.0 ∙ c.loop-part.invariant.before;
    each = λ ps N n h s. entries_end (c.loop-part.invariant.written ps N n h s)
        (next_is c.next.ensures.steps c.in-None.is) (one_written c.end_array-2.ensures);
  };
  fewer = c.loop-part.invariant.levels;
}

pub write_entries-returns-in_err-begin_array : goal.write_entries-returns-in_err-begin_array
write_entries-returns-in_err-begin_array g t c = record {
  written = none_on c.from_residual.ensures.0 c.begin_array.ensures.room.0;
  fewer = omega arith;
}

pub write_entries-returns-in_err-begin_array-2 : goal.write_entries-returns-in_err-begin_array-2
write_entries-returns-in_err-begin_array-2 g t c = record {
  written = none_on c.from_residual-in_err-begin_array-2.ensures.0
      (c.begin_array-then-is_key.ensures.room.0 ∙ c.loop-part.invariant.before);
  fewer = c.loop-part.invariant.levels;
}

pub write_entries-returns-in_err-write_part : goal.write_entries-returns-in_err-write_part
write_entries-returns-in_err-write_part g t c = record {
  written = none_on c.from_residual-in_err-write_part.ensures.0
      (c.write_part.ensures.written.before ∙ c.in_ok-begin_array-2.ensures.room.0 ∙ c.loop-part.invariant.before);
  fewer = omega (arith, c.write_part.ensures.fewer, c.loop-part.invariant.levels);
}

pub write_entries-returns-in_err-write_part-2 : goal.write_entries-returns-in_err-write_part-2
write_entries-returns-in_err-write_part-2 g t c = record {
  written = none_on c.from_residual-in_err-write_part-2.ensures.0
      (c.write_part-else-is_key.ensures.written.before ∙ c.loop-part.invariant.before);
  fewer = omega (arith, c.write_part-else-is_key.ensures.fewer, c.loop-part.invariant.levels);
}

pub write_entries-returns-in_err-end_array : goal.write_entries-returns-in_err-end_array
write_entries-returns-in_err-end_array g t c = record {
  written = none_on c.from_residual-in_err-end_array.ensures.0
      (c.end_array.ensures.room.0 ∙ c.in_ok-write_part-2.ensures.written.before ∙ c.loop-part.invariant.before);
  fewer = omega (arith, c.in_ok-write_part-2.ensures.fewer, c.loop-part.invariant.levels);
}

pub write_fields-loop-part-init : goal.write_fields-loop-part-init
write_fields-loop-part-init g t c =
    let same = c.into_iter-part-iterator.ensures.into_iter_gives in record {
      next = tt;
      finite = tt;
      before = c.in_ok-begin_array.ensures.room.0;
      fewer = none_fewer same;
      levels = omega arith;
      written = λ fs N n h s. fields_begun n fs (one_written c.in_ok-begin_array.ensures)
          (subst (λ p. Gives p (present fs)) (sym same) h) s;
    }

pub write_fields-loop-part-preserved : goal.write_fields-loop-part-preserved
write_fields-loop-part-preserved g t c =
    let T = g.S.Shapes.table c.args.table.now in
    let types = c.args.types.now in
    let number_is = c.unwrap_or-number.result in
    let begun = c.in_ok-begin_array-2.ensures in
    let number = c.in_ok-u64.ensures in
    let text = c.in_ok-write_text.ensures in
    let shown = c.in_ok-write_part.ensures.written in
    let ended = c.in_ok-end_array.ensures in record {
      next = tt;
      finite = tt;
      before = ended.room.0 ∙ shown.before ∙ text.before ∙ number.room.0 ∙ begun.room.0 ∙ c.loop-part.invariant.before;
      fewer = still_fewer c.next.ensures.steps c.in-Some.is c.loop-part.invariant.fewer;
      levels = omega (arith, c.in_ok-write_part.ensures.fewer, c.loop-part.invariant.levels);
      written = λ fs N n h s.
          fields_on (c.loop-part.invariant.written fs N n h s) (next_is c.next.ensures.steps c.in-Some.is)
          (record {
            each = λ f n v p s.
                let is : number_is ≡ f = c.unwrap_or-number.ensures
                ∙ ap (λ o. unwrap_or o 0) (c.field.ensures (Some f) v p) in
                let value = shown.each v N n (Some f, p) s in (
                  same_written (ap (λ m. field_json_with N T types n m v) is)
                      (both_written (one_written begun) (both_written (one_written number)
                      (both_written (same_written (ap text_json c.name_at.ensures) text)
                      (both_written (same_written (ap (λ e. value_json_with N T e n v) c.type_at.ensures) value.0)
                      (one_written ended))))),
                  value.1,
                );
          });
    }

pub write_fields-returns : goal.write_fields-returns
write_fields-returns g t c = record {
  written = record {
    before = c.end_array-2.ensures.room.0 ∙ c.loop-part.invariant.before;
    each = λ fs N n h s. fields_end (c.loop-part.invariant.written fs N n h s)
        (next_is c.next.ensures.steps c.in-None.is) (one_written c.end_array-2.ensures);
  };
  fewer = c.loop-part.invariant.levels;
}

pub write_fields-returns-in_err-begin_array : goal.write_fields-returns-in_err-begin_array
write_fields-returns-in_err-begin_array g t c = record {
  written = none_on c.from_residual.ensures.0 c.begin_array.ensures.room.0;
  fewer = omega arith;
}

pub write_fields-returns-in_err-begin_array-2 : goal.write_fields-returns-in_err-begin_array-2
write_fields-returns-in_err-begin_array-2 g t c = record {
  written = none_on c.from_residual-in_err-begin_array-2.ensures.0
      (c.begin_array-in-loop-part.ensures.room.0 ∙ c.loop-part.invariant.before);
  fewer = c.loop-part.invariant.levels;
}

pub write_fields-returns-in_err-u64 : goal.write_fields-returns-in_err-u64
write_fields-returns-in_err-u64 g t c = record {
  written = none_on c.from_residual-in_err-u64.ensures.0
      (c.u64.ensures.room.0 ∙ c.in_ok-begin_array-2.ensures.room.0 ∙ c.loop-part.invariant.before);
  fewer = c.loop-part.invariant.levels;
}

pub write_fields-returns-in_err-write_text : goal.write_fields-returns-in_err-write_text
write_fields-returns-in_err-write_text g t c = record {
  written = none_on c.from_residual-in_err-write_text.ensures.0
      (c.write_text.ensures.before ∙ c.in_ok-u64.ensures.room.0 ∙ c.in_ok-begin_array-2.ensures.room.0
      ∙ c.loop-part.invariant.before);
  fewer = c.loop-part.invariant.levels;
}

pub write_fields-returns-in_err-write_part : goal.write_fields-returns-in_err-write_part
write_fields-returns-in_err-write_part g t c = record {
  written = none_on c.from_residual-in_err-write_part.ensures.0
      (c.write_part.ensures.written.before ∙ c.in_ok-write_text.ensures.before ∙ c.in_ok-u64.ensures.room.0
      ∙ c.in_ok-begin_array-2.ensures.room.0 ∙ c.loop-part.invariant.before);
  fewer = omega (arith, c.write_part.ensures.fewer, c.loop-part.invariant.levels);
}

pub write_fields-returns-in_err-end_array : goal.write_fields-returns-in_err-end_array
write_fields-returns-in_err-end_array g t c = record {
  written = none_on c.from_residual-in_err-end_array.ensures.0
      (c.end_array.ensures.room.0 ∙ c.in_ok-write_part.ensures.written.before ∙ c.in_ok-write_text.ensures.before
      ∙ c.in_ok-u64.ensures.room.0 ∙ c.in_ok-begin_array-2.ensures.room.0 ∙ c.loop-part.invariant.before);
  fewer = omega (arith, c.in_ok-write_part.ensures.fewer, c.loop-part.invariant.levels);
}

pub write_part-returns-in-Many : goal.write_part-returns-in-Many
write_part-returns-in-Many g t c =
    let T = g.S.Shapes.table c.args.table.now in record {
      written = record {
        before = c.write_elements.ensures.written.before;
        each = λ v N n s from.
            let a = as_many v (sym c.in-Many.is ∙ c.kind.ensures s.0 v s.1) in
            let passed = c.in_ok-held.ensures.shown T N n from in
            let w = c.write_elements.ensures.written.each a.parts N (n + 1)
            (subst (λ v. Gives c.children-parts.result (parts_of v)) a.is (c.children-parts.ensures.parts s.0 v s.1))
            passed.1 in (
              same_written
                  (ap (λ e. array (elements_json_with N T e (n + 1) a.parts)) c.element_of.ensures
                  ∙ ap (value_json_with N T c.args.id n) (sym a.is)) w.0,
              on_counted c.write_elements.result (g.N.Nils.shows T c.write_elements.new.nils N)
                  (counted n (parts_of_all a.parts) (ap part_count a.is)) w.1,
            );
      };
      fewer = omega (arith, c.write_elements.ensures.fewer, c.in_ok-held.ensures.fewer);
    }

pub write_part-returns-in-Pairs : goal.write_part-returns-in-Pairs
write_part-returns-in-Pairs g t c =
    let T = g.S.Shapes.table c.args.table.now in record {
      written = record {
        before = c.write_entries.ensures.written.before;
        each = λ v N n s from.
            let a = as_pairs v (sym c.in-Pairs.is ∙ c.kind.ensures s.0 v s.1) in
            let passed = c.in_ok-held.ensures.shown T N n from in
            let w = c.write_entries.ensures.written.each a.parts N (n + 1)
            (subst (λ v. Gives c.children-parts.result (parts_of v)) a.is (c.children-parts.ensures.parts s.0 v s.1))
            passed.1 in (
              same_written
                  (ap (λ k. array (pairs_json_with N T k c.element_of-in-Pairs.result (n + 1) a.parts)) c.key_of.ensures
                  ∙ ap (λ e. array (pairs_json_with N T (key_type (shape_of T c.args.id)) e (n + 1) a.parts))
                  c.element_of-in-Pairs.ensures
                  ∙ ap (value_json_with N T c.args.id n) (sym a.is)) w.0,
              on_counted c.write_entries.result (g.N.Nils.shows T c.write_entries.new.nils N)
                  (counted n (parts_of_pairs a.parts) (ap part_count a.is)) w.1,
            );
      };
      fewer = omega (arith, c.write_entries.ensures.fewer, c.in_ok-held.ensures.fewer);
    }

pub write_part-returns-in-Fields : goal.write_part-returns-in-Fields
write_part-returns-in-Fields g t c =
    let T = g.S.Shapes.table c.args.table.now in record {
      written = record {
        before = c.write_fields.ensures.written.before;
        each = λ v N n s from.
            let a = as_fields v (sym c.in-Fields.is ∙ c.kind.ensures s.0 v s.1) in
            let passed = c.in_ok-held.ensures.shown T N n from in
            let w = c.write_fields.ensures.written.each a.parts N (n + 1)
            (subst (λ v. Gives c.children-parts.result (parts_of v)) a.is (c.children-parts.ensures.parts s.0 v s.1))
            passed.1 in (
              same_written
                  (ap (λ l. array (fields_json_with N T l (n + 1) a.parts)) c.fields_of.ensures
                  ∙ ap (value_json_with N T c.args.id n) (sym a.is)) w.0,
              on_counted c.write_fields.result (g.N.Nils.shows T c.write_fields.new.nils N)
                  (counted n (parts_of_fields a.parts) (ap part_count a.is)) w.1,
            );
      };
      fewer = omega (arith, c.write_fields.ensures.fewer, c.in_ok-held.ensures.fewer);
    }

pub write_part-returns-in-Nil : goal.write_part-returns-in-Nil
write_part-returns-in-Nil g t c =
    let T = g.S.Shapes.table c.args.table.now in record {
      written = record {
        before = c.write_nil.ensures.before;
        each = λ v N n s from.
            let is = as_nil v (sym c.in-Nil.is ∙ c.kind.ensures s.0 v s.1) in
            let passed = c.in_ok-held.ensures.shown T N n from in (
              same_written (ap (value_json_with N T c.args.id n) (sym is)) (c.write_nil.ensures.each (N n) passed.0),
              on_counted c.write_nil.result (g.N.Nils.shows T c.pass.new.self N)
                  (ap (λ v. n + part_count v) (sym is)) (on_ok_of c.write_nil.result passed.1),
            );
      };
      fewer = c.in_ok-held.ensures.fewer;
    }

pub write_part-returns-in_default : goal.write_part-returns-in_default
write_part-returns-in_default g t c =
    let T = g.S.Shapes.table c.args.table.now in record {
      written = record {
        before = c.write_leaf.ensures.before;
        each = λ v N n s from.
            let passed = c.in_ok-held.ensures.shown T N n from in
            let none = leaf_holds_none N T c.args.id n v c.kind.result (c.kind.ensures s.0 v s.1)
            c.in_default.not-Many c.in_default.not-Pairs c.in_default.not-Fields c.in_default.not-Nil in
            let seen = leaf_seen T c.args.id v c.kind.result c.numbers-first.result c.bytes.result.now
            (c.kind.ensures s.0 v s.1) (c.numbers-first.ensures s.0 v s.1) (c.bytes.ensures s.0 v s.1)
            c.in_default.not-Many c.in_default.not-Pairs c.in_default.not-Fields in (
              same_written (seen ∙ none.0) c.write_leaf.ensures,
              on_counted c.write_leaf.result (g.N.Nils.shows T c.pass.new.self N)
                  (ap (λ k. n + k) (sym none.1)) (on_ok_of c.write_leaf.result passed.1),
            );
      };
      fewer = c.in_ok-held.ensures.fewer;
    }

pub write_part-returns-in_err-held : goal.write_part-returns-in_err-held
write_part-returns-in_err-held g t c = record {
  written = none_on c.from_residual.ensures.0 refl;
  fewer = c.pass.ensures.fewer;
}

-- what is within other parts counts for less, and what an interface holds for less than what holds it
less : {levels before nodes left : ℕ} → levels ≤ before → nodes ≤ left → measure levels nodes < measure before left + 1
less a b = omega (arith, a, b)

less_within : {levels before nodes left : ℕ} → levels ≤ before → nodes < left
    → measure levels nodes + 1 < measure before left
less_within a b = omega (arith, a, b)

less_held : {X : Type 0} (levels : X → ℕ) (held : Option (Held X)) (before : ℕ) {nodes : ℕ}
    → IfSome held (λ h. levels h.nils < before) → 0 < nodes → nil_measure levels held < measure before nodes
less_held levels None before h p = omega (arith, p)
less_held levels (Some held) before h p = omega (arith, p, h)

pub write_elements-write_part-requires : goal.write_elements-write_part-requires
write_elements-write_part-requires g t c =
    let within = within_left c.next.ensures.steps c.in-Some.is in
    let i = c.loop-part.invariant in
    λ κs l. (omega (arith, c.decreases, within, i.levels, i.fewer), (l.0, l.1))

pub write_part-write_elements-requires : goal.write_part-write_elements-requires
write_part-write_elements-requires g t c =
    λ κs l. (omega (arith, c.decreases, c.pass.ensures.fewer, c.children-parts.ensures.fewer), (l.0, l.1))

pub write_part-write_nil-requires : goal.write_part-write_nil-requires
write_part-write_nil-requires g t c =
    let some : 0 < nodes_from c.args.part = omega (arith, c.children-parts.ensures.fewer) in
    let h = less_held g.N.Nils.levels c.in_ok-held.held (g.N.Nils.levels c.args.nils.now)
    c.in_ok-held.ensures.inner some in
    λ κs l. (omega (arith, c.decreases, h), (l.0, l.1))

pub write_part-write_entries-requires : goal.write_part-write_entries-requires
write_part-write_entries-requires g t c =
    λ κs l. (omega (arith, c.decreases, c.pass.ensures.fewer, c.children-parts.ensures.fewer), (l.0, l.1))

pub write_part-write_fields-requires : goal.write_part-write_fields-requires
write_part-write_fields-requires g t c =
    λ κs l. (omega (arith, c.decreases, c.pass.ensures.fewer, c.children-parts.ensures.fewer), (l.0, l.1))

pub write_entries-write_part-requires : goal.write_entries-write_part-requires
write_entries-write_part-requires g t c =
    let within = within_left c.next.ensures.steps c.in-Some.is in
    let i = c.loop-part.invariant in
    λ κs l. (omega (arith, c.decreases, within, i.levels, i.fewer), (l.0, l.1))

pub write_entries-write_part-requires-else-is_key : goal.write_entries-write_part-requires-else-is_key
write_entries-write_part-requires-else-is_key g t c =
    let within = within_left c.next.ensures.steps c.in-Some.is in
    let i = c.loop-part.invariant in
    λ κs l. (omega (arith, c.decreases, within, i.levels, i.fewer), (l.0, l.1))

pub write_fields-write_part-requires : goal.write_fields-write_part-requires
write_fields-write_part-requires g t c =
    let within = within_left c.next.ensures.steps c.in-Some.is in
    let i = c.loop-part.invariant in
    λ κs l. (omega (arith, c.decreases, within, i.levels, i.fewer), (l.0, l.1))

pub write_nil-write_part-requires : goal.write_nil-write_part-requires
write_nil-write_part-requires g t c =
    let is = ap (nil_measure g.N.Nils.levels) c.in-Some.is in
    λ κs l. (omega (arith, c.decreases, is, c.nodes-nodes.ensures, c.nodes-nodes.type_inv), (l.0, l.1))

pub write_nil-returns : goal.write_nil-returns
write_nil-returns g t c =
    let T = g.S.Shapes.table c.args.table.now in
    let held = c.in-Some.field-0 in record {
      before = c.end_object-2.ensures.room.0 ∙ c.in_ok-end_object.ensures.room.0
          ∙ c.in_ok-write_part.ensures.written.before ∙ c.in_ok-write_front.ensures.before;
      each = λ json h.
          held_written (subst (λ x. HeldShows g.N.Nils.shows T x json) c.in-Some.is h)
          (same_front held.id c.deref.ensures.value c.in_ok-write_front.ensures)
          (λ v N m s. (c.in_ok-write_part.ensures.written.each v N 0 (None, c.root-root.ensures v m) s).0)
          (one_written c.in_ok-end_object.ensures) (one_written c.end_object-2.ensures);
    }

pub write_nil-returns-in_default : goal.write_nil-returns-in_default
write_nil-returns-in_default g t c =
    let T = g.S.Shapes.table c.args.table.now in record {
      before = c.null.ensures.room.0;
      each = λ json h. null_written
          (subst (λ x. HeldShows g.N.Nils.shows T x json) c.in_default.is h) (one_written c.null.ensures);
    }

pub write_nil-returns-in_err-write_front : goal.write_nil-returns-in_err-write_front
write_nil-returns-in_err-write_front g t c = none_written_of c.from_residual.ensures.0 c.write_front.ensures.before

pub write_nil-returns-in_err-write_part : goal.write_nil-returns-in_err-write_part
write_nil-returns-in_err-write_part g t c =
    none_written_of c.from_residual-in_err-write_part.ensures.0
    (c.write_part.ensures.written.before ∙ c.in_ok-write_front.ensures.before)

pub write_nil-returns-in_err-end_object : goal.write_nil-returns-in_err-end_object
write_nil-returns-in_err-end_object g t c =
    none_written_of c.from_residual-in_err-end_object.ensures.0
    (c.end_object.ensures.room.0 ∙ c.in_ok-write_part.ensures.written.before ∙ c.in_ok-write_front.ensures.before)
