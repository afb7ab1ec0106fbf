-- Part by part more is written, and less is left.
use Rattle.std.proofs.Common.{◌≡◌, ◌∙◌, ◌+◌, ◌-◌, ◌^◌, ap, sym, subst, Some, Ok, arith, min, refl, rules, true}
use Rattle.std.specs.Prelude.{unwrap_or}
use Rattle.std.specs.declared.alloc.AllocError.{AllocError}
use Rattle.std.proofs.lemmas.Result.{on_ok_weaker}
use Rattle.json.specs.Written.{Written}
use Rattle.gob_types.specs.Table.{shape_of}
use Rattle.gob_value.specs.Tree.{Pairs}
use Rattle.gob_tape.specs.declared.kind.ValueKind.TheVariants as kind
use Rattle.gob_tape.specs.Seeing.{Gives, elements, alternating, present, parts_of}
use Rattle.gob_json.specs.Json.{element_type}
use Rattle.gob_json_writer.proofs.TapeLaws.{next_is, none_fewer, still_fewer, as_many, as_pairs, as_fields}
use Rattle.gob_json_writer.proofs.WrittenLaws.{one_written}
use Rattle.gob_plain.specs.declared.maps.MapForm.TheVariants as form
use Rattle.gob_plain.specs.AbsentFields.{AbsentTokens}
use Rattle.gob_plain.specs.Filled.{nils_in, nils_of_each_in, nils_of_map_in, nils_of_fields_in, SaysInWith}
use Rattle.gob_plain.specs.Filled.{SaysElementsIn, SaysMapIn, SaysStructIn}
use Rattle.gob_plain.specs.OpaqueText.{SaysOpaque, content_in}
use Rattle.gob_plain.specs.Plain.{are_bare}
use Rattle.gob_plain.specs.Machine.Naming.{FormFits}
use Rattle.gob_plain.specs.WritesPlain.{WritesSome, AreBehind}
use Rattle.gob_plain.proofs.StyleLaws.{many_in, map_in, struct_in, many_nils, map_nils, struct_nils}
use Rattle.gob_plain.proofs.SomeLaws.{some_weaker}
use Rattle.gob_plain.proofs.PartLaws.{elements_begun, elements_on, elements_end, elements_passed, fields_begun}
use Rattle.gob_plain.proofs.PartLaws.{fields_on}
use Rattle.gob_plain.proofs.PartLaws.{fields_end, fields_passed, members_begun, name_turn, value_turn, members_say}
use Rattle.gob_plain.proofs.PartLaws.{members_end, members_passed, pairs_begun, key_turn, element_turn, pairs_say}
use Rattle.gob_plain.proofs.PartLaws.{pairs_end, pairs_passed, field_some, field_passed, leaf_says, leaf_passed}
use Rattle.gob_plain.proofs.PartLaws.{nil_says, nil_passed, opaque_says}
use Rattle.gob_plain.proofs.TextLaws.{texts_begun, text_turn, named_turn, texts_say, texts_end, texts_passed}
use Rattle.gob_plain.proofs.FormLaws.{map_named, map_texts, map_pairs, named_nils, other_nils}
use Rattle.gob_plain.proofs.plain.+part.Goals as goal
use Rattle.gob_plain.proofs.plain.+part.Goals.{write_members-then-is_key+in_ok-write_key}
use Rattle.gob_plain.proofs.plain.+part.Goals.{write_members-else-is_key+in_ok-write_part}
use Rattle.gob_plain.proofs.plain.+part.Goals.{write_texts-then-is_key+in_ok-write_name}
use Rattle.gob_plain.proofs.plain.+part.Goals.{write_texts-else-is_key+in_ok-write_part}
use Rattle.gob_plain.proofs.plain.+part.Goals.{write_pairs-then-is_key+in_ok-begin_array-2+in_ok-write_part}
use Rattle.gob_plain.proofs.plain.+part.Goals.{write_pairs-else-is_key+in_ok-write_part-2+in_ok-end_array}

pub write_elements-loop-part-init : goal.write_elements-loop-part-init
write_elements-loop-part-init g t c =
    let same = c.into_iter-part-iterator.ensures.into_iter_gives in record {
      next = tt;
      finite = tt;
      before = c.in_ok-begin_array.ensures.room.0;
      fewer = none_fewer same;
      fit = c.requires;
      written = λ vs h.
          elements_begun (g.N.NilTexts.says c.args.nils.now) vs (one_written c.in_ok-begin_array.ensures)
          (subst (λ p. Gives p (elements vs)) (sym same) h);
    }

pub write_elements-loop-part-preserved : goal.write_elements-loop-part-preserved
write_elements-loop-part-preserved g t c = record {
  next = tt;
  finite = tt;
  before = c.in_ok-write_part.ensures.said.written.before ∙ c.loop-part.invariant.before;
  fewer = still_fewer c.next.ensures.steps c.in-Some.is c.loop-part.invariant.fewer;
  fit = c.in_ok-write_part.ensures.fit;
  written = λ vs h. elements_on (g.N.NilTexts.says c.args.nils.now) (g.N.NilTexts.says c.loop-part.nils)
      (g.N.NilTexts.says c.write_part.new.nils) (c.loop-part.invariant.written vs h)
      (next_is c.next.ensures.steps c.in-Some.is) c.in_ok-write_part.ensures.said;
}

pub write_elements-returns-clause-said : goal.write_elements-returns-clause-said
write_elements-returns-clause-said g t c = record {
  written = record {
    before = c.end_array.ensures.room.0 ∙ c.loop-part.invariant.before;
    each = λ vs h. elements_end (g.N.NilTexts.says c.args.nils.now) (g.N.NilTexts.says c.loop-part.nils)
        (c.loop-part.invariant.written vs h) (next_is c.next.ensures.steps c.in-None.is)
        (one_written c.end_array.ensures);
  };
  passed = λ vs h. on_ok_weaker c.end_array.result
      (λ _. elements_passed (g.N.NilTexts.says c.args.nils.now) (g.N.NilTexts.says c.loop-part.nils)
      (c.loop-part.invariant.written vs h) (next_is c.next.ensures.steps c.in-None.is)) c.end_array.ensures.ok;
}

pub write_pairs-loop-part-init : goal.write_pairs-loop-part-init
write_pairs-loop-part-init g t c =
    let same = c.into_iter-part-iterator.ensures.into_iter_gives in record {
      next = tt;
      finite = tt;
      before = c.in_ok-begin_array.ensures.room.0;
      fewer = none_fewer same;
      fit = c.requires;
      written = λ ps h. pairs_begun (g.N.NilTexts.says c.args.nils.now) ps (one_written c.in_ok-begin_array.ensures)
          (subst (λ p. Gives p (alternating ps))
          (sym same) h);
    }

pub write_pairs-loop-part-preserved : goal.write_pairs-loop-part-preserved
write_pairs-loop-part-preserved g t c = record {
  next = tt;
  finite = tt;
  before = elim c.if-is_key.branch [
    | write_pairs-then-is_key+in_ok-begin_array-2+in_ok-write_part w ↦ ap (λ (o : Written). o.before) w.out-is
        ∙ w.in_ok-write_part.ensures.said.written.before ∙ w.in_ok-begin_array-2.ensures.room.0
        ∙ c.loop-part.invariant.before
    | write_pairs-else-is_key+in_ok-write_part-2+in_ok-end_array w ↦ ap (λ (o : Written). o.before) w.out-is
        ∙ w.in_ok-end_array.ensures.room.0 ∙ w.in_ok-write_part-2.ensures.said.written.before
        ∙ c.loop-part.invariant.before
  ];
  fewer = still_fewer c.next.ensures.steps c.in-Some.is c.loop-part.invariant.fewer;
  fit = elim c.if-is_key.branch [
    | write_pairs-then-is_key+in_ok-begin_array-2+in_ok-write_part w ↦
        subst g.N.NilTexts.fit (sym w.nils-is) w.in_ok-write_part.ensures.fit
    | write_pairs-else-is_key+in_ok-write_part-2+in_ok-end_array w ↦
        subst g.N.NilTexts.fit (sym w.nils-is) w.in_ok-write_part-2.ensures.fit
  ];
  written = λ ps h. elim c.if-is_key.branch [
    | write_pairs-then-is_key+in_ok-begin_array-2+in_ok-write_part w ↦
        pairs_say g.N.NilTexts.says (g.N.NilTexts.says c.args.nils.now) w.nils-is
        (key_turn (g.N.NilTexts.says c.args.nils.now) (g.N.NilTexts.says c.loop-part.nils)
        (g.N.NilTexts.says w.write_part.new.nils) w.out-is w.if-is_key.true (c.loop-part.invariant.written ps h)
        (next_is c.next.ensures.steps c.in-Some.is)
        (one_written w.in_ok-begin_array-2.ensures) w.in_ok-write_part.ensures.said)
    | write_pairs-else-is_key+in_ok-write_part-2+in_ok-end_array w ↦
        pairs_say g.N.NilTexts.says (g.N.NilTexts.says c.args.nils.now) w.nils-is
        (element_turn (g.N.NilTexts.says c.args.nils.now) (g.N.NilTexts.says c.loop-part.nils)
        (g.N.NilTexts.says w.write_part-else-is_key.new.nils) w.out-is w.if-is_key.false
        (c.loop-part.invariant.written ps h)
        (next_is c.next.ensures.steps c.in-Some.is)
        w.in_ok-write_part-2.ensures.said (one_written w.in_ok-end_array.ensures))
  ];
}

pub write_pairs-returns-clause-said : goal.write_pairs-returns-clause-said
write_pairs-returns-clause-said g t c = record {
  written = record {
    before = c.end_array-2.ensures.room.0 ∙ c.loop-part.invariant.before;
    each = λ ps h. pairs_end (g.N.NilTexts.says c.args.nils.now) (g.N.NilTexts.says c.loop-part.nils)
        (c.loop-part.invariant.written ps h) (next_is c.next.ensures.steps c.in-None.is)
        (one_written c.end_array-2.ensures);
  };
  passed = λ ps h. on_ok_weaker c.end_array-2.result
      (λ _. pairs_passed (g.N.NilTexts.says c.args.nils.now) (g.N.NilTexts.says c.loop-part.nils)
      (c.loop-part.invariant.written ps h) (next_is c.next.ensures.steps c.in-None.is)) c.end_array-2.ensures.ok;
}

pub write_members-loop-part-init : goal.write_members-loop-part-init
write_members-loop-part-init g t c =
    let same = c.into_iter-part-iterator.ensures.into_iter_gives in record {
      next = tt;
      finite = tt;
      before = c.in_ok-begin_object.ensures.room.0;
      fewer = none_fewer same;
      fit = c.requires;
      written = λ ps h. members_begun (g.N.NilTexts.says c.args.nils.now) ps (one_written c.in_ok-begin_object.ensures)
          (subst (λ p. Gives p (alternating ps)) (sym same) h);
    }

pub write_members-loop-part-preserved : goal.write_members-loop-part-preserved
write_members-loop-part-preserved g t c = record {
  next = tt;
  finite = tt;
  before = elim c.if-is_key.branch [
    | write_members-then-is_key+in_ok-write_key w ↦ ap (λ (o : Written). o.before) w.out-is
        ∙ w.in_ok-write_key.ensures.before ∙ c.loop-part.invariant.before
    | write_members-else-is_key+in_ok-write_part w ↦ ap (λ (o : Written). o.before) w.out-is
        ∙ w.in_ok-write_part.ensures.said.written.before ∙ c.loop-part.invariant.before
  ];
  fewer = still_fewer c.next.ensures.steps c.in-Some.is c.loop-part.invariant.fewer;
  fit = elim c.if-is_key.branch [
    | write_members-then-is_key+in_ok-write_key w ↦
        subst g.N.NilTexts.fit (sym w.nils-is) c.loop-part.invariant.fit
    | write_members-else-is_key+in_ok-write_part w ↦
        subst g.N.NilTexts.fit (sym w.nils-is) w.in_ok-write_part.ensures.fit
  ];
  written = λ ps h. elim c.if-is_key.branch [
    | write_members-then-is_key+in_ok-write_key w ↦
        members_say g.N.NilTexts.says (g.N.NilTexts.says c.args.nils.now) w.nils-is
        (name_turn (g.N.NilTexts.says c.args.nils.now) (g.N.NilTexts.says c.loop-part.nils) w.out-is w.if-is_key.true
        (c.loop-part.invariant.written ps h) (next_is c.next.ensures.steps c.in-Some.is)
        w.in_ok-write_key.ensures.name)
    | write_members-else-is_key+in_ok-write_part w ↦
        members_say g.N.NilTexts.says (g.N.NilTexts.says c.args.nils.now) w.nils-is
        (value_turn (g.N.NilTexts.says c.args.nils.now) (g.N.NilTexts.says c.loop-part.nils)
        (g.N.NilTexts.says w.write_part.new.nils) w.out-is w.if-is_key.false
        (c.loop-part.invariant.written ps h) (next_is c.next.ensures.steps c.in-Some.is)
        w.in_ok-write_part.ensures.said)
  ];
}

pub write_members-returns-clause-said : goal.write_members-returns-clause-said
write_members-returns-clause-said g t c = record {
  written = record {
    before = c.end_object.ensures.room.0 ∙ c.loop-part.invariant.before;
    each = λ ps h. members_end (g.N.NilTexts.says c.args.nils.now) (g.N.NilTexts.says c.loop-part.nils)
        (c.loop-part.invariant.written ps h) (next_is c.next.ensures.steps c.in-None.is)
        (one_written c.end_object.ensures);
  };
  passed = λ ps h. on_ok_weaker c.end_object.result
      (λ _. members_passed (g.N.NilTexts.says c.args.nils.now) (g.N.NilTexts.says c.loop-part.nils)
      (c.loop-part.invariant.written ps h) (next_is c.next.ensures.steps c.in-None.is)) c.end_object.ensures.ok;
}

pub write_texts-loop-part-init : goal.write_texts-loop-part-init
write_texts-loop-part-init g t c =
    let same = c.into_iter-part-iterator.ensures.into_iter_gives in record {
      next = tt;
      finite = tt;
      before = c.in_ok-begin_object.ensures.room.0;
      fewer = none_fewer same;
      fit = c.requires.fit;
      written = λ ps h. texts_begun (g.N.NilTexts.says c.args.nils.now) ps (one_written c.in_ok-begin_object.ensures)
          (subst (λ p. Gives p (alternating ps)) (sym same) h) (c.requires.bare ps h);
    }

pub write_texts-loop-part-preserved : goal.write_texts-loop-part-preserved
write_texts-loop-part-preserved g t c = record {
  next = tt;
  finite = tt;
  before = elim c.if-is_key.branch [
    | write_texts-then-is_key+in_ok-write_name w ↦ ap (λ (o : Written). o.before) w.out-is
        ∙ w.in_ok-write_name.ensures.written.before ∙ c.loop-part.invariant.before
    | write_texts-else-is_key+in_ok-write_part w ↦ ap (λ (o : Written). o.before) w.out-is
        ∙ w.in_ok-write_part.ensures.said.written.before ∙ c.loop-part.invariant.before
  ];
  fewer = still_fewer c.next.ensures.steps c.in-Some.is c.loop-part.invariant.fewer;
  fit = elim c.if-is_key.branch [
    | write_texts-then-is_key+in_ok-write_name w ↦
        subst g.N.NilTexts.fit (sym w.nils-is) w.in_ok-write_name.ensures.fit
    | write_texts-else-is_key+in_ok-write_part w ↦
        subst g.N.NilTexts.fit (sym w.nils-is) w.in_ok-write_part.ensures.fit
  ];
  written = λ ps h. elim c.if-is_key.branch [
    | write_texts-then-is_key+in_ok-write_name w ↦
        texts_say g.N.NilTexts.says (g.N.NilTexts.says c.args.nils.now) w.nils-is
        (text_turn (g.N.NilTexts.says c.args.nils.now) (g.N.NilTexts.says c.loop-part.nils)
        (g.N.NilTexts.says w.write_name.new.self) w.out-is w.if-is_key.true (c.loop-part.invariant.written ps h)
        (next_is c.next.ensures.steps c.in-Some.is) w.in_ok-write_name.ensures.written
        w.in_ok-write_name.ensures.passed)
    | write_texts-else-is_key+in_ok-write_part w ↦
        texts_say g.N.NilTexts.says (g.N.NilTexts.says c.args.nils.now) w.nils-is
        (named_turn (g.N.NilTexts.says c.args.nils.now) (g.N.NilTexts.says c.loop-part.nils)
        (g.N.NilTexts.says w.write_part.new.nils) w.out-is w.if-is_key.false
        (c.loop-part.invariant.written ps h) (next_is c.next.ensures.steps c.in-Some.is)
        w.in_ok-write_part.ensures.said)
  ];
}

pub write_texts-returns-clause-said : goal.write_texts-returns-clause-said
write_texts-returns-clause-said g t c = record {
  written = record {
    before = c.end_object.ensures.room.0 ∙ c.loop-part.invariant.before;
    each = λ ps h. texts_end (g.N.NilTexts.says c.args.nils.now) (g.N.NilTexts.says c.loop-part.nils)
        (c.loop-part.invariant.written ps h) (next_is c.next.ensures.steps c.in-None.is)
        (one_written c.end_object.ensures);
  };
  passed = λ ps h. on_ok_weaker c.end_object.result
      (λ _. texts_passed (g.N.NilTexts.says c.args.nils.now) (g.N.NilTexts.says c.loop-part.nils)
      (c.loop-part.invariant.written ps h) (next_is c.next.ensures.steps c.in-None.is)) c.end_object.ensures.ok;
}

pub write_map-write_texts-requires : goal.write_map-write_texts-requires
write_map-write_texts-requires g t c =
    let style = c.args.style in
    let T = g.S.Shapes.table c.args.table.now in
    let k = c.args.types.key in
    let e = c.args.types.element in
    let N = g.N.NilTexts.says c.args.nils.now in
    let bare : (ps : Pairs) → Gives c.args.parts (alternating ps) → are_bare ps ≡ true =
    λ ps h. (subst (λ f. FormFits f N style T k e ps) c.in-NamedByTexts.is (c.in_ok-form_of.ensures style T e ps h)).1
    in search (rules, bare)

pub write_map-returns-in-Named-clause-said : goal.write_map-returns-in-Named-clause-said
write_map-returns-in-Named-clause-said g t c =
    let style = c.args.style in
    let T = g.S.Shapes.table c.args.table.now in
    let k = c.args.types.key in
    let e = c.args.types.element in
    let N = g.N.NilTexts.says c.args.nils.now in
    let fits : (ps : Pairs) → Gives c.args.parts (alternating ps) → FormFits form.Named N style T k e ps =
    λ ps h. subst (λ f. FormFits f N style T k e ps) c.in-Named.is (c.in_ok-form_of.ensures style T e ps h) in
    record {
      written = record {
        before = c.write_members.ensures.said.written.before;
        each = λ ps h. some_weaker (λ ts p. (p.0, map_named N style T k e ps p.0 (fits ps h) p.1, p.2))
            (c.write_members.ensures.said.written.each ps h);
      };
      passed = λ ps h. on_ok_weaker c.write_members.result
          (λ b. subst (λ n. AreBehind n N (g.N.NilTexts.says c.write_members.new.nils))
          (named_nils style T k e ps (fits ps h)) b)
          (c.write_members.ensures.said.passed ps h);
    }

pub write_map-returns-in-NamedByTexts-clause-said : goal.write_map-returns-in-NamedByTexts-clause-said
write_map-returns-in-NamedByTexts-clause-said g t c =
    let style = c.args.style in
    let T = g.S.Shapes.table c.args.table.now in
    let k = c.args.types.key in
    let e = c.args.types.element in
    let N = g.N.NilTexts.says c.args.nils.now in
    let fits : (ps : Pairs) → Gives c.args.parts (alternating ps) → FormFits form.NamedByTexts N style T k e ps =
    λ ps h. subst (λ f. FormFits f N style T k e ps) c.in-NamedByTexts.is (c.in_ok-form_of.ensures style T e ps h) in
    record {
      written = record {
        before = c.write_texts.ensures.said.written.before;
        each = λ ps h. some_weaker (λ ts p. (p.0, map_texts N style T k e ps p.0 (fits ps h) p.1, p.2))
            (c.write_texts.ensures.said.written.each ps h);
      };
      passed = λ ps h. on_ok_weaker c.write_texts.result
          (λ b. subst (λ n. AreBehind n N (g.N.NilTexts.says c.write_texts.new.nils))
          (other_nils style T k e ps (fits ps h).0) b)
          (c.write_texts.ensures.said.passed ps h);
    }

pub write_map-returns-in-Pairs-clause-said : goal.write_map-returns-in-Pairs-clause-said
write_map-returns-in-Pairs-clause-said g t c =
    let style = c.args.style in
    let T = g.S.Shapes.table c.args.table.now in
    let k = c.args.types.key in
    let e = c.args.types.element in
    let N = g.N.NilTexts.says c.args.nils.now in
    let fits : (ps : Pairs) → Gives c.args.parts (alternating ps) → FormFits form.Pairs N style T k e ps =
    λ ps h. subst (λ f. FormFits f N style T k e ps) c.in-Pairs.is (c.in_ok-form_of.ensures style T e ps h) in
    record {
      written = record {
        before = c.write_pairs.ensures.said.written.before;
        each = λ ps h. some_weaker (λ ts p. (p.0, map_pairs N style T k e ps p.0 (fits ps h) p.1, p.2))
            (c.write_pairs.ensures.said.written.each ps h);
      };
      passed = λ ps h. on_ok_weaker c.write_pairs.result
          (λ b. subst (λ n. AreBehind n N (g.N.NilTexts.says c.write_pairs.new.nils))
          (other_nils style T k e ps (fits ps h).0) b)
          (c.write_pairs.ensures.said.passed ps h);
    }

pub write_fields-loop-part-init : goal.write_fields-loop-part-init
write_fields-loop-part-init g t c =
    let same = c.into_iter-part-iterator.ensures.into_iter_gives in record {
      next = tt;
      finite = tt;
      before = c.in_ok-begin_object.ensures.room.0;
      fewer = none_fewer same;
      fit = c.requires;
      count = refl;
      small = search rules;
      written = λ fs h.
          fields_begun (g.N.NilTexts.says c.args.nils.now) fs (one_written c.in_ok-begin_object.ensures) (subst
          (λ p. Gives p (present fs)) (sym same) h);
    }

pub write_fields-loop-part-preserved : goal.write_fields-loop-part-preserved
write_fields-loop-part-preserved g t c =
    let style = c.args.style in
    let T = g.S.Shapes.table c.args.table.now in
    let types = c.args.types.now in
    let n = c.unwrap_or-number.result in
    let absent = c.in_ok-write_absent.ensures in
    let name = c.in_ok-write_name.ensures in
    let shown = c.in_ok-write_part.ensures.said in record {
      next = tt;
      finite = tt;
      before = shown.written.before ∙ name.before ∙ absent.before ∙ c.loop-part.invariant.before;
      fewer = still_fewer c.next.ensures.steps c.in-Some.is c.loop-part.invariant.fewer;
      fit = c.in_ok-write_part.ensures.fit;
      count = c.loop-part.invariant.count;
      small = c.loop-part.invariant.small;
      written = λ fs h.
          fields_on (g.N.NilTexts.says c.args.nils.now) (g.N.NilTexts.says c.loop-part.nils)
          (g.N.NilTexts.says c.write_part.new.nils)
          (omega (arith, c.loop-part.invariant.count, c.loop-part.invariant.small))
          (c.loop-part.invariant.written fs h) (next_is c.next.ensures.steps c.in-Some.is)
          (λ f v s.
          let is : n ≡ f = c.unwrap_or-number.ensures ∙ ap (λ o. unwrap_or o 0) (c.field.ensures (Some f) v s) in (
            c.saturating_add-next.ensures ∙ ap (λ n. min (n + 1) (2 ^ 64 - 1)) is,
            subst
                (λ f. WritesSome {E = AllocError} (Ok c.in_ok-write_absent.field-0) c.loop-part.out
                c.write_absent.new.out (AbsentTokens style T types c.loop-part.next f))
                is absent,
            field_some (g.N.NilTexts.says c.loop-part.nils) style T types v is c.name_at.ensures c.type_at.ensures name
                (shown.written.each v (Some f, s)),
            field_passed (g.N.NilTexts.says c.loop-part.nils) (g.N.NilTexts.says c.write_part.new.nils) style T types v
                is c.type_at.ensures (shown.passed v (Some f, s)),
          ));
    }

pub write_fields-returns-clause-said : goal.write_fields-returns-clause-said
write_fields-returns-clause-said g t c = record {
  written = record {
    before = c.end_object.ensures.room.0 ∙ c.in_ok-write_absent-2.ensures.before ∙ c.loop-part.invariant.before;
    each = λ fs h. fields_end (g.N.NilTexts.says c.args.nils.now) (g.N.NilTexts.says c.loop-part.nils)
        (c.loop-part.invariant.written fs h) (next_is c.next.ensures.steps c.in-None.is)
        c.in_ok-write_absent-2.ensures (one_written c.end_object.ensures);
  };
  passed = λ fs h. on_ok_weaker c.end_object.result
      (λ _. fields_passed (g.N.NilTexts.says c.args.nils.now) (g.N.NilTexts.says c.loop-part.nils)
      (c.loop-part.invariant.written fs h) (next_is c.next.ensures.steps c.in-None.is)) c.end_object.ensures.ok;
}

pub write_part-returns-in-Nil-clause-said : goal.write_part-returns-in-Nil-clause-said
write_part-returns-in-Nil-clause-said g t c =
    let style = c.args.style in
    let T = g.S.Shapes.table c.args.table.now in
    let N = g.N.NilTexts.says c.args.nils.now in record {
      written = record {
        before = c.write_nil.ensures.written.before;
        each = λ v s.
            some_weaker
            (λ ts p. (
              p.0,
              nil_says N style T c.args.id v p.0 (sym c.in-Nil.is ∙ c.kind.ensures s.0 v s.1) p.1,
              p.2,
            ))
            c.write_nil.ensures.written;
      };
      passed = λ v s. on_ok_weaker c.write_nil.result
          (λ b. nil_passed N (g.N.NilTexts.says c.write_nil.new.self) style T c.args.id v
          (sym c.in-Nil.is ∙ c.kind.ensures s.0 v s.1) b)
          c.write_nil.ensures.passed;
    }

pub write_part-returns-in-Many-clause-said : goal.write_part-returns-in-Many-clause-said
write_part-returns-in-Many-clause-said g t c =
    let style = c.args.style in
    let T = g.S.Shapes.table c.args.table.now in
    let N = g.N.NilTexts.says c.args.nils.now in record {
      written = record {
        before = c.write_elements.ensures.said.written.before;
        each = λ v s.
            let a = as_many v (sym c.in-Many.is ∙ c.kind.ensures s.0 v s.1) in
            some_weaker
            (λ ts p. (
              p.0,
              subst (λ v. SaysInWith N style T c.args.id v p.0) (sym a.is)
                  (many_in N style T c.args.id a.parts p.0
                  (subst (λ e. SaysElementsIn N style T e a.parts p.0) c.element_of.ensures p.1)),
              p.2,
            ))
            (c.write_elements.ensures.said.written.each a.parts
            (subst (λ v. Gives c.children-parts.result (parts_of v)) a.is (c.children-parts.ensures.parts s.0 v s.1)));
      };
      passed = λ v s.
          let a = as_many v (sym c.in-Many.is ∙ c.kind.ensures s.0 v s.1) in
          on_ok_weaker c.write_elements.result
          (λ b. subst (λ n. AreBehind n N (g.N.NilTexts.says c.write_elements.new.nils))
          (ap (λ e. nils_of_each_in style T e a.parts) c.element_of.ensures
          ∙ sym (many_nils style T c.args.id a.parts)
          ∙ ap (λ v. nils_in style T c.args.id v) (sym a.is)) b)
          (c.write_elements.ensures.said.passed a.parts
          (subst (λ v. Gives c.children-parts.result (parts_of v)) a.is (c.children-parts.ensures.parts s.0 v s.1)));
    }

pub write_part-returns-in-Pairs-clause-said : goal.write_part-returns-in-Pairs-clause-said
write_part-returns-in-Pairs-clause-said g t c =
    let style = c.args.style in
    let T = g.S.Shapes.table c.args.table.now in
    let types = c.entry_types.ensures in
    let N = g.N.NilTexts.says c.args.nils.now in record {
      written = record {
        before = c.write_map.ensures.said.written.before;
        each = λ v s.
            let a = as_pairs v (sym c.in-Pairs.is ∙ c.kind.ensures s.0 v s.1) in
            some_weaker
            (λ ts p. (
              p.0,
              subst (λ v. SaysInWith N style T c.args.id v p.0) (sym a.is)
                  (map_in N style T c.args.id a.parts p.0
                  (subst (λ k. SaysMapIn N style T k (element_type (shape_of T c.args.id)) a.parts p.0)
                  types.key
                  (subst (λ e. SaysMapIn N style T c.entry_types.result.key e a.parts p.0)
                  types.element p.1))),
              p.2,
            ))
            (c.write_map.ensures.said.written.each a.parts
            (subst (λ v. Gives c.children-parts.result (parts_of v)) a.is (c.children-parts.ensures.parts s.0 v s.1)));
      };
      passed = λ v s.
          let a = as_pairs v (sym c.in-Pairs.is ∙ c.kind.ensures s.0 v s.1) in
          on_ok_weaker c.write_map.result
          (λ b. subst (λ n. AreBehind n N (g.N.NilTexts.says c.write_map.new.nils))
          (ap (λ e. nils_of_map_in style T c.entry_types.result.key e a.parts) types.element
          ∙ ap (λ k. nils_of_map_in style T k (element_type (shape_of T c.args.id)) a.parts) types.key
          ∙ sym (map_nils style T c.args.id a.parts)
          ∙ ap (λ v. nils_in style T c.args.id v) (sym a.is)) b)
          (c.write_map.ensures.said.passed a.parts
          (subst (λ v. Gives c.children-parts.result (parts_of v)) a.is (c.children-parts.ensures.parts s.0 v s.1)));
    }

pub write_part-returns-in-Fields-clause-said : goal.write_part-returns-in-Fields-clause-said
write_part-returns-in-Fields-clause-said g t c =
    let style = c.args.style in
    let T = g.S.Shapes.table c.args.table.now in
    let N = g.N.NilTexts.says c.args.nils.now in record {
      written = record {
        before = c.write_fields.ensures.said.written.before;
        each = λ v s.
            let a = as_fields v (sym c.in-Fields.is ∙ c.kind.ensures s.0 v s.1) in
            some_weaker
            (λ ts p. (
              p.0,
              subst (λ v. SaysInWith N style T c.args.id v p.0) (sym a.is)
                  (struct_in N style T c.args.id a.parts p.0
                  (subst (λ l. SaysStructIn N style T l a.parts p.0) c.fields_of.ensures p.1)),
              p.2,
            ))
            (c.write_fields.ensures.said.written.each a.parts
            (subst (λ v. Gives c.children-parts.result (parts_of v)) a.is (c.children-parts.ensures.parts s.0 v s.1)));
      };
      passed = λ v s.
          let a = as_fields v (sym c.in-Fields.is ∙ c.kind.ensures s.0 v s.1) in
          on_ok_weaker c.write_fields.result
          (λ b. subst (λ n. AreBehind n N (g.N.NilTexts.says c.write_fields.new.nils))
          (ap (λ l. nils_of_fields_in style T l 0 a.parts) c.fields_of.ensures
          ∙ sym (struct_nils style T c.args.id a.parts)
          ∙ ap (λ v. nils_in style T c.args.id v) (sym a.is)) b)
          (c.write_fields.ensures.said.passed a.parts
          (subst (λ v. Gives c.children-parts.result (parts_of v)) a.is (c.children-parts.ensures.parts s.0 v s.1)));
    }

pub write_part-returns-in-Opaque-clause-said : goal.write_part-returns-in-Opaque-clause-said
write_part-returns-in-Opaque-clause-said g t c =
    let style = c.args.style in
    let T = g.S.Shapes.table c.args.table.now in
    let bytes = c.bytes.result.now in
    let N = g.N.NilTexts.says c.args.nils.now in record {
      written = record {
        before = c.write_opaque.ensures.before;
        each = λ v s.
            some_weaker
            (λ ts p. (
              p.0,
              opaque_says N style T c.args.id v bytes p.0 (sym c.in-Opaque.is ∙ c.kind.ensures s.0 v s.1)
                  (c.bytes.ensures s.0 v s.1)
                  (subst (λ o. SaysOpaque (content_in style) c.args.id o bytes p.0) c.shape_of.ensures p.1),
              p.2,
            ))
            c.write_opaque.ensures;
      };
      passed = λ v s. on_ok_weaker c.write_opaque.result
          (λ _. leaf_passed N style T c.args.id v kind.Opaque (sym c.in-Opaque.is ∙ c.kind.ensures s.0 v s.1)
          (λ e. cc) (λ e. cc) (λ e. cc) (λ e. cc))
          c.write_opaque.ensures.tokens;
    }

pub write_part-returns-in_default-clause-said : goal.write_part-returns-in_default-clause-said
write_part-returns-in_default-clause-said g t c =
    let style = c.args.style in
    let T = g.S.Shapes.table c.args.table.now in
    let N = g.N.NilTexts.says c.args.nils.now in record {
      written = record {
        before = c.write_leaf.ensures.before;
        each = λ v s.
            some_weaker
            (λ ts p. (
              p.0,
              leaf_says N style T c.args.id v c.kind.result c.numbers-first.result c.bytes-in_default.result.now
                  (c.kind.ensures s.0 v s.1) (c.numbers-first.ensures s.0 v s.1) (c.bytes-in_default.ensures s.0 v s.1)
                  c.in_default.not-Many c.in_default.not-Pairs c.in_default.not-Fields c.in_default.not-Opaque
                  c.in_default.not-Nil p.0 p.1,
              p.2,
            ))
            c.write_leaf.ensures;
      };
      passed = λ v s. on_ok_weaker c.write_leaf.result
          (λ _. leaf_passed N style T c.args.id v c.kind.result (c.kind.ensures s.0 v s.1) c.in_default.not-Many
          c.in_default.not-Pairs c.in_default.not-Fields c.in_default.not-Nil)
          c.write_leaf.ensures.tokens;
    }
