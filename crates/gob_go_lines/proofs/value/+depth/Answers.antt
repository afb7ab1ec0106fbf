use Rattle.std.proofs.Common.{◌≡◌, ◌∙◌, ◌∷◌, ◌++◌, ◌+◌, ◌-◌, ◌^◌, ◌<◌, ◌≤◌, ℕ, [], List, length, ap, sym, subst, arith}
use Rattle.std.proofs.Common.{rules, None, append_assoc}
use Rattle.std.specs.Prelude.{OnOk, slice_get}
use Rattle.json.specs.Token.{Token}
use Rattle.serde_json.specs.Data.{Data, array}
use Rattle.gob_num.specs.Unsigned.{IsUnsigned}
use Rattle.gob_num.specs.Spelled.{Appends}
use Rattle.gob_num.proofs.PublicLaws.{unsigned_unique}
use Rattle.gob_types.specs.declared.id.TypeId.{TypeId}
use Rattle.gob_types.specs.declared.basic.Basic.TheVariants as basic
use Rattle.gob_types.specs.declared.kind.Field.{Field}
use Rattle.gob_types.specs.declared.kind.Kind.TheVariants as kind
use Rattle.gob_json.specs.Json.{pair_json, text_json}
use Rattle.gob_lines.specs.Reads.{Reads}
use Rattle.gob_lines.proofs.PartLaws.{natural_once}
use Rattle.gob_lines.proofs.UniqueLaws.{J, JS, behind, number_small}
use Rattle.gob_lines.proofs.WholeLaws.{fault_reads, field_known}
use Rattle.gob_go_lines.specs.Says.{Says, SaysAs, SaysEach, SaysFields, SaysPairs, SaysTop, element, items_of}
use Rattle.gob_go_lines.specs.Says.{no_element, no_entry, of_map, of_slice, of_struct}
use Rattle.gob_go_lines.specs.declared.put.Parts.{Parts}
use Rattle.gob_go_lines.specs.Lines.{PutsIt, PutsSaid, SpellsHeld, known}
use Rattle.gob_go_lines.proofs.HeldLaws.{held_said, held_stands_there, held_top, held_was_put, nil_said}
use Rattle.gob_go_lines.proofs.HeldLaws.{nil_stands_there}
use Rattle.gob_go_lines.proofs.HeldLaws.{one_stands_there, signed_small}
use Rattle.gob_go_lines.proofs.LeafLaws.{basic_kind, opaque_kind}
use Rattle.gob_go_lines.proofs.KindLaws.{array_said, array_stands, fault_puts, if_due, interface_stands, is_known}
use Rattle.gob_go_lines.proofs.KindLaws.{kind_said, map_stands, opaque_stands, parts_put, parts_said, plain_stands}
use Rattle.gob_go_lines.proofs.KindLaws.{said_as, says_put, slice_stands, some_bytes, some_depth, struct_stands}
use Rattle.gob_go_lines.proofs.KindLaws.{tag_put, tag_said, top_as, top_behind, top_of_struct}
use Rattle.gob_go_lines.proofs.PartLaws.{none_said, none_read, one_more_said, one_entry_said, one_field_said, all_said}
use Rattle.gob_go_lines.proofs.PartLaws.{all_fields_said, pair_tokens, field_tokens, element_next, element_read}
use Rattle.gob_go_lines.proofs.PartLaws.{elements_end, entry_next, entry_read, entries_end, field_next, field_read}
use Rattle.gob_go_lines.proofs.PartLaws.{fields_end, HasLeft, shorter}
use Rattle.gob_go_lines.proofs.value.+depth.Goals as goal

-- ---- elements

pub read_elements-elements-init : goal.read_elements-elements-init
read_elements-elements-init t c =
    let none : c.new-bytes.result.items ≡ [] = search rules in
    let Is = SaysEach (known c.args.reading.now) c.args.reading.now.holds c.args.id c.args.depth in
    let at = c.in_ok-take_array.ensures.ok in
    record {
      says = rw none (none_said Is c.args.tokens.now c.take_array.new.tokens [] at);
      leaves = rw none (none_read Is c.args.tokens.now c.take_array.new.tokens [] at);
    }

pub read_elements-elements-preserved : goal.read_elements-elements-preserved
read_elements-elements-preserved t c =
    let same = c.elements-test.ensures in
    let p = c.in-Ok.ensures.says in
    record {
      says = one_more_said c.put_value.new.tokens c.put_value.new.out.items p.json p.bytes c.elements.invariant.says
          (sym same.1 ∙ p.reads) p.appended (some_bytes p.says) (λ js b h. element p.says h);
      leaves = λ js b rest h s.
          let n = element_next (c.elements.invariant.leaves js b rest h s) same.0 in
          let it = c.in-Ok.ensures.whole n.json n.bytes (JS (items_of n.parts) ++ rest) n.says (same.1 ∙ n.stand) in
          element_read c.put_value.new.tokens c.put_value.new.out.items n it.0 it.1;
    }

pub read_elements-returns-in-Err-clause-whole : goal.read_elements-returns-in-Err-clause-whole
read_elements-returns-in-Err-clause-whole t c = λ js b rest h s w.
    let same = c.elements-test.ensures in
    let n = element_next (c.elements.invariant.leaves js b rest h s) same.0 in
    c.in-Err.ensures.whole n.json n.bytes (JS (items_of n.parts) ++ rest) n.says (same.1 ∙ n.stand)
    (c.within.ensures w)

pub read_elements-returns-clause-says : goal.read_elements-returns-clause-says
read_elements-returns-clause-says t c = all_said _ c.elements.invariant.says c.elements-test.ensures no_element

pub read_elements-returns-clause-whole : goal.read_elements-returns-clause-whole
read_elements-returns-clause-whole t c = λ js b rest h s.
    elements_end _ (c.elements.invariant.leaves js b rest h s) c.elements-test.ensures

pub read_elements-elements-smaller : goal.read_elements-elements-smaller
read_elements-elements-smaller t c =
    let same = c.elements-test.ensures in
    let p = c.in-Ok.ensures.says in
    let less = shorter p.json _ c.put_value.new.tokens p.reads in
    omega (arith, less, ap length same.1)

-- ---- entries

pub read_entries-entries-init : goal.read_entries-entries-init
read_entries-entries-init t c =
    let none : c.new-bytes.result.items ≡ [] = search rules in
    let Is = SaysPairs (known c.args.reading.now) c.args.reading.now.holds c.args.entry.key c.args.entry.elem
    c.args.depth in
    let at = c.in_ok-take_array.ensures.ok in
    record {
      says = rw none (none_said Is c.args.tokens.now c.take_array.new.tokens [] at);
      leaves = rw none (none_read Is c.args.tokens.now c.take_array.new.tokens [] at);
    }

pub read_entries-entries-preserved : goal.read_entries-entries-preserved
read_entries-entries-preserved t c =
    let same = c.entries-test.ensures in
    let p = c.in-Ok.ensures.says in
    let q = c.in-Ok-put_value.ensures.says in
    let tokens = pair_tokens p.json q.json c.entries.tokens c.take_array-in-entries.new.tokens c.put_value.new.tokens
    c.put_value-in-entries.new.tokens c.take_array_end.new.tokens (sym same.1 ∙ c.in_ok-take_array-2.ensures.ok) p.reads
    q.reads c.in_ok-take_array_end.ensures.ok in
    record {
      says = one_entry_said c.take_array_end.new.tokens c.put_value-in-entries.new.out.items p.json q.json p.bytes
          q.bytes c.entries.invariant.says tokens p.says q.says
          (q.appended ∙ ap (λ (l : List ℕ). l ++ q.bytes) p.appended);
      leaves = λ js b rest h s.
          let n = entry_next (c.entries.invariant.leaves js b rest h s) same.0 in
          let last = Token.end_array ∷ (JS (items_of n.parts) ++ rest) in
          let at = ap behind (sym c.in_ok-take_array-2.ensures.ok ∙ same.1 ∙ n.stand) in
          let key = c.in-Ok.ensures.whole n.key n.key_bytes (J n.json ++ last) n.key_says at in
          let value = c.in-Ok-put_value.ensures.whole n.json n.bytes last n.says key.0 in
          entry_read c.take_array_end.new.tokens c.put_value-in-entries.new.out.items n
          (ap behind (sym c.in_ok-take_array_end.ensures.ok ∙ value.0))
          (value.1 ∙ ap (λ (l : List ℕ). l ++ n.bytes) key.1);
    }

pub read_entries-returns-in_err-take_array-2-clause-whole : goal.read_entries-returns-in_err-take_array-2-clause-whole
read_entries-returns-in_err-take_array-2-clause-whole t c = λ js b rest h s.
    let same = c.entries-test.ensures in
    let n = entry_next (c.entries.invariant.leaves js b rest h s) same.0 in
    fault_reads (λ (p : Parts). (p.count, p.bytes.items)) c.from_residual-in_err-take_array-2.result
    c.in_err-take_array-2.field-0.0 c.take_array-in-entries.new.tokens (length js, b) rest
    c.from_residual-in_err-take_array-2.ensures.1
    (λ w. c.in_err-take_array-2.ensures.none w _ (same.1 ∙ n.stand))

pub read_entries-returns-in-Err-clause-whole : goal.read_entries-returns-in-Err-clause-whole
read_entries-returns-in-Err-clause-whole t c = λ js b rest h s w.
    let same = c.entries-test.ensures in
    let n = entry_next (c.entries.invariant.leaves js b rest h s) same.0 in
    let last = Token.end_array ∷ (JS (items_of n.parts) ++ rest) in
    let at = ap behind (sym c.in_ok-take_array-2.ensures.ok ∙ same.1 ∙ n.stand) in
    c.in-Err.ensures.whole n.key n.key_bytes (J n.json ++ last) n.key_says at (c.within.ensures w)

pub read_entries-returns-in-Err-put_value-clause-whole : goal.read_entries-returns-in-Err-put_value-clause-whole
read_entries-returns-in-Err-put_value-clause-whole t c = λ js b rest h s w.
    let same = c.entries-test.ensures in
    let n = entry_next (c.entries.invariant.leaves js b rest h s) same.0 in
    let last = Token.end_array ∷ (JS (items_of n.parts) ++ rest) in
    let at = ap behind (sym c.in_ok-take_array-2.ensures.ok ∙ same.1 ∙ n.stand) in
    let key = c.in-Ok.ensures.whole n.key n.key_bytes (J n.json ++ last) n.key_says at in
    c.in-Err-put_value.ensures.whole n.json n.bytes last n.says key.0 (c.within-in-Err-put_value.ensures w)

pub read_entries-returns-in_err-take_array_end-clause-whole :
    goal.read_entries-returns-in_err-take_array_end-clause-whole
read_entries-returns-in_err-take_array_end-clause-whole t c = λ js b rest h s.
    let same = c.entries-test.ensures in
    let n = entry_next (c.entries.invariant.leaves js b rest h s) same.0 in
    let last = Token.end_array ∷ (JS (items_of n.parts) ++ rest) in
    let at = ap behind (sym c.in_ok-take_array-2.ensures.ok ∙ same.1 ∙ n.stand) in
    let key = c.in-Ok.ensures.whole n.key n.key_bytes (J n.json ++ last) n.key_says at in
    let value = c.in-Ok-put_value.ensures.whole n.json n.bytes last n.says key.0 in
    fault_reads (λ (p : Parts). (p.count, p.bytes.items)) c.from_residual-in_err-take_array_end.result
    c.in_err-take_array_end.field-0.0
    c.take_array_end.new.tokens (length js, b) rest c.from_residual-in_err-take_array_end.ensures.1
    (λ w. c.in_err-take_array_end.ensures.none w _ value.0)

pub read_entries-returns-clause-says : goal.read_entries-returns-clause-says
read_entries-returns-clause-says t c = all_said _ c.entries.invariant.says c.entries-test.ensures no_entry

pub read_entries-returns-clause-whole : goal.read_entries-returns-clause-whole
read_entries-returns-clause-whole t c = λ js b rest h s.
    entries_end _ (c.entries.invariant.leaves js b rest h s) c.entries-test.ensures

-- ---- fields

pub put_fields-present-init : goal.put_fields-present-init
put_fields-present-init t c =
    let Is = SaysFields (known c.args.reading.now) c.args.reading.now.holds c.args.fields.now 0 c.args.depth in
    let at = c.in_ok-take_array.ensures.ok in
    record {
      says = (0, none_said Is c.args.tokens.now c.take_array.new.tokens c.args.out.now.items at);
      leaves = (0, none_read Is c.args.tokens.now c.take_array.new.tokens c.args.out.now.items at);
    }

pub put_fields-present-preserved : goal.put_fields-present-preserved
put_fields-present-preserved t c =
    let T = known c.args.reading.now in
    let fields = c.args.fields.now in
    let number = c.in_ok-number.number in
    let same = c.present-test.ensures in
    let found = c.in-Some.field.now in
    let p = c.in-Ok.ensures.says in
    let delta = c.in_ok-write_uint.ensures.ok in
    let name = rw c.as_bytes.ensures at c.in_ok-take_name.ensures.read in
    let got = c.in_ok-number.ensures.ok in
    let tokens = field_tokens got.json found.name p.json c.present.tokens c.take_array-in-present.new.tokens
    c.read_uint.new.tokens c.take_name.new.tokens c.put_value.new.tokens c.take_array_end.new.tokens
    (sym same.1 ∙ c.in_ok-take_array-2.ensures.ok) got.reads name p.reads c.in_ok-take_array_end.ensures.ok in
    record {
      says = (
        c.present.invariant.says.0 + 1,
        one_field_said c.take_array_end.new.tokens c.put_value.new.out.items number found got.json p.json delta.bytes
            p.bytes c.present.invariant.says.1 tokens c.in-Some.ensures.order c.in-Some.ensures.found delta.spelled
            got.is p.says
            (p.appended ∙ ap (λ (l : List ℕ). l ++ p.bytes) delta.appended),
      );
      leaves = (
        c.present.invariant.leaves.0 + 1,
        λ js b rest h s.
            let n = field_next (c.present.invariant.leaves.1 js b rest h s) same.0 in
            let last = Token.end_array ∷ (JS (items_of n.parts) ++ rest) in
            let whole = J n.json ++ last in
            let at = ap behind (sym c.in_ok-take_array-2.ensures.ok ∙ same.1 ∙ n.stand) in
            let few : length fields < 2 ^ 64 = omega arith in
            let small = number_small fields n.at n.named few n.there in
            let got = c.in_ok-number.ensures.ok in
            let it = natural_once c.take_array-in-present.new.tokens c.read_uint.new.tokens
            (J (text_json n.named.name) ++ whole) c.in_ok-number.ensures.fits small got.is got.reads n.numbered at in
            let one = field_known fields it.0 c.in-Some.ensures.found n.there in
            let stands = subst (λ (l : List ℕ). Reads (text_json l) c.read_uint.new.tokens whole)
            (sym (c.as_bytes.ensures ∙ ap (λ (f : Field). f.name) one)) it.1 in
            let named = c.in_ok-take_name.ensures.whole whole stands in
            let says = subst (λ (f : Field). Says T c.args.reading.now.holds f.id c.args.depth n.json n.bytes)
            (sym one) n.says in
            let value = c.in-Ok.ensures.whole n.json n.bytes last says named in
            let front : delta.bytes ≡ n.delta =
            unsigned_unique delta.spelled (subst (λ (k : ℕ). IsUnsigned (k + 1 - c.present.next) n.delta) (sym it.0)
            n.spelled)
            in
            let put = value.1 ∙ ap (λ (l : List ℕ). l ++ n.bytes)
            (delta.appended ∙ ap (λ (l : List ℕ). c.present.out.items ++ l) front) in
            subst (λ (k : ℕ). HasLeft (SaysFields T c.args.reading.now.holds fields (k + 1) c.args.depth)
            c.take_array_end.new.tokens rest
            (c.present.invariant.leaves.0 + 1) (length js) c.put_value.new.out.items (c.args.out.now.items ++ b)) (sym
            it.0)
            (field_read c.take_array_end.new.tokens c.put_value.new.out.items n
            (ap behind (sym c.in_ok-take_array_end.ensures.ok ∙ value.0)) put),
      );
    }

pub put_fields-returns-in_err-take_array-2-clause-whole : goal.put_fields-returns-in_err-take_array-2-clause-whole
put_fields-returns-in_err-take_array-2-clause-whole t c = λ js b rest h s.
    let same = c.present-test.ensures in
    let n = field_next (c.present.invariant.leaves.1 js b rest h s) same.0 in
    fault_puts c.from_residual-in_err-take_array-2.result c.in_err-take_array-2.field-0.0
    c.take_array-in-present.new.tokens rest c.args.out.now.items c.present.out.items b
    c.from_residual-in_err-take_array-2.ensures.1 (λ w. c.in_err-take_array-2.ensures.none w _ (same.1 ∙ n.stand))

pub put_fields-returns-in_err-number-clause-whole : goal.put_fields-returns-in_err-number-clause-whole
put_fields-returns-in_err-number-clause-whole t c = λ js b rest h s.
    let fields = c.args.fields.now in
    let same = c.present-test.ensures in
    let n = field_next (c.present.invariant.leaves.1 js b rest h s) same.0 in
    let last = Token.end_array ∷ (JS (items_of n.parts) ++ rest) in
    let whole = J n.json ++ last in
    let at = ap behind (sym c.in_ok-take_array-2.ensures.ok ∙ same.1 ∙ n.stand) in
    let few : length fields < 2 ^ 64 = omega arith in
    let small = number_small fields n.at n.named few n.there in
    fault_puts c.from_residual-in_err-number.result c.in_err-number.field-0.0 c.read_uint.new.tokens rest
    c.args.out.now.items c.present.out.items b c.from_residual-in_err-number.ensures.1
    (λ w. c.in_err-number.ensures.none w n.at n.number (J (text_json n.named.name) ++ whole) small n.numbered at)

pub put_fields-returns-in_default-clause-whole : goal.put_fields-returns-in_default-clause-whole
put_fields-returns-in_default-clause-whole t c = λ js b rest h s w.
    let fields = c.args.fields.now in
    let number = c.in_ok-number.number in
    let same = c.present-test.ensures in
    let n = field_next (c.present.invariant.leaves.1 js b rest h s) same.0 in
    let last = Token.end_array ∷ (JS (items_of n.parts) ++ rest) in
    let whole = J n.json ++ last in
    let at = ap behind (sym c.in_ok-take_array-2.ensures.ok ∙ same.1 ∙ n.stand) in
    let few : length fields < 2 ^ 64 = omega arith in
    let small = number_small fields n.at n.named few n.there in
    let got = c.in_ok-number.ensures.ok in
    let it = natural_once c.take_array-in-present.new.tokens c.read_uint.new.tokens
    (J (text_json n.named.name) ++ whole) c.in_ok-number.ensures.fits small got.is got.reads n.numbered at in
    let later = subst (λ (k : ℕ). c.present.next ≤ k) (sym it.0) n.later in
    let lost : slice_get fields number ≡ None = c.field_from.ensures.lost c.in_default.is later in
    let both = sym lost ∙ ap (λ (k : ℕ). slice_get fields k) it.0 ∙ n.there in
    grind (arith, both)

pub put_fields-returns-in_err-take_name-clause-whole : goal.put_fields-returns-in_err-take_name-clause-whole
put_fields-returns-in_err-take_name-clause-whole t c = λ js b rest h s.
    let fields = c.args.fields.now in
    let number = c.in_ok-number.number in
    let same = c.present-test.ensures in
    let n = field_next (c.present.invariant.leaves.1 js b rest h s) same.0 in
    let last = Token.end_array ∷ (JS (items_of n.parts) ++ rest) in
    let whole = J n.json ++ last in
    let at = ap behind (sym c.in_ok-take_array-2.ensures.ok ∙ same.1 ∙ n.stand) in
    let few : length fields < 2 ^ 64 = omega arith in
    let small = number_small fields n.at n.named few n.there in
    let got = c.in_ok-number.ensures.ok in
    let it = natural_once c.take_array-in-present.new.tokens c.read_uint.new.tokens
    (J (text_json n.named.name) ++ whole) c.in_ok-number.ensures.fits small got.is got.reads n.numbered at in
    let one = field_known fields it.0 c.in-Some.ensures.found n.there in
    let stands = subst (λ (l : List ℕ). Reads (text_json l) c.read_uint.new.tokens whole)
    (sym (c.as_bytes.ensures ∙ ap (λ (f : Field). f.name) one)) it.1 in
    fault_puts c.from_residual-in_err-take_name.result c.in_err-take_name.field-0.0 c.take_name.new.tokens rest
    c.args.out.now.items c.present.out.items b c.from_residual-in_err-take_name.ensures.1
    (c.in_err-take_name.ensures.whole whole stands)

pub put_fields-returns-in-Err-clause-whole : goal.put_fields-returns-in-Err-clause-whole
put_fields-returns-in-Err-clause-whole t c = λ js b rest h s w.
    let T = known c.args.reading.now in
    let fields = c.args.fields.now in
    let number = c.in_ok-number.number in
    let same = c.present-test.ensures in
    let n = field_next (c.present.invariant.leaves.1 js b rest h s) same.0 in
    let last = Token.end_array ∷ (JS (items_of n.parts) ++ rest) in
    let whole = J n.json ++ last in
    let at = ap behind (sym c.in_ok-take_array-2.ensures.ok ∙ same.1 ∙ n.stand) in
    let few : length fields < 2 ^ 64 = omega arith in
    let small = number_small fields n.at n.named few n.there in
    let got = c.in_ok-number.ensures.ok in
    let it = natural_once c.take_array-in-present.new.tokens c.read_uint.new.tokens
    (J (text_json n.named.name) ++ whole) c.in_ok-number.ensures.fits small got.is got.reads n.numbered at in
    let one = field_known fields it.0 c.in-Some.ensures.found n.there in
    let stands = subst (λ (l : List ℕ). Reads (text_json l) c.read_uint.new.tokens whole)
    (sym (c.as_bytes.ensures ∙ ap (λ (f : Field). f.name) one)) it.1 in
    let named = c.in_ok-take_name.ensures.whole whole stands in
    let says = subst (λ (f : Field). Says T c.args.reading.now.holds f.id c.args.depth n.json n.bytes)
    (sym one) n.says in
    c.in-Err.ensures.whole n.json n.bytes last says named (c.within_field.ensures w)

pub put_fields-returns-in_err-take_array_end-clause-whole : goal.put_fields-returns-in_err-take_array_end-clause-whole
put_fields-returns-in_err-take_array_end-clause-whole t c = λ js b rest h s.
    let T = known c.args.reading.now in
    let fields = c.args.fields.now in
    let number = c.in_ok-number.number in
    let same = c.present-test.ensures in
    let n = field_next (c.present.invariant.leaves.1 js b rest h s) same.0 in
    let last = Token.end_array ∷ (JS (items_of n.parts) ++ rest) in
    let whole = J n.json ++ last in
    let at = ap behind (sym c.in_ok-take_array-2.ensures.ok ∙ same.1 ∙ n.stand) in
    let few : length fields < 2 ^ 64 = omega arith in
    let small = number_small fields n.at n.named few n.there in
    let got = c.in_ok-number.ensures.ok in
    let it = natural_once c.take_array-in-present.new.tokens c.read_uint.new.tokens
    (J (text_json n.named.name) ++ whole) c.in_ok-number.ensures.fits small got.is got.reads n.numbered at in
    let one = field_known fields it.0 c.in-Some.ensures.found n.there in
    let stands = subst (λ (l : List ℕ). Reads (text_json l) c.read_uint.new.tokens whole)
    (sym (c.as_bytes.ensures ∙ ap (λ (f : Field). f.name) one)) it.1 in
    let named = c.in_ok-take_name.ensures.whole whole stands in
    let says = subst (λ (f : Field). Says T c.args.reading.now.holds f.id c.args.depth n.json n.bytes)
    (sym one) n.says in
    let value = c.in-Ok.ensures.whole n.json n.bytes last says named in
    fault_puts c.from_residual-in_err-take_array_end.result c.in_err-take_array_end.field-0.0
    c.take_array_end.new.tokens rest c.args.out.now.items c.put_value.new.out.items b
    c.from_residual-in_err-take_array_end.ensures.1 (λ w. c.in_err-take_array_end.ensures.none w _ value.0)

pub put_fields-returns-clause-says : goal.put_fields-returns-clause-says
put_fields-returns-clause-says t c =
    let zero = c.in_ok-write_uint-2.ensures.ok in
    all_fields_said _ c.write_uint-2.new.out.items zero.bytes c.present.invariant.says.1 c.present-test.ensures
    zero.spelled
    zero.appended

pub put_fields-returns-clause-whole : goal.put_fields-returns-clause-whole
put_fields-returns-clause-whole t c = λ js b rest h s.
    let zero = c.in_ok-write_uint-2.ensures.ok in
    let l = fields_end _ (c.present.invariant.leaves.1 js b rest h s) c.present-test.ensures in (
      l.rest_is,
      zero.appended ∙ ap (λ (a : List ℕ). c.present.out.items ++ a) (unsigned_unique zero.spelled l.zero) ∙ l.all,
    )

-- ---- interfaces

pub put_interface-returns-then-branch-clause-says : goal.put_interface-returns-then-branch-clause-says
put_interface-returns-then-branch-clause-says t c =
    nil_said c.args.tokens.now c.take_nil.new.tokens (c.in_ok-take_nil.ensures.nil (search rules))
    c.in_ok-write_uint.ensures.ok

pub put_interface-returns-then-branch-clause-whole : goal.put_interface-returns-then-branch-clause-whole
put_interface-returns-then-branch-clause-whole t c = λ j b rest h s.
    let it = nil_stands_there (interface_stands h) s (c.in_ok-take_nil.ensures.nil (search rules)) in
    let zero = c.in_ok-write_uint.ensures.ok in
    (it.1, zero.appended ∙ ap (λ (a : List ℕ). c.args.out.now.items ++ a) (unsigned_unique zero.spelled it.0))

pub put_interface-returns-in_err-take_nil-clause-whole : goal.put_interface-returns-in_err-take_nil-clause-whole
put_interface-returns-in_err-take_nil-clause-whole t c = λ j b rest h s.
    fault_puts c.from_residual.result c.in_err-take_nil.field-0.0 c.take_nil.new.tokens rest
    c.args.out.now.items c.args.out.now.items b c.from_residual.ensures.1
    (λ w. one_stands_there rest (interface_stands h) s (c.in_err-take_nil.ensures.no_nil w)
    (c.in_err-take_nil.ensures.no_held w))

pub put_interface-returns-in_err-held-clause-whole : goal.put_interface-returns-in_err-held-clause-whole
put_interface-returns-in_err-held-clause-whole t c = λ j b rest h s.
    let it = held_stands_there (interface_stands h) s (c.in_ok-take_nil.ensures.held (search rules)).0 in
    let k = it.stands in
    fault_puts c.from_residual-in_err-held.result c.in_err-held.field-0.0 c.take_held.new.tokens rest
    c.args.out.now.items c.args.out.now.items b c.from_residual-in_err-held.ensures.1
    (c.in_err-held.ensures.whole k.name k.held (J k.json ++ (Token.end_object ∷ (Token.end_object ∷ rest))) k.holds
    k.some k.may (signed_small k.typed) it.tokens)

pub put_interface-returns-in_err-put_top-clause-whole : goal.put_interface-returns-in_err-put_top-clause-whole
put_interface-returns-in_err-put_top-clause-whole t c = λ j b rest h s.
    let it = held_stands_there (interface_stands h) s (c.in_ok-take_nil.ensures.held (search rules)).0 in
    let k = it.stands in
    let last = Token.end_object ∷ (Token.end_object ∷ rest) in
    let front = c.in_ok-held.ensures.whole k.name k.held (J k.json ++ last) k.holds k.some k.may (signed_small k.typed)
    it.tokens in
    let says = held_top (known c.args.reading.now) c.args.depth c.in_ok-held.held.id k
    (ap (λ (p : List ℕ × TypeId). p.1) front.0) in
    fault_puts c.from_residual-in_err-put_top.result c.in_err-put_top.field-0.0 c.put_top.new.tokens rest
    c.args.out.now.items c.args.out.now.items b c.from_residual-in_err-put_top.ensures.1
    (c.in_err-put_top.ensures.whole k.json k.value last says front.1)

pub put_interface-returns-in_err-take_held_end-clause-whole :
    goal.put_interface-returns-in_err-take_held_end-clause-whole
put_interface-returns-in_err-take_held_end-clause-whole t c = λ j b rest h s.
    let it = held_stands_there (interface_stands h) s (c.in_ok-take_nil.ensures.held (search rules)).0 in
    let k = it.stands in
    let last = Token.end_object ∷ (Token.end_object ∷ rest) in
    let front = c.in_ok-held.ensures.whole k.name k.held (J k.json ++ last) k.holds k.some k.may (signed_small k.typed)
    it.tokens in
    let says = held_top (known c.args.reading.now) c.args.depth c.in_ok-held.held.id k
    (ap (λ (p : List ℕ × TypeId). p.1) front.0) in
    let value = c.in_ok-put_top.ensures.whole k.json k.value last says front.1 in
    fault_puts c.from_residual-in_err-take_held_end.result c.in_err-take_held_end.field-0.0
    c.take_held_end.new.tokens rest c.args.out.now.items c.args.out.now.items b
    c.from_residual-in_err-take_held_end.ensures.1 (c.in_err-take_held_end.ensures.whole rest value.0)

pub put_interface-returns-clause-says : goal.put_interface-returns-clause-says
put_interface-returns-clause-says t c =
    let none : c.new-body.result.items ≡ [] = search rules in
    let held = c.in_ok-held.held in
    let body = subst (λ (b : List ℕ). PutsSaid
    (SaysTop (known c.args.reading.now) c.args.reading.now.holds held.id c.args.depth)
    c.take_held.new.tokens c.put_top.new.tokens b c.put_top.new.out.items) none c.in_ok-put_top.ensures.says in
    let put = subst (λ (b : List ℕ). OnOk c.put_held.result (Appends (SpellsHeld held.name.items held.id b)
    c.args.out.now.items c.put_held.new.out.items)) c.deref.ensures.value c.put_held.ensures.ok in
    held_said c.put_held.result held.name.items c.args.tokens.now c.take_nil.new.tokens c.take_held_end.new.tokens
    c.args.out.now.items c.put_held.new.out.items c.put_held.ensures.holds c.in_ok-held.ensures.named
    c.in_ok-held.ensures.may
    (c.in_ok-take_nil.ensures.held (search rules)) c.in_ok-held.ensures.read body c.in_ok-take_held_end.ensures.read put

pub put_interface-returns-clause-whole : goal.put_interface-returns-clause-whole
put_interface-returns-clause-whole t c = λ j b rest h s.
    let none : c.new-body.result.items ≡ [] = search rules in
    let it = held_stands_there (interface_stands h) s (c.in_ok-take_nil.ensures.held (search rules)).0 in
    let k = it.stands in
    let last = Token.end_object ∷ (Token.end_object ∷ rest) in
    let front = c.in_ok-held.ensures.whole k.name k.held (J k.json ++ last) k.holds k.some k.may (signed_small k.typed)
    it.tokens in
    let says = held_top (known c.args.reading.now) c.args.depth c.in_ok-held.held.id k
    (ap (λ (p : List ℕ × TypeId). p.1) front.0) in
    let value = c.in_ok-put_top.ensures.whole k.json k.value last says front.1 in
    let end = c.in_ok-take_held_end.ensures.whole rest value.0 in
    held_was_put c.put_held.result k c.in_ok-held.held.name.items c.in_ok-held.held.id c.deref.result.now
    c.take_held_end.new.tokens rest c.args.out.now.items c.put_held.new.out.items c.put_held.ensures.ok
    c.put_held.ensures.memory front.0
    (c.deref.ensures.value ∙ value.1 ∙ ap (λ (a : List ℕ). a ++ k.value) none) end

-- ---- behind a tag or without one

pub put_top-returns-then-has_structs-clause-says : goal.put_top-returns-then-has_structs-clause-says
put_top-returns-then-has_structs-clause-says t c =
    says_put c.put_value.result c.args.tokens.now c.put_value.new.tokens c.args.out.now.items c.put_value.new.out.items
    (λ j b h. top_of_struct (c.has_structs.ensures.0 (search rules)) h) c.put_value.ensures.says

pub put_top-returns-then-has_structs-clause-whole : goal.put_top-returns-then-has_structs-clause-whole
put_top-returns-then-has_structs-clause-whole t c = λ j b rest h s.
    c.put_value.ensures.whole j b rest (top_as (c.has_structs.ensures.0 (search rules)) h) s

pub put_top-returns-clause-says : goal.put_top-returns-clause-says
put_top-returns-clause-says t c =
    tag_said c.args.reading.now.holds c.args.depth c.put_value-2.result c.args.tokens.now c.put_value-2.new.tokens
    c.args.out.now.items
    c.push.new.self.items
    c.put_value-2.new.out.items (λ h. let yes = c.has_structs.ensures.1 h in grind (arith, yes)) (search rules)
    c.put_value-2.ensures.says

pub put_top-returns-clause-whole : goal.put_top-returns-clause-whole
put_top-returns-clause-whole t c = λ j b rest h s.
    let k = top_behind (λ h. let yes = c.has_structs.ensures.1 h in grind (arith, yes)) h in
    tag_put c.put_value-2.result c.put_value-2.new.tokens rest c.args.out.now.items c.push.new.self.items
    c.put_value-2.new.out.items b k.bytes (search rules) k.whole (c.put_value-2.ensures.whole j k.bytes rest k.says s)

-- ---- by the kind of the type

pub put_value-returns-then-depth-eq0-clause-whole : goal.put_value-returns-then-depth-eq0-clause-whole
put_value-returns-then-depth-eq0-clause-whole t c = λ j b rest h s w.
    let some = some_depth h in absurd (omega (arith, some))

pub put_value-returns-in_default-clause-whole : goal.put_value-returns-in_default-clause-whole
put_value-returns-in_default-clause-whole t c = λ j b rest h s w.
    let there = is_known h in
    let both = c.shape_of.ensures ∙ there.1 in grind (arith, both)

pub put_value-returns-in_err-elements-in-Array-clause-whole :
    goal.put_value-returns-in_err-elements-in-Array-clause-whole
put_value-returns-in_err-elements-in-Array-clause-whole t c = λ j b rest h s.
    let a = array_stands (said_as (sym c.in-Some.ensures) c.in-Array.is h) in
    let p = a.elements in
    fault_puts c.from_residual.result c.in_err-elements-in-Array.field-0.0
    c.read_elements.new.tokens rest c.args.out.now.items c.args.out.now.items b
    c.from_residual.ensures.1
    (c.in_err-elements-in-Array.ensures.whole p.parts p.bytes rest p.says
    (subst (λ (d : Data). Reads d c.args.tokens.now rest) p.is s))

pub put_value-returns-in_ok-elements-in-Array-clause-says : goal.put_value-returns-in_ok-elements-in-Array-clause-says
put_value-returns-in_ok-elements-in-Array-clause-says t c =
    let parts = c.in_ok-elements-in-Array.elements in
    kind_said (known c.args.reading.now) c.args.reading.now.holds c.args.id c.put_array.result c.args.tokens.now
    c.read_elements.new.tokens
    c.args.out.now.items
    c.put_array.new.out.items
    (sym c.in-Some.ensures) c.in-Array.is (omega arith)
    (array_said c.in-Array.len c.args.depth c.put_array.result c.args.tokens.now c.read_elements.new.tokens
    parts.count parts.bytes.items
    c.args.out.now.items c.put_array.new.out.items c.put_array.ensures.count c.in_ok-elements-in-Array.ensures.says
    c.put_array.ensures.ok)

pub put_value-returns-in_ok-elements-in-Array-clause-whole : goal.put_value-returns-in_ok-elements-in-Array-clause-whole
put_value-returns-in_ok-elements-in-Array-clause-whole t c = λ j b rest h s.
    let a = array_stands (said_as (sym c.in-Some.ensures) c.in-Array.is h) in
    let p = a.elements in
    let parts = c.in_ok-elements-in-Array.elements in
    let it = c.in_ok-elements-in-Array.ensures.whole p.parts p.bytes rest p.says
    (subst (λ (d : Data). Reads d c.args.tokens.now rest) p.is s) in
    parts_put c.put_array.result p c.read_elements.new.tokens rest parts.count parts.bytes.items c.args.out.now.items
    c.put_array.new.out.items c.put_array.ensures.ok
    (if_due c.put_array.result c.put_array.ensures.due (ap (λ (q : ℕ × List ℕ). q.0) it.0 ∙ a.same)) it.0 it.1

pub put_value-returns-in_err-elements-in-Slice-clause-whole :
    goal.put_value-returns-in_err-elements-in-Slice-clause-whole
put_value-returns-in_err-elements-in-Slice-clause-whole t c = λ j b rest h s.
    let p = slice_stands (said_as (sym c.in-Some.ensures) c.in-Slice.is h) in
    fault_puts c.from_residual-in_err-elements-in-Slice.result c.in_err-elements-in-Slice.field-0.0
    c.read_elements-in-Slice.new.tokens rest c.args.out.now.items c.args.out.now.items b
    c.from_residual-in_err-elements-in-Slice.ensures.1
    (c.in_err-elements-in-Slice.ensures.whole p.parts p.bytes rest p.says
    (subst (λ (d : Data). Reads d c.args.tokens.now rest) p.is s))

pub put_value-returns-in_ok-elements-in-Slice-clause-says : goal.put_value-returns-in_ok-elements-in-Slice-clause-says
put_value-returns-in_ok-elements-in-Slice-clause-says t c =
    let parts = c.in_ok-elements-in-Slice.elements in
    kind_said (known c.args.reading.now) c.args.reading.now.holds c.args.id c.put_parts.result c.args.tokens.now
    c.read_elements-in-Slice.new.tokens c.args.out.now.items
    c.put_parts.new.out.items
    (sym c.in-Some.ensures) c.in-Slice.is (omega arith)
    (parts_said _ c.put_parts.result c.args.tokens.now c.read_elements-in-Slice.new.tokens parts.count
    parts.bytes.items c.args.out.now.items c.put_parts.new.out.items (λ js n b long q k. of_slice q k)
    c.in_ok-elements-in-Slice.ensures.says c.put_parts.ensures.ok)

pub put_value-returns-in_ok-elements-in-Slice-clause-whole : goal.put_value-returns-in_ok-elements-in-Slice-clause-whole
put_value-returns-in_ok-elements-in-Slice-clause-whole t c = λ j b rest h s.
    let p = slice_stands (said_as (sym c.in-Some.ensures) c.in-Slice.is h) in
    let parts = c.in_ok-elements-in-Slice.elements in
    let it = c.in_ok-elements-in-Slice.ensures.whole p.parts p.bytes rest p.says
    (subst (λ (d : Data). Reads d c.args.tokens.now rest) p.is s) in
    parts_put c.put_parts.result p c.read_elements-in-Slice.new.tokens rest parts.count parts.bytes.items
    c.args.out.now.items
    c.put_parts.new.out.items c.put_parts.ensures.ok c.put_parts.ensures.memory it.0 it.1

pub put_value-returns-in_err-entries-in-Map-clause-whole :
    goal.put_value-returns-in_err-entries-in-Map-clause-whole
put_value-returns-in_err-entries-in-Map-clause-whole t c = λ j b rest h s.
    let p = map_stands (said_as (sym c.in-Some.ensures) c.in-Map.is h) in
    fault_puts c.from_residual-in_err-entries-in-Map.result c.in_err-entries-in-Map.field-0.0
    c.read_entries.new.tokens rest c.args.out.now.items c.args.out.now.items b
    c.from_residual-in_err-entries-in-Map.ensures.1
    (c.in_err-entries-in-Map.ensures.whole p.parts p.bytes rest p.says
    (subst (λ (d : Data). Reads d c.args.tokens.now rest) p.is s))

pub put_value-returns-in_ok-entries-in-Map-clause-says : goal.put_value-returns-in_ok-entries-in-Map-clause-says
put_value-returns-in_ok-entries-in-Map-clause-says t c =
    let parts = c.in_ok-entries-in-Map.entries in
    kind_said (known c.args.reading.now) c.args.reading.now.holds c.args.id c.put_parts-in-Map.result c.args.tokens.now
    c.read_entries.new.tokens
    c.args.out.now.items
    c.put_parts-in-Map.new.out.items
    (sym c.in-Some.ensures) c.in-Map.is (omega arith)
    (parts_said _ c.put_parts-in-Map.result c.args.tokens.now c.read_entries.new.tokens parts.count
    parts.bytes.items c.args.out.now.items c.put_parts-in-Map.new.out.items (λ js n b long q k. of_map q k)
    c.in_ok-entries-in-Map.ensures.says c.put_parts-in-Map.ensures.ok)

pub put_value-returns-in_ok-entries-in-Map-clause-whole : goal.put_value-returns-in_ok-entries-in-Map-clause-whole
put_value-returns-in_ok-entries-in-Map-clause-whole t c = λ j b rest h s.
    let p = map_stands (said_as (sym c.in-Some.ensures) c.in-Map.is h) in
    let parts = c.in_ok-entries-in-Map.entries in
    let it = c.in_ok-entries-in-Map.ensures.whole p.parts p.bytes rest p.says
    (subst (λ (d : Data). Reads d c.args.tokens.now rest) p.is s) in
    parts_put c.put_parts-in-Map.result p c.read_entries.new.tokens rest parts.count parts.bytes.items
    c.args.out.now.items
    c.put_parts-in-Map.new.out.items c.put_parts-in-Map.ensures.ok c.put_parts-in-Map.ensures.memory it.0 it.1

pub put_value-returns-in-Struct-clause-says : goal.put_value-returns-in-Struct-clause-says
put_value-returns-in-Struct-clause-says t c =
    let T = known c.args.reading.now in
    kind_said (known c.args.reading.now) c.args.reading.now.holds c.args.id c.put_fields.result c.args.tokens.now
    c.put_fields.new.tokens
    c.args.out.now.items
    c.put_fields.new.out.items (sym c.in-Some.ensures)
    (c.in-Struct.is ∙ ap kind.Struct (sym c.as_slice.ensures)) (omega arith)
    (says_put c.put_fields.result c.args.tokens.now c.put_fields.new.tokens c.args.out.now.items
    c.put_fields.new.out.items (λ j b k. subst
    (λ (d : Data). SaysAs T c.args.reading.now.holds (kind.Struct c.as_slice.result.now)
    c.args.depth d b) (sym k.is) (of_struct k.says)) c.put_fields.ensures.says)

pub put_value-returns-in-Struct-clause-whole : goal.put_value-returns-in-Struct-clause-whole
put_value-returns-in-Struct-clause-whole t c = λ j b rest h s.
    let p = struct_stands (said_as (sym c.in-Some.ensures)
    (c.in-Struct.is ∙ ap kind.Struct (sym c.as_slice.ensures)) h) in
    c.put_fields.ensures.whole p.parts b rest p.says (subst (λ (d : Data). Reads d c.args.tokens.now rest) p.is s)

pub put_value-returns-in-Opaque-clause-says : goal.put_value-returns-in-Opaque-clause-says
put_value-returns-in-Opaque-clause-says t c =
    opaque_kind (known c.args.reading.now) c.args.reading.now.holds c.args.id c.put_opaque.result c.args.tokens.now
    c.put_opaque.new.tokens
    c.args.out.now.items
    c.put_opaque.new.out.items (sym c.in-Some.ensures) c.in-Opaque.is (omega arith) c.put_opaque.ensures.says

pub put_value-returns-in-Opaque-clause-whole : goal.put_value-returns-in-Opaque-clause-whole
put_value-returns-in-Opaque-clause-whole t c = λ j b rest h s.
    let p = opaque_stands (said_as (sym c.in-Some.ensures) c.in-Opaque.is h) in
    subst (λ (a : List ℕ). PutsIt c.put_opaque.result c.put_opaque.new.tokens rest c.args.out.now.items
    c.put_opaque.new.out.items a) (sym p.whole) (c.put_opaque.ensures.whole p.text p.count rest p.holds p.counted
    (subst (λ (d : Data). Reads d c.args.tokens.now rest) p.is s))

pub put_value-returns-in-Basic-clause-says : goal.put_value-returns-in-Basic-clause-says
put_value-returns-in-Basic-clause-says t c =
    basic_kind (known c.args.reading.now) c.args.reading.now.holds c.args.id c.put_basic.result c.args.tokens.now
    c.put_basic.new.tokens
    c.args.out.now.items
    c.put_basic.new.out.items (sym c.in-Some.ensures) c.in-Basic.is (omega arith) c.put_basic.ensures.says

pub put_value-put_basic-requires : goal.put_value-put_basic-requires
put_value-put_basic-requires t c = (c.in-Some.shape.now, sym c.in-Some.ensures, c.in-Basic.is)

pub put_value-returns-in-Basic-Interface-clause-says : goal.put_value-returns-in-Basic-Interface-clause-says
put_value-returns-in-Basic-Interface-clause-says t c =
    let T = known c.args.reading.now in
    let one : c.args.depth - 1 + 1 ≡ c.args.depth = omega arith in
    let is : c.in-Some.shape.now.kind ≡ kind.Basic basic.Interface = search rules in
    let put = subst (λ (l : ℕ). OnOk c.put_interface.result
    (PutsSaid (SaysAs T c.args.reading.now.holds (kind.Basic basic.Interface) l)
    c.args.tokens.now c.put_interface.new.tokens c.args.out.now.items c.put_interface.new.out.items)) one
    c.put_interface.ensures.says in
    kind_said T c.args.reading.now.holds c.args.id c.put_interface.result c.args.tokens.now c.put_interface.new.tokens
    c.args.out.now.items
    c.put_interface.new.out.items (sym c.in-Some.ensures) is (omega arith) put
