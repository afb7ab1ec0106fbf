use Rattle.std.proofs.Common.{◌≡◌, ◌∙◌, ◌++◌, ◌∷◌, List, [], ap, sym, subst, arith, rules}
use Rattle.std.proofs.Common.{length, Some}
use Rattle.std.proofs.lemmas.Bool.{false≢true}
use Rattle.std.proofs.lemmas.Option.{slice_get-get_or}
use Rattle.std.proofs.lemmas.Result.{IfOk-weaker}
use Rattle.json.specs.Token.{Token}
use Rattle.json.specs.declared.token.Token.TheVariants as taken
use Rattle.gob_types.specs.declared.kind.Kind.TheVariants as kind
use Rattle.gob_value.specs.View.{view, views, field_views}
use Rattle.gob_value.proofs.PublicLaws.{view-Fields, view-Many, view-Opaque, view-Pairs}
use Rattle.gob_make.specs.Plain.{ReadsPlain}
use Rattle.gob_make.specs.Tells.{Begins, from_token}
use Rattle.gob_make.proofs.ReadLaws.{all_elements, all_entries, all_members}
use Rattle.gob_make.proofs.ReadLaws.{all_pairs, one_left_out, one_more_element, one_more_entry, one_more_member}
use Rattle.gob_make.proofs.ReadLaws.{one_more_pair}
use Rattle.gob_make.proofs.SaidLaws.{array_said, basic_said, elements_said, entries_said, map_said, members_said}
use Rattle.gob_make.proofs.SaidLaws.{member_said, null_member, null_said, opaque_said, pairs_said, slice_said}
use Rattle.gob_make.proofs.SaidLaws.{struct_said, weaker}
use Rattle.gob_make.proofs.TakenLaws.{adds_leniently, begins_shorter, from_this, leniently, moved}
use Rattle.gob_make.proofs.TakenLaws.{all_taken, retaken}
use Rattle.gob_make.proofs.value.+depth.Goals as goal

-- ---- elements

pub read_elements-elements-smaller : goal.read_elements-elements-smaller
read_elements-elements-smaller g t c =
    let same = c.elements-test.ensures in
    let b = retaken c.next-token.result _ _ _ c.next-token.ensures.value c.in-Ok.ensures.read in
    let s = begins_shorter _ _ b in
    let e = ap length same.1 in
    omega (arith, s, e)

pub read_elements-elements-preserved : goal.read_elements-elements-preserved
read_elements-elements-preserved g t c =
    let T = g.S.Shapes.table c.args.table.now in
    let xs = c.elements.elements.items in
    let x = c.in-Ok.element in
    let same = c.elements-test.ensures in
    let items : c.push.new.self.items ≡ xs ++ x ∷ [] = grind arith in
    let l = c.next-token.ensures.lenient ∙ c.elements.invariant.lenient in
    let b = moved (sym same.1) (retaken c.next-token.result _ _ _ c.next-token.ensures.value c.in-Ok.ensures.read) in
    let read = leniently l b in
    record {
      goes = rw items (one_more_element c.args.said.now.lenient T c.args.id xs x _ _ _ c.elements.invariant.goes read);
      lenient = c.in-Ok.ensures.lenient ∙ l;
    }

pub read_elements-returns-clause-read : goal.read_elements-returns-clause-read
read_elements-returns-clause-read g t c =
    let T = g.S.Shapes.table c.args.table.now in
    from_this taken.BeginArray (search rules)
    (elements_said (all_elements c.args.said.now.lenient T c.args.id c.elements.elements.items _ _ _
    c.elements.invariant.goes c.elements-test.ensures))

-- ---- pairs

pub read_pairs-pairs-preserved : goal.read_pairs-pairs-preserved
read_pairs-pairs-preserved g t c =
    let T = g.S.Shapes.table c.args.table.now in
    let xs = c.pairs.pairs.items in
    let key = c.in-Ok.key in
    let element = c.in-Ok-read_value.element in
    let same = c.pairs-test.ensures in
    let items : c.push.new.self.items ≡ xs ++ (key, element) ∷ [] = grind arith in
    let l0 = c.next.ensures.lenient ∙ c.pairs.invariant.lenient in
    let l1 = c.next-token.ensures.lenient ∙ l0 in
    let l2 = c.next-token-in-pairs.ensures.lenient ∙ c.in-Ok.ensures.lenient ∙ l1 in
    let first = leniently l1
    (retaken c.next-token.result _ _ _ c.next-token.ensures.value c.in-Ok.ensures.read) in
    let second = leniently l2
    (retaken c.next-token-in-pairs.result _ _ _ c.next-token-in-pairs.ensures.value c.in-Ok-read_value.ensures.read) in
    let at = rw c.in-Some-BeginArray.field-0-is at c.in-Some-BeginArray.ensures.value in
    record {
      goes = rw items (one_more_pair c.args.said.now.lenient T c.args.key_id c.args.id xs key element _ _ _ _ _ _
          c.pairs.invariant.goes (sym same.1 ∙ at) first second c.in_ok-take_array_end.ensures.ok);
      lenient = c.in-Ok-read_value.ensures.lenient ∙ l2;
    }

pub read_pairs-returns-clause-read : goal.read_pairs-returns-clause-read
read_pairs-returns-clause-read g t c =
    all_pairs c.args.said.now.lenient (g.S.Shapes.table c.args.table.now) c.args.key_id c.args.id c.pairs.pairs.items
    _ _ _ c.pairs.invariant.goes c.pairs-test.ensures

-- ---- entries

pub read_entries-entries-preserved : goal.read_entries-entries-preserved
read_entries-entries-preserved g t c =
    let T = g.S.Shapes.table c.args.table.now in
    let xs = c.entries.pairs.items in
    let key = c.in-Ok.key in
    let element = c.in-Ok-read_value.element in
    let items : c.push.new.self.items ≡ xs ++ (key, element) ∷ [] = grind arith in
    let at = rw c.in-Some.is at c.in_ok-name.ensures.key in
    let l0 = c.in_ok-name.ensures.lenient ∙ c.entries.invariant.lenient in
    let l1 = c.next-token.ensures.lenient ∙ l0 in
    let read = leniently l1
    (retaken c.next-token.result _ _ _ c.next-token.ensures.value c.in-Ok-read_value.ensures.read) in
    record {
      goes = rw items (one_more_entry c.args.said.now.lenient T c.args.key_id c.args.id xs key element _ _ _ _ _
          c.entries.invariant.goes at c.in-Ok.ensures read);
      lenient = c.in-Ok-read_value.ensures.lenient ∙ l1;
    }

-- ---- a map

pub read_map-returns-in_ok-read_pairs-in-Some-BeginArray-clause-read :
    goal.read_map-returns-in_ok-read_pairs-in-Some-BeginArray-clause-read
read_map-returns-in_ok-read_pairs-in-Some-BeginArray-clause-read g t c =
    let T = g.S.Shapes.table c.args.table.now in
    let ps = c.in_ok-read_pairs-in-Some-BeginArray.field-0 in
    from_this taken.BeginArray (search rules)
    (rw (view-Pairs ps) (pairs_said c.in_ok-read_pairs-in-Some-BeginArray.ensures.read))

pub read_map-returns-in_ok-read_entries-in-Some-BeginObject-clause-read :
    goal.read_map-returns-in_ok-read_entries-in-Some-BeginObject-clause-read
read_map-returns-in_ok-read_entries-in-Some-BeginObject-clause-read g t c =
    let T = g.S.Shapes.table c.args.table.now in
    let ps = c.in_ok-read_entries-in-Some-BeginObject.field-0 in
    from_this taken.BeginObject (search rules)
    (rw (view-Pairs ps) (entries_said c.in_ok-read_entries-in-Some-BeginObject.ensures.read))

-- ---- a struct

pub read_struct-returns-clause-read : goal.read_struct-returns-clause-read
read_struct-returns-clause-read g t c =
    let kept = c.in_ok-without_zeros.field-0 in
    from_this taken.BeginObject (search rules)
    (rw (view-Fields kept) (members_said c.in_ok-fields.ensures.read c.in_ok-without_zeros.ensures))

-- ---- a value

pub read_value-returns-in-Some-Null-clause-read : goal.read_value-returns-in-Some-Null-clause-read
read_value-returns-in-Some-Null-clause-read g t c =
    let T = g.S.Shapes.table c.args.table.now in
    let ts = c.args.said.now.tokens in
    (IfOk-weaker c.zero_value.result _ _
    (λ v z. from_this taken.Null (search rules) (subst (λ (n : List Token).
    Begins (λ j. ReadsPlain c.args.said.now.lenient T c.args.id j (view v)) (Token.null ∷ ts) n)
    (sym c.zero_value.ensures.same.tokens)
    (null_said c.args.said.now.lenient T c.args.id (view v) ts z))) c.zero_value.ensures.zero)

pub read_value-returns-in-Basic-clause-read : goal.read_value-returns-in-Basic-clause-read
read_value-returns-in-Basic-clause-read g t c =
    let T = g.S.Shapes.table c.args.table.now in
    IfOk-weaker c.read_basic.result _ _
    (λ v b. weaker (λ j r. basic_said c.args.said.now.lenient T c.args.id _ _ (view v) j (sym c.in-Some.ensures)
    c.in-Basic.is r) b) c.read_basic.ensures.read

pub read_value-returns-in-Array-clause-read : goal.read_value-returns-in-Array-clause-read
read_value-returns-in-Array-clause-read g t c =
    let T = g.S.Shapes.table c.args.table.now in
    IfOk-weaker c.read_array.result _ _
    (λ v b. weaker (λ j r. array_said c.args.said.now.lenient T c.args.id _ _ _ (view v) j (sym c.in-Some.ensures)
    c.in-Array.is r) b) c.read_array.ensures.read

pub read_value-returns-in_ok-read_elements-in-Slice-clause-read :
    goal.read_value-returns-in_ok-read_elements-in-Slice-clause-read
read_value-returns-in_ok-read_elements-in-Slice-clause-read g t c =
    let T = g.S.Shapes.table c.args.table.now in
    let vs = c.in_ok-read_elements-in-Slice.field-0 in
    rw (view-Many vs) (weaker (λ j r. slice_said c.args.said.now.lenient T c.args.id _ _ (views vs.items) j
    (sym c.in-Some.ensures) c.in-Slice.is r) c.in_ok-read_elements-in-Slice.ensures.read)

pub read_value-returns-in-Map-clause-read : goal.read_value-returns-in-Map-clause-read
read_value-returns-in-Map-clause-read g t c =
    let T = g.S.Shapes.table c.args.table.now in
    IfOk-weaker c.read_map.result _ _
    (λ v b. weaker (λ j r. map_said c.args.said.now.lenient T c.args.id _ _ _ (view v) j (sym c.in-Some.ensures)
    c.in-Map.is r) b) c.read_map.ensures.read

pub read_value-returns-in-Struct-clause-read : goal.read_value-returns-in-Struct-clause-read
read_value-returns-in-Struct-clause-read g t c =
    let T = g.S.Shapes.table c.args.table.now in
    IfOk-weaker c.read_struct.result _ _
    (λ v b. weaker (λ j r. struct_said c.args.said.now.lenient T c.args.id _ _ (view v) j (sym c.in-Some.ensures)
    (c.in-Struct.is ∙ ap kind.Struct (sym c.as_slice.ensures)) r) b) c.read_struct.ensures.read

pub read_value-returns-in_ok-read_opaque-in-Opaque-clause-read :
    goal.read_value-returns-in_ok-read_opaque-in-Opaque-clause-read
read_value-returns-in_ok-read_opaque-in-Opaque-clause-read g t c =
    let T = g.S.Shapes.table c.args.table.now in
    let bytes = c.in_ok-read_opaque-in-Opaque.field-0 in
    rw (view-Opaque bytes) (weaker (λ j r. opaque_said c.args.said.now.lenient T c.args.id _ _ bytes.items j
    (sym c.in-Some.ensures) c.in-Opaque.is r) c.in_ok-read_opaque-in-Opaque.ensures)

-- ---- members

pub read_members-members-preserved-in-Continue-branch-5 : goal.read_members-members-preserved-in-Continue-branch-5
read_members-members-preserved-in-Continue-branch-5 g t c =
    let T = g.S.Shapes.table c.args.table.now in
    let at = rw c.in-Some.is at c.in_ok-name.ensures.key in
    let l0 = c.in_ok-name.ensures.lenient ∙ c.members.invariant.lenient in
    let found = rw c.members.invariant.types at c.in_ok-number.ensures.found in
    let named = rw c.in-Some-2.is at found in
    let added = adds_leniently l0 c.in_ok-read_member-in-Some-2.ensures.added in
    record {
      goes = one_more_member c.args.said.now.lenient T c.args.types.now c.in-Some-2.number named.0 _ _ _ _ _ _ _
          c.members.invariant.goes at named.1 added;
      lenient = c.in_ok-read_member-in-Some-2.ensures.lenient ∙ l0;
      types = c.in_ok-number.ensures.types ∙ c.members.invariant.types;
    }

pub read_members-members-preserved : goal.read_members-members-preserved
read_members-members-preserved g t c =
    let T = g.S.Shapes.table c.args.table.now in
    let at = rw c.in-Some.is at c.in_ok-name.ensures.key in
    let l0 = c.in_ok-name.ensures.lenient ∙ c.members.invariant.lenient in
    let passed = c.in_ok-pass_member-in-None.ensures.passed in
    let none = rw c.members.invariant.types at c.in_ok-number.ensures.none in
    record {
      goes = one_left_out c.args.said.now.lenient T c.args.types.now _ _ passed.0 _ _ _ _ c.members.invariant.goes at
          (sym l0 ∙ c.in_ok-pass_member-in-None.ensures.may) (none c.in-None.is) passed.1;
      lenient = c.in_ok-pass_member-in-None.ensures.lenient ∙ l0;
      types = c.in_ok-number.ensures.types ∙ c.members.invariant.types;
    }

pub read_entries-returns-clause-read : goal.read_entries-returns-clause-read
read_entries-returns-clause-read g t c =
    let end = rw c.in_default.is at c.in_ok-name.ensures.key in
    all_entries c.args.said.now.lenient (g.S.Shapes.table c.args.table.now) c.args.key_id c.args.id
    c.entries.pairs.items _ _ _ c.entries.invariant.goes end

pub read_members-returns-clause-read : goal.read_members-returns-clause-read
read_members-returns-clause-read g t c =
    let end = rw c.in_default.is at c.in_ok-name.ensures.key in
    all_members c.args.said.now.lenient (g.S.Shapes.table c.args.table.now) c.args.types.now
    (field_views c.members.fields.entries) _ _ _ c.members.invariant.goes end

pub read_member-returns-then-is_null-clause-added : goal.read_member-returns-then-is_null-clause-added
read_member-returns-then-is_null-clause-added g t c =
    let ts = c.next-token.new.self.tokens in
    null_member c.args.said.now.lenient (g.S.Shapes.table c.args.table.now) c.args.types.now c.args.number _ _ _
    (all_taken c.next-token.result ts _ c.next-token.ensures.value
    ∙ ap (λ k. from_token k ts) (c.is_null.ensures.0 c.if-is_null.true))

pub read_member-returns-else-not-branch-clause-added : goal.read_member-returns-else-not-branch-clause-added
read_member-returns-else-not-branch-clause-added g t c =
    let put = c.in_ok-put_field-in-Ok.ensures (grind (arith, c.if-not-branch.false)) in
    let look = c.in-Some.ensures.lookup in
    let at = slice_get-get_or c.args.types.now c.args.number c.in-Some.field.now look.3.0
    ∙ ap Some (sym (look.4 (omega arith) c.in-Some.field.now)) in
    member_said c.args.said.now.lenient (g.S.Shapes.table c.args.table.now) c.args.types.now c.args.number
    c.in-Some.field.now (view c.in-Ok.value) _ _ c.next-token.result c.next-token.new.self.tokens _ _ at
    (λ e. false≢true (sym c.if-is_null.false ∙ c.is_null.ensures.1 e))
    (all_taken c.next-token.result _ _ c.next-token.ensures.value)
    (leniently c.next-token.ensures.lenient c.in-Ok.ensures.read) put
