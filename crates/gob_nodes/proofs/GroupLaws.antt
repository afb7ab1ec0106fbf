-- The parts of a list, a map or a struct: what was put says what stands there, and what stands there is put.
use Rattle.std.proofs.Common.{◌≡◌, ℕ, ◌+◌, ◌-◌, ◌≤◌, List, [], ◌++◌, Some, Result, Ok, Err}
use Rattle.std.proofs.Common.{arith, refl, sym, ap, subst, ◌∙◌, append_assoc, append-nil}
use Rattle.std.specs.Prelude.{IfErr, OnOk, slice_get}
use Rattle.gob_num.specs.Spelled.{Appends}
use Rattle.gob_num.specs.Unsigned.{IsUnsigned}
use Rattle.gob_num.proofs.PublicLaws.{unsigned_unique}
use Rattle.gob_types.specs.declared.id.TypeId.{TypeId}
use Rattle.gob_types.specs.declared.kind.Field.{Field}
use Rattle.gob_types.specs.Table.{Table}
use Rattle.gob_types.proofs.PublicLaws.{some_injective}
use Rattle.gob_tape.specs.declared.flat.FlatNode.{FlatNode}
use Rattle.gob_nodes.specs.Calls.{IsField, IsGroupNode, PutsIt, PutsSaid}
use Rattle.gob_nodes.specs.Says.{IsGroup, Says, SaysEach, SaysPairs, SaysFields, no_element, element, no_entry, entry}
use Rattle.gob_nodes.specs.Says.{end_of_fields, next_field, behind, SaysList, a_list, SaysMap, a_map, SaysStruct}
use Rattle.gob_nodes.specs.Says.{a_struct}
use Rattle.gob_nodes.specs.declared.fault.NodesFault.{NodesFault}
use Rattle.gob_nodes.specs.declared.part.Group.{Group}
use Rattle.gob_nodes.specs.declared.value.Places.{Places}

-- ---- what was put goes on to all, whatever is left, and of all what is left goes on what was put

pub record Goes (Left All : Places → List ℕ → Type 0) (before after : List ℕ) : Type 0 where
  pub bytes : List ℕ
  pub appended : after ≡ before ++ bytes
  pub goes_on : (to : Places) (c : List ℕ) → Left to c → All to (bytes ++ c)

pub record HasLeft (Left : Places → List ℕ → Type 0) (to : Places) (after whole : List ℕ) : Type 0 where
  pub bytes : List ℕ
  pub says : Left to bytes
  pub all : after ++ bytes ≡ whole

abbrev pub Leaves : (Left All : Places → List ℕ → Type 0) → (before after : List ℕ) → Type 0
Leaves Left All before after = (to : Places) (b : List ℕ) → All to b → HasLeft Left to after (before ++ b)

pub none_put : (All : Places → List ℕ → Type 0) (before : List ℕ) → Goes All All before before
none_put All before = record { bytes = []; appended = sym (append-nil before); goes_on = λ to c h. h }

pub all_left : (All : Places → List ℕ → Type 0) (before : List ℕ) → Leaves All All before before
all_left All before to b h = record { bytes = b; says = h; all = refl }

pub one_more_put : {Left Next All : Places → List ℕ → Type 0} {before after : List ℕ} (new b : List ℕ)
    → Goes Left All before after → new ≡ after ++ b → ((to : Places) (c : List ℕ) → Next to c → Left to (b ++ c))
    → Goes Next All before new
one_more_put {All = All} {before = before} new b h is leads = record {
  bytes = h.bytes ++ b;
  appended = is ∙ ap (λ l. l ++ b) h.appended ∙ append_assoc before h.bytes b;
  goes_on = λ to c s. subst (λ l. All to l) (sym (append_assoc h.bytes b c)) (h.goes_on to (b ++ c) (leads to c s));
}

pub one_less_left : {Next : Places → List ℕ → Type 0} {to : Places} {whole : List ℕ} (after new b c bytes : List ℕ)
    → after ++ bytes ≡ whole → bytes ≡ b ++ c → new ≡ after ++ b → Next to c → HasLeft Next to new whole
one_less_left after new b c bytes all split is says = record {
  bytes = c;
  says = says;
  all = ap (λ l. l ++ c) is ∙ append_assoc after b c ∙ ap (λ l. after ++ l) (sym split) ∙ all;
}

-- ---- elements

pub record ElementNext (T : Table) (N : List FlatNode) (P : List ℕ) (e : TypeId) (limit n : ℕ) (p r : Places)
    (b : List ℕ) : Type 0 where
  pub middle : Places
  pub bytes : List ℕ
  pub rest : List ℕ
  pub says : Says T N P e limit p middle bytes
  pub left : SaysEach T N P e limit n middle r rest
  pub whole : b ≡ bytes ++ rest

pub element_next : {T : Table} {N : List FlatNode} {P : List ℕ} {e : TypeId} {limit m : ℕ} {p r : Places} {b : List ℕ}
    (n : ℕ) → m ≡ n + 1 → SaysEach T N P e limit m p r b → ElementNext T N P e limit n p r b
element_next n is no_element = absurd (omega (arith, is))
element_next {T = T} {N = N} {P = P} {e = e} {limit = limit} {r = r} n is
    (element {count = m} {q = q} {b = b} {c = c} h k) =
    let same : m ≡ n = omega (arith, is) in
    record {
      middle = q;
      bytes = b;
      rest = c;
      says = h;
      left = subst (λ i. SaysEach T N P e limit i q r c) same k;
      whole = refl;
    }

pub elements_end : {T : Table} {N : List FlatNode} {P : List ℕ} {e : TypeId} {limit m : ℕ} {p r : Places} {b : List ℕ}
    → m ≡ 0 → SaysEach T N P e limit m p r b → (p ≡ r) × (b ≡ [])
elements_end is no_element = (refl, refl)
elements_end is (element h k) = absurd (omega (arith, is))

pub element_put : {T : Table} {N : List FlatNode} {P : List ℕ} {e : TypeId} {limit m n : ℕ}
    {All : Places → List ℕ → Type 0} {before after : List ℕ} (p q : Places) (new b : List ℕ) → m ≡ n + 1
    → Goes (λ to c. SaysEach T N P e limit m p to c) All before after → new ≡ after ++ b
    → Says T N P e limit p q b → Goes (λ to c. SaysEach T N P e limit n q to c) All before new
element_put {T = T} {N = N} {P = P} {e = e} {limit = limit} p q new b is h at says =
    one_more_put new b h at
    (λ to c s. subst (λ i. SaysEach T N P e limit i p to (b ++ c)) (sym is) (element says s))

-- ---- entries

pub record EntryNext (T : Table) (N : List FlatNode) (P : List ℕ) (k e : TypeId) (limit n : ℕ) (p r : Places)
    (b : List ℕ) : Type 0 where
  pub middle : Places
  pub end : Places
  pub key_bytes : List ℕ
  pub bytes : List ℕ
  pub rest : List ℕ
  pub key : Says T N P k limit p middle key_bytes
  pub says : Says T N P e limit middle end bytes
  pub left : SaysPairs T N P k e limit n end r rest
  pub whole : b ≡ key_bytes ++ (bytes ++ rest)

pub entry_next : {T : Table} {N : List FlatNode} {P : List ℕ} {k e : TypeId} {limit m : ℕ} {p r : Places}
    {b : List ℕ} (n : ℕ) → m ≡ n + 1 → SaysPairs T N P k e limit m p r b → EntryNext T N P k e limit n p r b
entry_next n is no_entry = absurd (omega (arith, is))
entry_next {T = T} {N = N} {P = P} {k = k} {e = e} {limit = limit} n is
    (entry {count = m} {q = q} {r = r} {s = s} {a = a} {b = b} {c = c} g h l) =
    let same : m ≡ n = omega (arith, is) in
    record {
      middle = q;
      end = r;
      key_bytes = a;
      bytes = b;
      rest = c;
      key = g;
      says = h;
      left = subst (λ i. SaysPairs T N P k e limit i r s c) same l;
      whole = refl;
    }

pub entries_end : {T : Table} {N : List FlatNode} {P : List ℕ} {k e : TypeId} {limit m : ℕ} {p r : Places}
    {b : List ℕ} → m ≡ 0 → SaysPairs T N P k e limit m p r b → (p ≡ r) × (b ≡ [])
entries_end is no_entry = (refl, refl)
entries_end is (entry g h l) = absurd (omega (arith, is))

pub entry_put : {T : Table} {N : List FlatNode} {P : List ℕ} {k e : TypeId} {limit m n : ℕ}
    {All : Places → List ℕ → Type 0} {before after : List ℕ} (p q r : Places) (mid new a b : List ℕ) → m ≡ n + 1
    → Goes (λ to c. SaysPairs T N P k e limit m p to c) All before after → mid ≡ after ++ a → new ≡ mid ++ b
    → Says T N P k limit p q a → Says T N P e limit q r b
    → Goes (λ to c. SaysPairs T N P k e limit n r to c) All before new
entry_put {T = T} {N = N} {P = P} {k = k} {e = e} {limit = limit} {n = n} {after = after} p q r mid new a b is h at
    behind key
    says =
    one_more_put new (a ++ b) h (behind ∙ ap (λ l. l ++ b) at ∙ append_assoc after a b)
    (λ to c s. subst (λ i. SaysPairs T N P k e limit i p to ((a ++ b) ++ c)) (sym is)
    (subst (λ l. SaysPairs T N P k e limit (n + 1) p to l) (sym (append_assoc a b c)) (entry key says s)))

-- ---- fields

pub record FieldNext (T : Table) (N : List FlatNode) (P : List ℕ) (types : List Field) (next limit n : ℕ) (p r : Places)
    (b : List ℕ) : Type 0 where
  pub middle : Places
  pub number : ℕ
  pub field : Field
  pub delta : List ℕ
  pub bytes : List ℕ
  pub rest : List ℕ
  pub is : IsField N types next p.at number field
  pub spelled : IsUnsigned (number + 1 - next) delta
  pub says : Says T N P field.id limit p middle bytes
  pub left : SaysFields T N P types (number + 1) limit n middle r rest
  pub whole : b ≡ delta ++ (bytes ++ rest)

pub field_next : {T : Table} {N : List FlatNode} {P : List ℕ} {types : List Field} {next limit m : ℕ} {p r : Places}
    {b : List ℕ} (n : ℕ) → m ≡ n + 1 → SaysFields T N P types next limit m p r b
    → FieldNext T N P types next limit n p r b
field_next n is (end_of_fields z) = absurd (omega (arith, is))
field_next {T = T} {N = N} {P = P} {types = types} {limit = limit} n is
    (next_field {count = m} {q = q} {r = r} {n = node} {e = e} {a = a} {b = b} {c = c} there named order found d h k) =
    let same : m ≡ n = omega (arith, is) in
    record {
      middle = q;
      number = node.number;
      field = e;
      delta = a;
      bytes = b;
      rest = c;
      is = record {
        node = node;
        there = there;
        is_named = named;
        number_is = refl;
        order = order;
        found = found;
      };
      spelled = d;
      says = h;
      left = subst (λ i. SaysFields T N P types (node.number + 1) limit i q r c) same k;
      whole = refl;
    }

pub fields_end : {T : Table} {N : List FlatNode} {P : List ℕ} {types : List Field} {next limit m : ℕ} {p r : Places}
    {b : List ℕ} → m ≡ 0 → SaysFields T N P types next limit m p r b → (p ≡ r) × IsUnsigned 0 b
fields_end is (end_of_fields z) = (refl, z)
fields_end is (next_field there named order found d h k) = absurd (omega (arith, is))

pub field_put : {T : Table} {N : List FlatNode} {P : List ℕ} {types : List Field} {next limit m n number : ℕ}
    {e : Field} {All : Places → List ℕ → Type 0} {before after : List ℕ} (p q : Places) (mid new a b : List ℕ)
    → m ≡ n + 1 → Goes (λ to c. SaysFields T N P types next limit m p to c) All before after → mid ≡ after ++ a
    → new ≡ mid ++ b → IsField N types next p.at number e → IsUnsigned (number + 1 - next) a
    → Says T N P e.id limit p q b → Goes (λ to c. SaysFields T N P types (number + 1) limit n q to c) All before new
field_put {T = T} {N = N} {P = P} {types = types} {next = next} {limit = limit} {n = n} {number = number} {e = e}
    {after = after} p q mid new a b is h at behind field delta says =
    let same = field.number_is in
    one_more_put new (a ++ b) h (behind ∙ ap (λ l. l ++ b) at ∙ append_assoc after a b)
    (λ to c s. subst (λ i. SaysFields T N P types next limit i p to ((a ++ b) ++ c)) (sym is)
    (subst (λ l. SaysFields T N P types next limit (n + 1) p to l) (sym (append_assoc a b c))
    (next_field field.there field.is_named (subst (λ i. next ≤ i) same field.order)
    (subst (λ i. slice_get types i ≡ Some e) same field.found)
    (subst (λ i. IsUnsigned (i + 1 - next) a) same delta) says
    (subst (λ i. SaysFields T N P types (i + 1) limit n q to c) same s))))

-- ---- the field is known

pub field_is : {N : List FlatNode} {types : List Field} {next at m n : ℕ} {e f : Field} → IsField N types next at m e
    → IsField N types next at n f → (m ≡ n) × (e ≡ f)
field_is {types = types} p q =
    let node = some_injective (sym p.there ∙ q.there) in
    let number = p.number_is ∙ ap (λ (n : FlatNode). n.number) node ∙ sym q.number_is in
    (number, some_injective (sym p.found ∙ ap (λ i. slice_get types i) number ∙ q.found))

-- ---- from the first node on

group_as : {N : List FlatNode} {code at : ℕ} {group : Group} (end : ℕ) → IsGroupNode N code at group
    → end ≡ group.at + group.extent → IsGroup N code group.count at end
group_as {at = at} {group = group} end is ends = record {
  node = is.node;
  there = is.there;
  kind = is.kind;
  counted = sym is.counted;
  end_is = ends ∙ ap (λ i. i + group.extent) is.at_is ∙ ap (λ i. at + i) is.extends;
}

group_count : {N : List FlatNode} {code at n end : ℕ} {group : Group} → IsGroupNode N code at group
    → IsGroup N code n at end → (group.count ≡ n) × (end ≡ group.at + group.extent)
group_count {group = group} is stands =
    let node = some_injective (sym is.there ∙ stands.there) in (
      is.counted ∙ ap (λ (n : FlatNode). n.first) node ∙ stands.counted,
      stands.end_is ∙ ap (λ i. i + stands.node.second) (sym is.at_is)
          ∙ ap (λ (n : FlatNode). group.at + n.second) (sym node) ∙ ap (λ i. group.at + i) (sym is.extends),
    )

-- what stands there of a group behind its count
pub record GroupStands (Each : Places → List ℕ → Type 0) (group : Group) (to : Places) (mid whole : List ℕ) : Type 0
  where
    pub bytes : List ℕ
    pub each : Each to bytes
    pub all : mid ++ bytes ≡ whole
    pub ends : to.at ≡ group.at + group.extent

-- all of it was put, with these bytes at its end
pub group_puts : {Left Each : Places → List ℕ → Type 0} {group : Group} {to : Places} {mid whole after : List ℕ}
    (r : Result (Unit {0}) NodesFault) (now : Places) (before b tail new : List ℕ) → GroupStands Each group to mid whole
    → Leaves Left Each mid after → ((c : List ℕ) → Left to c → (now ≡ to) × (c ≡ tail)) → new ≡ after ++ tail
    → whole ≡ before ++ b → IfErr r (λ f. now.at ≡ group.at + group.extent → ⊥) → PutsIt r now to before new b
group_puts {after = after} (Ok u) now before b tail new s leaves end is same none =
    let left = leaves _ s.bytes s.each in
    let e = end left.bytes left.says in
    (e.0, is ∙ ap (λ l. after ++ l) (sym e.1) ∙ left.all ∙ s.all ∙ same)
group_puts (Err x) now before b tail new s leaves end is same none = λ w.
    let left = leaves _ s.bytes s.each in
    let e = end left.bytes left.says in
    none (ap (λ (p : Places). p.at) e.0 ∙ s.ends)

-- ---- a list

-- so much of it was put, behind its count, and so many elements are left
pub record ListGoes (T : Table) (N : List FlatNode) (P : List ℕ) (e : TypeId) (limit : ℕ) (p now : Places)
    (group : Group) (left : ℕ) (before after : List ℕ) : Type 0 where
  pub mid : List ℕ
  pub is : IsGroupNode N 9 p.at group
  pub counted : Appends (IsUnsigned group.count) before mid
  pub goes : Goes (λ z c. SaysEach T N P e limit left now z c)
      (λ z c. SaysEach T N P e limit group.count (behind p) z c) mid after
  pub leaves : Leaves (λ z c. SaysEach T N P e limit left now z c)
      (λ z c. SaysEach T N P e limit group.count (behind p) z c) mid after

pub list_begins : {T : Table} {N : List FlatNode} {P : List ℕ} {e : TypeId} {limit m : ℕ} {p q : Places}
    {group : Group} {before mid : List ℕ} → IsGroupNode N 9 p.at group → q ≡ behind p → m ≡ group.count
    → Appends (IsUnsigned group.count) before mid → ListGoes T N P e limit p q group m before mid
list_begins {T = T} {N = N} {P = P} {e = e} {limit = limit} {m = m} {p = p} {group = group} {before = before}
    {mid = mid} is from same counted =
    subst (λ z. ListGoes T N P e limit p z group m before mid) (sym from)
    (subst (λ i. ListGoes T N P e limit p (behind p) group i before mid) (sym same) (record {
      mid = mid;
      is = is;
      counted = counted;
      goes = none_put (λ z c. SaysEach T N P e limit group.count (behind p) z c) mid;
      leaves = all_left (λ z c. SaysEach T N P e limit group.count (behind p) z c) mid;
    }))

pub list_goes_on : {T : Table} {N : List FlatNode} {P : List ℕ} {e : TypeId} {limit m n : ℕ} {p now : Places}
    {group : Group} {before after : List ℕ} (q : Places) (new : List ℕ) → ListGoes T N P e limit p now group m before
    after
    → m ≡ n + 1 → PutsSaid (Says T N P e limit) now q after new
    → ((b : List ℕ) (to : Places) → Says T N P e limit now to b → (q ≡ to) × (new ≡ after ++ b))
    → ListGoes T N P e limit p q group n before new
list_goes_on {T = T} {N = N} {P = P} {e = e} {limit = limit} {n = n} {now = now} {after = after} q new g is put whole =
    record {
      mid = g.mid;
      is = g.is;
      counted = g.counted;
      goes = element_put now q new put.bytes is g.goes put.appended put.says;
      leaves = λ to b h.
          let left = g.leaves to b h in
          let x = element_next n is left.says in
          let it = whole x.bytes x.middle x.says in
          one_less_left after new x.bytes x.rest left.bytes left.all x.whole it.1
          (subst (λ z. SaysEach T N P e limit n z to x.rest) (sym it.0) x.left);
    }

-- what stands there
list_left : {T : Table} {N : List FlatNode} {P : List ℕ} {e : TypeId} {limit n : ℕ} {p to : Places} {group : Group}
    {b : List ℕ} (before mid : List ℕ) → IsGroupNode N 9 p.at group → Appends (IsUnsigned group.count) before mid
    → SaysList T N P e limit n p to b
    → GroupStands (λ z c. SaysEach T N P e limit group.count (behind p) z c) group to mid (before ++ b)
list_left {T = T} {N = N} {P = P} {e = e} {limit = limit} {p = p} {to = to} before mid is counted
    (a_list {c = c} {b = b} stands spelled h) =
    let g = group_count is stands in
    let one = unsigned_unique (subst (λ i. IsUnsigned i counted.bytes) g.0 counted.spelled) spelled in
    record {
      bytes = b;
      each = subst (λ i. SaysEach T N P e limit i (behind p) to b) (sym g.0) h;
      all = ap (λ l. l ++ b) counted.appended ∙ append_assoc before counted.bytes b
          ∙ ap (λ l. before ++ (l ++ b)) one;
      ends = g.1;
    }

-- where one element is left at least, one stands there
pub list_next : {T : Table} {N : List FlatNode} {P : List ℕ} {e : TypeId} {limit m n : ℕ} {p now to : Places}
    {group : Group} {before after b : List ℕ} (k : ℕ) → ListGoes T N P e limit p now group m before after → m ≡ k + 1
    → SaysList T N P e limit n p to b → (z : Places) × ((c : List ℕ) × Says T N P e limit now z c)
list_next {before = before} k g is h =
    let s = list_left before g.mid g.is g.counted h in
    let left = g.leaves _ s.bytes s.each in
    let x = element_next k is left.says in
    (x.middle, (x.bytes, x.says))

pub list_said : {T : Table} {N : List FlatNode} {P : List ℕ} {e : TypeId} {limit m : ℕ} {p to : Places} {group : Group}
    {before after : List ℕ} (r : Result (Unit {0}) NodesFault) → m ≡ 0
    → ListGoes T N P e limit p to group m before after → OnOk r (to.at ≡ group.at + group.extent)
    → OnOk r ((n : ℕ) × PutsSaid (SaysList T N P e limit n) p to before after)
list_said {T = T} {N = N} {P = P} {e = e} {limit = limit} {p = p} {to = to} {group = group} {before = before} (Ok u)
    zero g ends =
    let bytes = g.goes.bytes in
    let count = g.counted.bytes in
    let last = g.goes.goes_on to [] (subst (λ i. SaysEach T N P e limit i to to []) (sym zero) no_element) in (
      group.count,
      record {
        bytes = count ++ bytes;
        says = a_list (group_as to.at g.is ends) g.counted.spelled
            (subst (λ l. SaysEach T N P e limit group.count (behind p) to l) (append-nil bytes) last);
        appended = g.goes.appended ∙ ap (λ l. l ++ bytes) g.counted.appended ∙ append_assoc before count bytes;
      },
    )
list_said (Err x) zero g ends = tt

pub list_puts : {T : Table} {N : List FlatNode} {P : List ℕ} {e : TypeId} {limit m n : ℕ} {p now to : Places}
    {group : Group} {before after b : List ℕ} (r : Result (Unit {0}) NodesFault) → m ≡ 0
    → ListGoes T N P e limit p now group m before after → IfErr r (λ f. now.at ≡ group.at + group.extent → ⊥)
    → SaysList T N P e limit n p to b → PutsIt r now to before after b
list_puts {now = now} {before = before} {after = after} {b = b} r zero g none h =
    group_puts r now before b [] after (list_left before g.mid g.is g.counted h) g.leaves
    (λ c left. elements_end zero left) (sym (append-nil after)) refl none

-- ---- a map

pub record MapGoes (T : Table) (N : List FlatNode) (P : List ℕ) (k e : TypeId) (limit : ℕ) (p now : Places)
    (group : Group) (left : ℕ) (before after : List ℕ) : Type 0 where
  pub mid : List ℕ
  pub is : IsGroupNode N 10 p.at group
  pub counted : Appends (IsUnsigned group.count) before mid
  pub goes : Goes (λ z c. SaysPairs T N P k e limit left now z c)
      (λ z c. SaysPairs T N P k e limit group.count (behind p) z c) mid after
  pub leaves : Leaves (λ z c. SaysPairs T N P k e limit left now z c)
      (λ z c. SaysPairs T N P k e limit group.count (behind p) z c) mid after

pub map_begins : {T : Table} {N : List FlatNode} {P : List ℕ} {k e : TypeId} {limit m : ℕ} {p q : Places}
    {group : Group} {before mid : List ℕ} → IsGroupNode N 10 p.at group → q ≡ behind p → m ≡ group.count
    → Appends (IsUnsigned group.count) before mid → MapGoes T N P k e limit p q group m before mid
map_begins {T = T} {N = N} {P = P} {k = k} {e = e} {limit = limit} {m = m} {p = p} {group = group} {before = before}
    {mid = mid}
    is from same counted =
    subst (λ z. MapGoes T N P k e limit p z group m before mid) (sym from)
    (subst (λ i. MapGoes T N P k e limit p (behind p) group i before mid) (sym same) (record {
      mid = mid;
      is = is;
      counted = counted;
      goes = none_put (λ z c. SaysPairs T N P k e limit group.count (behind p) z c) mid;
      leaves = all_left (λ z c. SaysPairs T N P k e limit group.count (behind p) z c) mid;
    }))

pub map_goes_on : {T : Table} {N : List FlatNode} {P : List ℕ} {k e : TypeId} {limit m n : ℕ} {p now : Places}
    {group : Group} {before after : List ℕ} (q r : Places) (middle new : List ℕ)
    → MapGoes T N P k e limit p now group m before after → m ≡ n + 1
    → PutsSaid (Says T N P k limit) now q after middle
    → ((b : List ℕ) (to : Places) → Says T N P k limit now to b → (q ≡ to) × (middle ≡ after ++ b))
    → PutsSaid (Says T N P e limit) q r middle new
    → ((b : List ℕ) (to : Places) → Says T N P e limit q to b → (r ≡ to) × (new ≡ middle ++ b))
    → MapGoes T N P k e limit p r group n before new
map_goes_on {T = T} {N = N} {P = P} {k = k} {e = e} {limit = limit} {n = n} {now = now} {after = after} q r middle new g
    is key all_keys put whole = record {
      mid = g.mid;
      is = g.is;
      counted = g.counted;
      goes = entry_put now q r middle new key.bytes put.bytes is g.goes key.appended put.appended key.says put.says;
      leaves = λ to b h.
          let left = g.leaves to b h in
          let x = entry_next n is left.says in
          let first = all_keys x.key_bytes x.middle x.key in
          let it = whole x.bytes x.end (subst (λ z. Says T N P e limit z x.end x.bytes) (sym first.0) x.says) in
          one_less_left after new (x.key_bytes ++ x.bytes) x.rest left.bytes left.all
          (x.whole ∙ sym (append_assoc x.key_bytes x.bytes x.rest))
          (it.1 ∙ ap (λ l. l ++ x.bytes) first.1 ∙ append_assoc after x.key_bytes x.bytes)
          (subst (λ z. SaysPairs T N P k e limit n z to x.rest) (sym it.0) x.left);
    }

map_left : {T : Table} {N : List FlatNode} {P : List ℕ} {k e : TypeId} {limit : ℕ} {p to : Places} {group : Group}
    {b : List ℕ} (before mid : List ℕ) → IsGroupNode N 10 p.at group → Appends (IsUnsigned group.count) before mid
    → SaysMap T N P k e limit p to b
    → GroupStands (λ z c. SaysPairs T N P k e limit group.count (behind p) z c) group to mid (before ++ b)
map_left {T = T} {N = N} {P = P} {k = k} {e = e} {limit = limit} {p = p} {to = to} before mid is counted
    (a_map {c = c} {b = b} stands spelled h) =
    let g = group_count is stands in
    let one = unsigned_unique (subst (λ i. IsUnsigned i counted.bytes) g.0 counted.spelled) spelled in
    record {
      bytes = b;
      each = subst (λ i. SaysPairs T N P k e limit i (behind p) to b) (sym g.0) h;
      all = ap (λ l. l ++ b) counted.appended ∙ append_assoc before counted.bytes b
          ∙ ap (λ l. before ++ (l ++ b)) one;
      ends = g.1;
    }

-- where one entry is left at least, one stands there
pub map_next : {T : Table} {N : List FlatNode} {P : List ℕ} {k e : TypeId} {limit m : ℕ} {p now to : Places}
    {group : Group} {before after b : List ℕ} (n : ℕ) → MapGoes T N P k e limit p now group m before after → m ≡ n + 1
    → SaysMap T N P k e limit p to b → (z : Places) × ((c : List ℕ) × (Says T N P k limit now z c
    × ((y : Places) × ((d : List ℕ) × Says T N P e limit z y d))))
map_next {before = before} n g is h =
    let s = map_left before g.mid g.is g.counted h in
    let left = g.leaves _ s.bytes s.each in
    let x = entry_next n is left.says in
    (x.middle, (x.key_bytes, (x.key, (x.end, (x.bytes, x.says)))))

pub map_said : {T : Table} {N : List FlatNode} {P : List ℕ} {k e : TypeId} {limit m : ℕ} {p to : Places}
    {group : Group} {before after : List ℕ} (r : Result (Unit {0}) NodesFault) → m ≡ 0
    → MapGoes T N P k e limit p to group m before after → OnOk r (to.at ≡ group.at + group.extent)
    → OnOk r (PutsSaid (SaysMap T N P k e limit) p to before after)
map_said {T = T} {N = N} {P = P} {k = k} {e = e} {limit = limit} {p = p} {to = to} {group = group} {before = before}
    (Ok u) zero g ends =
    let bytes = g.goes.bytes in
    let count = g.counted.bytes in
    let last = g.goes.goes_on to [] (subst (λ i. SaysPairs T N P k e limit i to to []) (sym zero) no_entry) in
    record {
      bytes = count ++ bytes;
      says = a_map (group_as to.at g.is ends) g.counted.spelled
          (subst (λ l. SaysPairs T N P k e limit group.count (behind p) to l) (append-nil bytes) last);
      appended = g.goes.appended ∙ ap (λ l. l ++ bytes) g.counted.appended ∙ append_assoc before count bytes;
    }
map_said (Err x) zero g ends = tt

pub map_puts : {T : Table} {N : List FlatNode} {P : List ℕ} {k e : TypeId} {limit m : ℕ} {p now to : Places}
    {group : Group} {before after b : List ℕ} (r : Result (Unit {0}) NodesFault) → m ≡ 0
    → MapGoes T N P k e limit p now group m before after → IfErr r (λ f. now.at ≡ group.at + group.extent → ⊥)
    → SaysMap T N P k e limit p to b → PutsIt r now to before after b
map_puts {now = now} {before = before} {after = after} {b = b} r zero g none h =
    group_puts r now before b [] after (map_left before g.mid g.is g.counted h) g.leaves
    (λ c left. entries_end zero left) (sym (append-nil after)) refl none

-- ---- a struct

pub record StructGoes (T : Table) (N : List FlatNode) (P : List ℕ) (types : List Field) (limit : ℕ) (p now : Places)
    (group : Group) (next left : ℕ) (before after : List ℕ) : Type 0 where
  pub is : IsGroupNode N 11 p.at group
  pub goes : Goes (λ z c. SaysFields T N P types next limit left now z c)
      (λ z c. SaysFields T N P types 0 limit group.count (behind p) z c) before after
  pub leaves : Leaves (λ z c. SaysFields T N P types next limit left now z c)
      (λ z c. SaysFields T N P types 0 limit group.count (behind p) z c) before after

pub struct_begins : {T : Table} {N : List FlatNode} {P : List ℕ} {types : List Field} {limit m : ℕ} {p q : Places}
    {group : Group} {before : List ℕ} → IsGroupNode N 11 p.at group → q ≡ behind p → m ≡ group.count
    → StructGoes T N P types limit p q group 0 m before before
struct_begins {T = T} {N = N} {P = P} {types = types} {limit = limit} {m = m} {p = p} {group = group} {before = before}
    is from
    same =
    subst (λ z. StructGoes T N P types limit p z group 0 m before before) (sym from)
    (subst (λ i. StructGoes T N P types limit p (behind p) group 0 i before before) (sym same) (record {
      is = is;
      goes = none_put (λ z c. SaysFields T N P types 0 limit group.count (behind p) z c) before;
      leaves = all_left (λ z c. SaysFields T N P types 0 limit group.count (behind p) z c) before;
    }))

pub struct_goes_on : {T : Table} {N : List FlatNode} {P : List ℕ} {types : List Field} {limit next m n number : ℕ}
    {e : Field} {p now : Places} {group : Group} {before after : List ℕ} (q : Places) (middle new : List ℕ)
    → StructGoes T N P types limit p now group next m before after → m ≡ n + 1
    → IsField N types next now.at number e → Appends (IsUnsigned (number + 1 - next)) after middle
    → PutsSaid (Says T N P e.id limit) now q middle new
    → ((b : List ℕ) (to : Places) → Says T N P e.id limit now to b → (q ≡ to) × (new ≡ middle ++ b))
    → StructGoes T N P types limit p q group (number + 1) n before new
struct_goes_on {T = T} {N = N} {P = P} {types = types} {limit = limit} {next = next} {n = n} {number = number} {e = e}
    {now = now} {after = after} q middle new g is field delta put whole = record {
      is = g.is;
      goes = field_put now q middle new delta.bytes put.bytes is g.goes delta.appended put.appended field delta.spelled
          put.says;
      leaves = λ to b h.
          let left = g.leaves to b h in
          let x = field_next n is left.says in
          let one = field_is field x.is in
          let it = whole x.bytes x.middle (subst (λ (f : Field). Says T N P f.id limit now x.middle x.bytes) (sym one.1)
          x.says) in
          let front = unsigned_unique delta.spelled (subst (λ i. IsUnsigned (i + 1 - next) x.delta) (sym one.0)
          x.spelled)
          in
          one_less_left after new (x.delta ++ x.bytes) x.rest left.bytes left.all
          (x.whole ∙ sym (append_assoc x.delta x.bytes x.rest))
          (it.1 ∙ ap (λ l. l ++ x.bytes) (delta.appended ∙ ap (λ l. after ++ l) front)
          ∙ append_assoc after x.delta x.bytes)
          (subst (λ z. SaysFields T N P types (number + 1) limit n z to x.rest) (sym it.0)
          (subst (λ i. SaysFields T N P types (i + 1) limit n x.middle to x.rest) (sym one.0) x.left));
    }

struct_left : {T : Table} {N : List FlatNode} {P : List ℕ} {types : List Field} {limit : ℕ} {p to : Places}
    {group : Group} {b : List ℕ} (before : List ℕ) → IsGroupNode N 11 p.at group → SaysStruct T N P types limit p to b
    → GroupStands (λ z c. SaysFields T N P types 0 limit group.count (behind p) z c) group to before (before ++ b)
struct_left {T = T} {N = N} {P = P} {types = types} {limit = limit} {p = p} {to = to} before is
    (a_struct {b = b} stands h) =
    let g = group_count is stands in
    record {
      bytes = b;
      each = subst (λ i. SaysFields T N P types 0 limit i (behind p) to b) (sym g.0) h;
      all = refl;
      ends = g.1;
    }

-- where one field is left at least, one stands there
pub struct_next : {T : Table} {N : List FlatNode} {P : List ℕ} {types : List Field} {limit next m : ℕ}
    {p now to : Places} {group : Group} {before after b : List ℕ} (n : ℕ)
    → StructGoes T N P types limit p now group next m before after → m ≡ n + 1 → SaysStruct T N P types limit p to b
    → (number : ℕ) × ((e : Field) × (IsField N types next now.at number e
    × ((z : Places) × ((c : List ℕ) × Says T N P e.id limit now z c))))
struct_next {before = before} n g is h =
    let s = struct_left before g.is h in
    let left = g.leaves _ s.bytes s.each in
    let x = field_next n is left.says in
    (x.number, (x.field, (x.is, (x.middle, (x.bytes, x.says)))))

pub struct_said : {T : Table} {N : List FlatNode} {P : List ℕ} {types : List Field} {limit next m : ℕ} {p to : Places}
    {group : Group} {before after new : List ℕ} (r : Result (Unit {0}) NodesFault) → m ≡ 0
    → StructGoes T N P types limit p to group next m before after → Appends (IsUnsigned 0) after new
    → OnOk r (to.at ≡ group.at + group.extent) → OnOk r (PutsSaid (SaysStruct T N P types limit) p to before new)
struct_said {T = T} {N = N} {P = P} {types = types} {limit = limit} {next = next} {to = to} {before = before} (Ok u)
    zero
    g end ends = record {
      bytes = g.goes.bytes ++ end.bytes;
      says = a_struct (group_as to.at g.is ends) (g.goes.goes_on to end.bytes
          (subst (λ i. SaysFields T N P types next limit i to to end.bytes) (sym zero) (end_of_fields end.spelled)));
      appended = end.appended ∙ ap (λ l. l ++ end.bytes) g.goes.appended ∙ append_assoc before g.goes.bytes end.bytes;
    }
struct_said (Err x) zero g end ends = tt

fields_at_end : {T : Table} {N : List FlatNode} {P : List ℕ} {types : List Field} {limit next m : ℕ} {now to : Places}
    {c : List ℕ} (tail : List ℕ) → m ≡ 0 → IsUnsigned 0 tail → SaysFields T N P types next limit m now to c
    → (now ≡ to) × (c ≡ tail)
fields_at_end tail zero end left = let e = fields_end zero left in (e.0, unsigned_unique e.1 end)

pub struct_puts : {T : Table} {N : List FlatNode} {P : List ℕ} {types : List Field} {limit next m : ℕ}
    {p now to : Places} {group : Group} {before after new b : List ℕ} (r : Result (Unit {0}) NodesFault) → m ≡ 0
    → StructGoes T N P types limit p now group next m before after → Appends (IsUnsigned 0) after new
    → IfErr r (λ f. now.at ≡ group.at + group.extent → ⊥) → SaysStruct T N P types limit p to b
    → PutsIt r now to before new b
struct_puts {now = now} {before = before} {new = new} {b = b} r zero g end none h =
    group_puts r now before b end.bytes new (struct_left before g.is h) g.leaves
    (λ c left. fields_at_end end.bytes zero end.spelled left) end.appended refl none

-- ---- a node of the kind begins it

pub list_node : {T : Table} {N : List FlatNode} {P : List ℕ} {e : TypeId} {limit n : ℕ} {p to : Places} {b : List ℕ}
    → ((n : FlatNode) → slice_get N p.at ≡ Some n → n.kind ≡ 9 → ⊥) → SaysList T N P e limit n p to b → ⊥
list_node none (a_list is c h) = none is.node is.there is.kind

pub map_node : {T : Table} {N : List FlatNode} {P : List ℕ} {k e : TypeId} {limit : ℕ} {p to : Places} {b : List ℕ}
    → ((n : FlatNode) → slice_get N p.at ≡ Some n → n.kind ≡ 10 → ⊥) → SaysMap T N P k e limit p to b → ⊥
map_node none (a_map is c h) = none is.node is.there is.kind

pub struct_node : {T : Table} {N : List FlatNode} {P : List ℕ} {types : List Field} {limit : ℕ} {p to : Places}
    {b : List ℕ} → ((n : FlatNode) → slice_get N p.at ≡ Some n → n.kind ≡ 11 → ⊥)
    → SaysStruct T N P types limit p to b → ⊥
struct_node none (a_struct is h) = none is.node is.there is.kind

-- another count than the one that its node says
pub count_not : {T : Table} {N : List FlatNode} {P : List ℕ} {e : TypeId} {limit n : ℕ} {p to : Places} {b : List ℕ}
    → ((node : FlatNode) → slice_get N p.at ≡ Some node → node.first ≡ n → ⊥) → SaysList T N P e limit n p to b → ⊥
count_not none (a_list is c h) = none is.node is.there is.counted

-- and the one that it says
pub count_is : {T : Table} {N : List FlatNode} {P : List ℕ} {e : TypeId} {limit n m : ℕ} {p to : Places} {b : List ℕ}
    → ((node : FlatNode) → slice_get N p.at ≡ Some node → node.first ≡ m) → SaysList T N P e limit n p to b → n ≡ m
count_is has (a_list is c h) = sym is.counted ∙ has is.node is.there
