-- What calls answer that put a value.
use Rattle.std.proofs.Common.{◌≡◌, ℕ, ◌+◌, ◌-◌, ◌<◌, ◌^◌, List, [], ◌∷◌, ◌++◌, length, Some, pos, Result, Ok, Err, w64}
use Rattle.std.proofs.Common.{Vec, Global}
use Rattle.std.proofs.Common.{arith, refl, sym, ap, subst, ◌∙◌, append_assoc, to_z}
use Rattle.std.proofs.lemmas.Int.{ints, to_z_pos}
use Rattle.std.specs.Prelude.{IfOk, IsErrAnd, OnOk, slice_get}
use Rattle.gob_num.specs.Spelled.{Appends}
use Rattle.gob_num.specs.Unsigned.{IsUnsigned}
use Rattle.gob_num.specs.Signed.{IsSigned}
use Rattle.gob_num.proofs.PublicLaws.{pattern_unique, signed_fits, signed_unique, unsigned_unique}
use Rattle.gob_types.specs.declared.id.TypeId.{TypeId}
use Rattle.gob_types.specs.declared.basic.Basic.{Basic}
use Rattle.gob_types.specs.declared.basic.Basic.TheVariants as basic
use Rattle.gob_types.specs.declared.kind.Field.{Field}
use Rattle.gob_types.specs.declared.kind.Kind.{Kind}
use Rattle.gob_types.specs.declared.kind.Kind.TheVariants as kind
use Rattle.gob_types.specs.declared.kind.Shape.{Shape}
use Rattle.gob_types.specs.Table.{Table, shape_of}
use Rattle.gob_types.proofs.PublicLaws.{some_injective}
use Rattle.gob_value.specs.Top.{HasStructs}
use Rattle.gob_value.specs.Written.{WrittenBytes, counted}
use Rattle.gob_stream.specs.Body.{MayPut}
use Rattle.gob_tape.specs.declared.flat.FlatNode.{FlatNode}
use Rattle.gob_nodes.specs.Calls.{PutsEnd, PutsIt, PutsSaid, ReadsIt, SpellsHeld}
use Rattle.gob_nodes.specs.Nodes.{HasBytes, IsWrong, bytes_of}
use Rattle.gob_nodes.specs.Says.{IsHeldAt, LeafBytes, Says, of_type, SaysAs, of_array, of_slice, SaysHeld, holds}
use Rattle.gob_nodes.specs.Says.{SaysLeaf, SaysLeafAt, leaf_at, SaysList}
use Rattle.gob_nodes.specs.Says.{SaysOpaqueAt, opaque_at, SaysOwn, up_to, SaysTop, SpellsComplex, behind, places}
use Rattle.gob_nodes.specs.Says.{spells_complex}
use Rattle.gob_nodes.specs.declared.fault.NodesFault.{NodesFault}
use Rattle.gob_nodes.specs.declared.value.Places.{Places}
use Rattle.gob_nodes.proofs.GroupLaws.{count_is}
use Rattle.gob_nodes.proofs.StandLaws.{HeldStands, top_of_struct, top_tagged}

pub fault_puts : (r : Result (Unit {0}) NodesFault) (e : NodesFault) (new to : Places) (before after b : List ℕ)
    → IsErrAnd r (λ x. x ≡ e) → ¬ IsWrong e → PutsIt r new to before after b
fault_puts (Ok u) e new to before after b is h = absurd is
fault_puts (Err x) e new to before after b is h = λ w. h (subst (λ (y : NodesFault). IsWrong y) is w)

pub fault_ends : (r : Result ℕ NodesFault) (e : NodesFault) (to : ℕ) (before after b : List ℕ)
    → IsErrAnd r (λ x. x ≡ e) → ¬ IsWrong e → PutsEnd r to before after b
fault_ends (Ok u) e to before after b is h = absurd is
fault_ends (Err x) e to before after b is h = λ w. h (subst (λ (y : NodesFault). IsWrong y) is w)

pub says_put : (Is Are : Places → Places → List ℕ → Type 0) (r : Result (Unit {0}) NodesFault) (old new : Places)
    (before after : List ℕ) → ((b : List ℕ) → Is old new b → Are old new b) → OnOk r (PutsSaid Is old new before after)
    → OnOk r (PutsSaid Are old new before after)
says_put Is Are (Ok u) old new before after f p =
    record { bytes = p.bytes; says = f p.bytes p.says; appended = p.appended }
says_put Is Are (Err e) old new before after f p = tt

-- of a type of the kind
pub kind_said : {s : Shape} {k : Kind} {limit : ℕ} (T : Table) (N : List FlatNode) (P : List ℕ) (t : TypeId)
    (r : Result (Unit {0}) NodesFault) (old new : Places) (before after : List ℕ) → shape_of T t ≡ Some s
    → s.kind ≡ k → 0 < limit → OnOk r (PutsSaid (SaysAs T N P k limit) old new before after)
    → OnOk r (PutsSaid (Says T N P t limit) old new before after)
kind_said {k = k} {limit = limit} T N P t r old new before after found is some put =
    says_put (SaysAs T N P k limit) (Says T N P t limit) r old new before after
    (λ b h. of_type found some (subst (λ (k : Kind). SaysAs T N P k limit old new b) (sym is) h)) put

-- ---- a whole value

pub own_said : {T : Table} {N : List FlatNode} {P : List ℕ} {t : TypeId} {limit held : ℕ} (from : ℕ) (to : Places)
    (before after : List ℕ) → to.at ≡ held → PutsSaid (Says T N P t limit) (places from held) to before after
    → PutsSaid (SaysOwn T N P t limit) from to.held before after
own_said {T = T} {N = N} {P = P} {t = t} {limit = limit} from to before after same p = record {
  bytes = p.bytes;
  says = up_to (subst (λ h. Says T N P t limit (places from h) to p.bytes) (sym same) p.says);
  appended = p.appended;
}

pub struct_top : (T : Table) (N : List FlatNode) (P : List ℕ) (t : TypeId) (limit : ℕ) (r : Result ℕ NodesFault)
    (from : ℕ) (before after : List ℕ) → HasStructs T t
    → IfOk r (λ end. PutsSaid (SaysOwn T N P t limit) from end before after)
    → IfOk r (λ end. PutsSaid (SaysTop T N P t limit) from end before after)
struct_top T N P t limit (Ok end) from before after is p =
    record { bytes = p.bytes; says = top_of_struct is p.says; appended = p.appended }
struct_top T N P t limit (Err e) from before after is p = tt

pub tag_top : (T : Table) (N : List FlatNode) (P : List ℕ) (t : TypeId) (limit : ℕ) (r : Result ℕ NodesFault)
    (from : ℕ) (before mid after : List ℕ) → ¬ HasStructs T t → mid ≡ before ++ 0 ∷ []
    → IfOk r (λ end. PutsSaid (SaysOwn T N P t limit) from end mid after)
    → IfOk r (λ end. PutsSaid (SaysTop T N P t limit) from end before after)
tag_top T N P t limit (Ok end) from before mid after isnt tag p = record {
  bytes = 0 ∷ p.bytes;
  says = top_tagged isnt p.says;
  appended = p.appended ∙ ap (λ l. l ++ p.bytes) tag ∙ append_assoc before (0 ∷ []) p.bytes;
}
tag_top T N P t limit (Err e) from before mid after isnt tag p = tt

pub tag_ends : (r : Result ℕ NodesFault) (to : ℕ) (before mid after b bytes : List ℕ) → mid ≡ before ++ 0 ∷ []
    → b ≡ 0 ∷ bytes → PutsEnd r to mid after bytes → PutsEnd r to before after b
tag_ends (Ok end) to before mid after b bytes tag whole p = (
  p.0,
  p.1 ∙ ap (λ l. l ++ bytes) tag ∙ append_assoc before (0 ∷ []) bytes ∙ ap (λ l. before ++ l) (sym whole),
)
tag_ends (Err e) to before mid after b bytes tag whole p = p

-- ---- what an interface holds

pub held_said : {T : Table} {N : List FlatNode} {P : List ℕ} {limit : ℕ} {id : TypeId} (name : List ℕ) (p : Places)
    (end : ℕ) (value before after : List ℕ) → IsHeldAt N P p.at p.held id name → MayPut T id
    → PutsSaid (SaysTop T N P id limit) (p.held + 1) end [] value → Appends (SpellsHeld name id value) before after
    → PutsSaid (SaysHeld T N P limit) p (places (p.at + 1) end) before after
held_said {T = T} {N = N} {P = P} {limit = limit} {id = id} name p end value before after is may top put =
    let s = put.spelled in
    record {
      bytes = put.bytes;
      says = subst (λ b. SaysHeld T N P limit p (places (p.at + 1) end) b) (sym s.whole)
          (holds is may s.named s.typed
          (subst (λ b. SaysTop T N P id limit (p.held + 1) end b) (sym top.appended) top.says) s.counted);
      appended = put.appended;
    }

held_once : {name value b c : List ℕ} {id : TypeId} → SpellsHeld name id value b → SpellsHeld name id value c → b ≡ c
held_once {name = name} {value = value} p q =
    let a = unsigned_unique p.named q.named in
    let n = signed_unique p.typed q.typed in
    let v = unsigned_unique p.counted q.counted in
    cc (p.whole, q.whole, a, n, v)

pub held_was_put : {T : Table} {N : List FlatNode} {P : List ℕ} {limit : ℕ} {p to : Places} {b : List ℕ}
    (s : HeldStands T N P limit p to b) (name : List ℕ) (id : TypeId) (value : List ℕ) (end : ℕ)
    (before after : List ℕ) → Appends (SpellsHeld name id value) before after
    → ◌≡◌ {A = List ℕ × TypeId} (name, id) (s.name, s.id) → end ≡ s.end → value ≡ s.value
    → (places (p.at + 1) end ≡ to) × (after ≡ before ++ b)
held_was_put {p = p} s name id value end before after put same ends body =
    let named : name ≡ s.name = ap (λ (p : List ℕ × TypeId). p.0) same in
    let typed : id ≡ s.id = ap (λ (p : List ℕ × TypeId). p.1) same in
    let spelled = subst (λ v. SpellsHeld s.name s.id v put.bytes) body
    (subst (λ t. SpellsHeld s.name t value put.bytes) typed
    (subst (λ n. SpellsHeld n id value put.bytes) named put.spelled)) in
    let there : SpellsHeld s.name s.id s.value (s.name_count ++ (s.name ++ (s.number ++ (s.count ++ s.value)))) =
    record {
      name_count = s.name_count;
      number = s.number;
      count = s.count;
      named = s.named;
      typed = s.typed;
      counted = s.counted;
      whole = refl;
    } in (
      ap (λ e. places (p.at + 1) e) ends ∙ sym s.ends,
      put.appended ∙ ap (λ l. before ++ l) (held_once spelled there ∙ sym s.whole),
    )

-- ---- parts without parts

pub fault_read : {A B : Type 0} (f : A → B) (r : Result A NodesFault) (e : NodesFault) (b : B)
    → IsErrAnd r (λ x. x ≡ e) → ¬ IsWrong e → ReadsIt f r b
fault_read f (Ok a) e b is h = absurd is
fault_read f (Err x) e b is h = λ w. h (subst (λ (y : NodesFault). IsWrong y) is w)

pub record HasCount (s b : List ℕ) : Type 0 where
  pub count : List ℕ
  pub counts : IsUnsigned (length s) count
  pub whole : b ≡ count ++ s

pub count_of : {s b : List ℕ} → WrittenBytes s b → HasCount s b
count_of (counted {c = c} p) = record { count = c; counts = p; whole = refl }

pub written_once : {s b c : List ℕ} → WrittenBytes s b → WrittenBytes s c → b ≡ c
written_once {s = s} p q =
    let a = count_of p in
    let d = count_of q in
    a.whole ∙ ap (λ l. l ++ s) (unsigned_unique a.counts d.counts) ∙ sym d.whole

complex_once : {p q : ℕ} {b c : List ℕ} → SpellsComplex p q b → SpellsComplex p q c → b ≡ c
complex_once (spells_complex {b = b} {c = c} p q) (spells_complex {b = d} {c = e} r s) =
    ap (λ l. l ++ c) (pattern_unique p r) ∙ ap (λ l. d ++ l) (pattern_unique q s)

leaf_bytes_once : (P : List ℕ) (n : FlatNode) {b c : List ℕ} (k : Basic) → LeafBytes P k n b → LeafBytes P k n c → b ≡ c
leaf_bytes_once P n basic.Bool p q = unsigned_unique p.1 q.1
leaf_bytes_once P n basic.Int p q = unsigned_unique p q
leaf_bytes_once P n basic.Uint p q = unsigned_unique p q
leaf_bytes_once P n basic.Float p q = pattern_unique p q
leaf_bytes_once P n basic.Bytes p q = written_once p.1 q.1
leaf_bytes_once P n basic.Str p q = written_once p.1 q.1
leaf_bytes_once P n basic.Complex p q = complex_once p q
leaf_bytes_once P n basic.Interface p q = unsigned_unique p q

-- what stands there is put
pub leaf_put : {N : List FlatNode} {P : List ℕ} {k : Basic} {p to : Places} {node : FlatNode} {b : List ℕ}
    (before after : List ℕ) → slice_get N p.at ≡ Some node → Appends (SaysLeaf P k node) before after
    → SaysLeafAt N P k p to b → (behind p ≡ to) × (after ≡ before ++ b)
leaf_put {P = P} {k = k} {node = node} before after there put (leaf_at {b = b} stands h) =
    let same = some_injective (sym stands ∙ there) in
    let mine = subst (λ (n : FlatNode). SaysLeaf P k n b) same h in
    (refl, put.appended ∙ ap (λ l. before ++ l) (leaf_bytes_once P node k put.spelled.bytes mine.bytes))

pub leaf_none : {N : List FlatNode} {P : List ℕ} {k : Basic} {p to : Places} {node : FlatNode} {b : List ℕ}
    → slice_get N p.at ≡ Some node → ((b : List ℕ) → ¬ SaysLeaf P k node b) → SaysLeafAt N P k p to b → ⊥
leaf_none {P = P} {k = k} there none (leaf_at {b = b} stands h) =
    none b (subst (λ (n : FlatNode). SaysLeaf P k n b) (some_injective (sym stands ∙ there)) h)

pub leaf_there : {N : List FlatNode} {P : List ℕ} {k : Basic} {p to : Places} {b : List ℕ}
    → ((n : FlatNode) → slice_get N p.at ≡ Some n → ⊥) → SaysLeafAt N P k p to b → ⊥
leaf_there none (leaf_at {n = n} stands h) = none n stands

pub opaque_put : {N : List FlatNode} {P : List ℕ} {p to : Places} {node : FlatNode} {b : List ℕ}
    (before after : List ℕ) → slice_get N p.at ≡ Some node
    → Appends (λ c. HasBytes P node × WrittenBytes (bytes_of P node) c) before after → SaysOpaqueAt N P p to b
    → (behind p ≡ to) × (after ≡ before ++ b)
opaque_put {P = P} before after there put (opaque_at {b = b} stands is has h) =
    let same = some_injective (sym stands ∙ there) in
    let mine = subst (λ (n : FlatNode). WrittenBytes (bytes_of P n) b) same h in
    (refl, put.appended ∙ ap (λ l. before ++ l) (written_once put.spelled.1 mine))

pub opaque_none : {N : List FlatNode} {P : List ℕ} {p to : Places} {node : FlatNode} {b : List ℕ}
    → slice_get N p.at ≡ Some node → ¬ HasBytes P node → SaysOpaqueAt N P p to b → ⊥
opaque_none {P = P} there none (opaque_at stands is has h) =
    none (subst (λ (n : FlatNode). HasBytes P n) (some_injective (sym stands ∙ there)) has)

pub opaque_there : {N : List FlatNode} {P : List ℕ} {p to : Places} {b : List ℕ}
    → ((n : FlatNode) → slice_get N p.at ≡ Some n → n.kind ≡ 12 → ⊥) → SaysOpaqueAt N P p to b → ⊥
opaque_there none (opaque_at {n = n} stands is has h) = none n stands is

-- ---- what an interface holds, put

pub held_put : (r : Result (Unit {0}) NodesFault) (name : List ℕ) (id : TypeId) (value old m1 m2 new : List ℕ)
    → id.0 < 2 ^ 63 → Appends (WrittenBytes name) old m1 → Appends (IsSigned (to_z w64 id.0)) m1 m2
    → OnOk r (Appends (WrittenBytes value) m2 new) → OnOk r (Appends (SpellsHeld name id value) old new)
held_put (Ok u) name id value old m1 m2 new small p q r =
    let a = count_of p.spelled in
    let c = count_of r.spelled in
    record {
      bytes = p.bytes ++ (q.bytes ++ r.bytes);
      spelled = record {
        name_count = a.count;
        number = q.bytes;
        count = c.count;
        named = a.counts;
        typed = subst (λ i. IsSigned i q.bytes) (to_z_pos w64 id.0 small) q.spelled;
        counted = c.counts;
        whole = ap (λ l. l ++ (q.bytes ++ r.bytes)) a.whole ∙ append_assoc a.count name (q.bytes ++ r.bytes)
            ∙ ap (λ l. a.count ++ (name ++ (q.bytes ++ l))) c.whole;
      };
      appended = r.appended ∙ ap (λ l. l ++ r.bytes) (q.appended ∙ ap (λ l. l ++ q.bytes) p.appended)
          ∙ append_assoc (old ++ p.bytes) q.bytes r.bytes ∙ append_assoc old p.bytes (q.bytes ++ r.bytes);
    }
held_put (Err e) name id value old m1 m2 new small p q r = tt

-- ---- what was put of a list, as a value of a kind

pub slice_kind : (T : Table) (N : List FlatNode) (P : List ℕ) (e : TypeId) (limit : ℕ)
    (r : Result (Unit {0}) NodesFault) (p q : Places) (before after : List ℕ)
    → OnOk r ((n : ℕ) × PutsSaid (SaysList T N P e (limit - 1) n) p q before after)
    → OnOk r (PutsSaid (SaysAs T N P (kind.Slice e) limit) p q before after)
slice_kind T N P e limit (Ok u) p q before after (n, h) =
    record { bytes = h.bytes; says = of_slice h.says; appended = h.appended }
slice_kind T N P e limit (Err x) p q before after h = tt

pub array_kind : (T : Table) (N : List FlatNode) (P : List ℕ) (e : TypeId) (limit m : ℕ)
    (r : Result (Unit {0}) NodesFault) (p q : Places) (before after : List ℕ)
    → ((node : FlatNode) → slice_get N p.at ≡ Some node → node.first ≡ m)
    → OnOk r ((n : ℕ) × PutsSaid (SaysList T N P e (limit - 1) n) p q before after)
    → OnOk r (PutsSaid (SaysAs T N P (kind.Array e m) limit) p q before after)
array_kind T N P e limit m (Ok u) p q before after has (n, h) = record {
  bytes = h.bytes;
  says = subst (λ i. SaysAs T N P (kind.Array e i) limit p q h.bytes) (count_is has h.says) (of_array h.says);
  appended = h.appended;
}
array_kind T N P e limit m (Err x) p q before after has h = tt

pub signed_small : {n : ℕ} {b : List ℕ} → IsSigned (pos n) b → n < 2 ^ 63
signed_small p = let f = signed_fits p in omega (arith, ints)

-- those of fields
pub fault_reads : (r : Result (Vec Field Global) NodesFault) (e : NodesFault) (fields : List Field)
    → IsErrAnd r (λ x. x ≡ e) → ¬ IsWrong e → ReadsIt (λ (read : Vec Field Global). read.items) r fields
fault_reads r e fields is h = fault_read (λ (read : Vec Field Global). read.items) r e fields is h
