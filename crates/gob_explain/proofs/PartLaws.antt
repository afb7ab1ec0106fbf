-- Parts that stand whole in a skeleton.
use Rattle.std.proofs.Common.{◌≡◌, ◌≢◌, ℕ, zero, suc, ◌+◌, ◌-◌, ◌<◌, ◌≤◌, List, [], ◌∷◌, ◌++◌, length, true, false}
use Rattle.std.proofs.Common.{Some, refl, sym, ap, ◌∙◌, subst, append_assoc, arith}
use Rattle.std.specs.Prelude.{slice_get}
use Rattle.gob_num.specs.Unsigned.{IsUnsigned, short}
use Rattle.gob_num.proofs.PublicLaws.{unsigned_pattern, unsigned_signed}
use Rattle.gob_types.specs.declared.id.TypeId.{TypeId}
use Rattle.gob_types.specs.declared.basic.Basic.{Basic}
use Rattle.gob_types.specs.declared.basic.Basic.TheVariants as basic
use Rattle.gob_types.specs.declared.kind.Field.{Field}
use Rattle.gob_types.specs.declared.kind.Kind.{Kind}
use Rattle.gob_types.specs.declared.kind.Kind.TheVariants as kind
use Rattle.gob_types.specs.declared.kind.Shape.{Shape}
use Rattle.gob_types.specs.Table.{Table, shape_of}
use Rattle.gob_value.specs.Tree.{Tree, no_tree, no_pair, no_field, tree_count, pair_count}
use Rattle.gob_value.specs.Tree as Value
use Rattle.gob_value.specs.Spelling.{SpellsAs}
use Rattle.gob_value.specs.Spelling as spelling
use Rattle.gob_read.specs.Expected.{Allows, first_allowed}
use Rattle.gob_read.specs.Expects.{FieldsRun, no_fields}
use Rattle.gob_read.specs.Expects as expects
use Rattle.gob_read.proofs.Grammar.Complete.{run_then}
use Rattle.gob_read.proofs.Grammar.Inside.{each_more, pairs_more, run_more}
use Rattle.gob_explain.specs.Open.{Open}
use Rattle.gob_explain.specs.declared.row.PartStep.{PartStep}
use Rattle.gob_explain.specs.declared.row.PartStep.TheVariants as step
use Rattle.gob_explain.specs.Walk.{HasRawBytes, opened}
use Rattle.gob_explain.specs.Machine.Walking.{BeginsAt, BeginsEachKey, BeginsEachPart, BeginsEachValue}
use Rattle.gob_explain.specs.Machine.Walking.{SpellsEntries, SpellsMany, SpellsOne}
use Rattle.gob_explain.proofs.RowLaws.{append_nil}
use Rattle.gob_explain.proofs.TakesLaws.{enters_at}

-- ---- values without parts

one_of : {T : Table} {u : TypeId} {s : Shape} {v : Tree} {b : List ℕ} → shape_of T u ≡ Some s → SpellsAs T s.kind v b
    → SpellsOne T u b
one_of {v = v} f p = (v, spelling.of_type f p)

raw_spelled : {T : Table} {c : List ℕ} (s : List ℕ) (k : Kind) → HasRawBytes k → IsUnsigned (length s) c
    → (v : Tree) × SpellsAs T k v (c ++ s)
raw_spelled s (kind.Basic basic.Bytes) h q = (Value.bytes s, spelling.of_bytes q)
raw_spelled s (kind.Basic basic.Str) h q = (Value.text s, spelling.of_text q)
raw_spelled s (kind.Opaque m) h q = (Value.opaque s, spelling.of_opaque q)
raw_spelled s _ h q = absurd h

-- a count, and so many bytes
pub raw_whole : {T : Table} {u : TypeId} {s : Shape} {n : ℕ} (c b : List ℕ) → shape_of T u ≡ Some s
    → HasRawBytes s.kind → length b ≡ n → IsUnsigned n c → SpellsOne T u (c ++ b)
raw_whole {T = T} {s = s} c b f h e q =
    let v = raw_spelled {T = T} b s.kind h (subst (λ k. IsUnsigned k c) (sym e) q) in one_of f v.1

-- a count of none
pub raw_none : {T : Table} {u : TypeId} {s : Shape} {n : ℕ} (c : List ℕ) → shape_of T u ≡ Some s → HasRawBytes s.kind
    → n ≡ 0 → IsUnsigned n c → SpellsOne T u c
raw_none {T = T} {u = u} c f h e q =
    subst (SpellsOne T u) (append_nil c) (raw_whole c [] f h (sym e) q)

truth_spelled : {T : Table} {b : List ℕ} (n : ℕ) → n ≤ 1 → IsUnsigned n b
    → (v : Tree) × SpellsAs T (kind.Basic basic.Bool) v b
truth_spelled zero l q = (Value.bool false, spelling.of_bool q)
truth_spelled (suc zero) l q = (Value.bool true, spelling.of_bool q)
truth_spelled (suc (suc n)) l q = absurd (omega arith)

basic_spelled : {T : Table} {n : ℕ} {b : List ℕ} (k : Basic) → k ≢ basic.Bytes → k ≢ basic.Str → k ≢ basic.Complex
    → k ≢ basic.Interface → Allows (opened (first_allowed (kind.Basic k))) n → IsUnsigned n b
    → (v : Tree) × SpellsAs T (kind.Basic k) v b
basic_spelled {n = n} basic.Bool x y z w a q = truth_spelled n a q
basic_spelled basic.Int x y z w a q = let i = unsigned_signed q in (Value.int i.0, spelling.of_int i.1)
basic_spelled {n = n} basic.Uint x y z w a q = (Value.uint n, spelling.of_uint q)
basic_spelled basic.Float x y z w a q = let f = unsigned_pattern q in (Value.float f.0, spelling.of_float f.1)
basic_spelled basic.Interface x y z w a q = absurd (w refl)
basic_spelled basic.Bytes x y z w a q = absurd (x refl)
basic_spelled basic.Str x y z w a q = absurd (y refl)
basic_spelled basic.Complex x y z w a q = absurd (z refl)

-- one number
pub number_whole : {T : Table} {u : TypeId} {s : Shape} {n : ℕ} {b : List ℕ} (k : Basic) → shape_of T u ≡ Some s
    → s.kind ≡ kind.Basic k → k ≢ basic.Bytes → k ≢ basic.Str → k ≢ basic.Complex → k ≢ basic.Interface
    → Allows (opened (first_allowed (kind.Basic k))) n → IsUnsigned n b → SpellsOne T u b
number_whole {T = T} {b = b} k f e x y z w a q =
    let v = basic_spelled {T = T} k x y z w a q in one_of f (subst (λ k. SpellsAs T k v.0 b) (sym e) v.1)

-- nil
pub nil_whole : {T : Table} {u : TypeId} {s : Shape} {b : List ℕ} → shape_of T u ≡ Some s
    → s.kind ≡ kind.Basic basic.Interface → IsUnsigned 0 b → SpellsOne T u b
nil_whole {T = T} {b = b} f e q =
    one_of f (subst (λ k. SpellsAs T k Value.nil b) (sym e) (spelling.of_nil q))

-- spelled so
pub nil_spelled : {T : Table} {u : TypeId} {s : Shape} → shape_of T u ≡ Some s → s.kind ≡ kind.Basic basic.Interface
    → SpellsOne T u (0 ∷ [])
nil_spelled f e = nil_whole f e (short (omega arith))

-- two numbers
pub complex_whole : {T : Table} {u : TypeId} {s : Shape} {m n : ℕ} (b c : List ℕ) → shape_of T u ≡ Some s
    → s.kind ≡ kind.Basic basic.Complex → IsUnsigned m b → IsUnsigned n c → SpellsOne T u (b ++ c)
complex_whole {T = T} b c f e p q =
    let x = unsigned_pattern p in
    let y = unsigned_pattern q in
    one_of f (subst (λ k. SpellsAs T k (Value.complex x.0 y.0) (b ++ c)) (sym e) (spelling.of_complex x.1 y.1))

-- ---- the parts of a list

-- behind the count
pub slice_parts : {T : Table} {t u e : TypeId} {s : Shape} {base n around : ℕ} {outer : List Open} {way : List PartStep}
    (p c : List ℕ) → BeginsAt T t base p outer u around way → shape_of T u ≡ Some s → s.kind ≡ kind.Slice e
    → IsUnsigned n c → BeginsEachPart T t base (p ++ c) outer e n (around + 1) way
slice_parts {T = T} {t = t} {e = e} {base = base} {around = around} {outer = outer} {way = way} p c b f k n =
    λ vs q qs i.
    subst (λ r. BeginsAt T t base r outer e (around + 1) (way ++ step.Element (tree_count vs) ∷ []))
    (sym (append_assoc p c q)) (enters_at b f k (expects.slice_element n qs i))

pub array_parts : {T : Table} {t u e : TypeId} {s : Shape} {base n around : ℕ} {outer : List Open} {way : List PartStep}
    (p c : List ℕ) → BeginsAt T t base p outer u around way → shape_of T u ≡ Some s → s.kind ≡ kind.Array e n
    → IsUnsigned n c → BeginsEachPart T t base (p ++ c) outer e n (around + 1) way
array_parts {T = T} {t = t} {e = e} {base = base} {around = around} {outer = outer} {way = way} p c b f k n =
    λ vs q qs i.
    subst (λ r. BeginsAt T t base r outer e (around + 1) (way ++ step.Element (tree_count vs) ∷ []))
    (sym (append_assoc p c q)) (enters_at b f k (expects.array_element n qs i))

-- and the whole list
pub slice_whole : {T : Table} {u e : TypeId} {s : Shape} {n : ℕ} (c b : List ℕ) → shape_of T u ≡ Some s
    → s.kind ≡ kind.Slice e → IsUnsigned n c → SpellsMany T e n b → SpellsOne T u (c ++ b)
slice_whole {T = T} c b f e p q =
    one_of f (subst (λ k. SpellsAs T k (Value.many q.0) (c ++ b)) (sym e)
    (spelling.of_slice (subst (λ k. IsUnsigned k c) (sym q.2) p) q.1))

pub array_whole : {T : Table} {u e : TypeId} {s : Shape} {n : ℕ} (c b : List ℕ) → shape_of T u ≡ Some s
    → s.kind ≡ kind.Array e n → IsUnsigned n c → SpellsMany T e n b → SpellsOne T u (c ++ b)
array_whole {T = T} c b f e p q =
    one_of f (subst (λ k. SpellsAs T k (Value.many q.0) (c ++ b)) (sym e) (spelling.of_array q.2 p q.1))

pub none_many : {T : Table} {e : TypeId} → SpellsMany T e 0 []
none_many = (no_tree, spelling.no_element, refl)

-- behind fewer elements another one begins
pub next_part : {T : Table} {t e : TypeId} {base i : ℕ} {outer : List Open} (n around : ℕ) (way : List PartStep)
    (p b : List ℕ) → BeginsEachPart T t base p outer e n around way → SpellsMany T e i b → i < n
    → BeginsAt T t base (p ++ b) outer e around (way ++ step.Element i ∷ [])
next_part {T = T} {t = t} {e = e} {base = base} {outer = outer} n around way p b each q k =
    subst (λ i. BeginsAt T t base (p ++ b) outer e around (way ++ step.Element i ∷ [])) q.2
    (each q.0 b q.1 (omega (arith, q.2)))

-- with one more
pub many_more : {T : Table} {e : TypeId} {i : ℕ} (b c : List ℕ) → SpellsMany T e i b → SpellsOne T e c
    → SpellsMany T e (i + 1) (b ++ c)
many_more b c p q =
    let more = each_more p.1 q.1 in (more.trees, more.spelled, more.count ∙ ap (λ n. n + 1) p.2)

-- ---- the pairs of a map

pub map_keys : {T : Table} {t u k e : TypeId} {s : Shape} {base n around : ℕ} {outer : List Open} {way : List PartStep}
    (p c : List ℕ) → BeginsAt T t base p outer u around way → shape_of T u ≡ Some s → s.kind ≡ kind.Map k e
    → IsUnsigned n c → BeginsEachKey T t base (p ++ c) outer k e n (around + 1) way
map_keys {T = T} {t = t} {k = key} {base = base} {around = around} {outer = outer} {way = way} p c b f k n =
    λ ps q qs i.
    subst (λ r. BeginsAt T t base r outer key (around + 1) (way ++ step.Key (pair_count ps) ∷ []))
    (sym (append_assoc p c q)) (enters_at b f k (expects.next_key n qs i))

pub map_values : {T : Table} {t u k e : TypeId} {s : Shape} {base n around : ℕ} {outer : List Open} {way : List
    PartStep}
    (p c : List ℕ) → BeginsAt T t base p outer u around way → shape_of T u ≡ Some s → s.kind ≡ kind.Map k e
    → IsUnsigned n c → BeginsEachValue T t base (p ++ c) outer k e n (around + 1) way
map_values {T = T} {t = t} {e = e} {base = base} {around = around} {outer = outer} {way = way} p c b f k n =
    λ ps x q r qs i y.
    subst (λ z. BeginsAt T t base z outer e (around + 1) (way ++ step.Value (pair_count ps) ∷ []))
    (sym (append_assoc p c (q ++ r))) (enters_at b f k (expects.next_value n qs i y))

pub map_whole : {T : Table} {u k e : TypeId} {s : Shape} {n : ℕ} (c b : List ℕ) → shape_of T u ≡ Some s
    → s.kind ≡ kind.Map k e → IsUnsigned n c → SpellsEntries T k e n b → SpellsOne T u (c ++ b)
map_whole {T = T} c b f e p q =
    one_of f (subst (λ k. SpellsAs T k (Value.pairs q.0) (c ++ b)) (sym e)
    (spelling.of_map (subst (λ k. IsUnsigned k c) (sym q.2) p) q.1))

pub none_entries : {T : Table} {k e : TypeId} → SpellsEntries T k e 0 []
none_entries = (no_pair, spelling.no_entry, refl)

pub next_key : {T : Table} {t k e : TypeId} {base i : ℕ} {outer : List Open} (n around : ℕ) (way : List PartStep)
    (p b : List ℕ) → BeginsEachKey T t base p outer k e n around way → SpellsEntries T k e i b → i < n
    → BeginsAt T t base (p ++ b) outer k around (way ++ step.Key i ∷ [])
next_key {T = T} {t = t} {k = key} {base = base} {outer = outer} n around way p b each q k =
    subst (λ i. BeginsAt T t base (p ++ b) outer key around (way ++ step.Key i ∷ [])) q.2
    (each q.0 b q.1 (omega (arith, q.2)))

pub next_value : {T : Table} {t k e : TypeId} {base i : ℕ} {outer : List Open} (n around : ℕ) (way : List PartStep)
    (p b c : List ℕ) → BeginsEachValue T t base p outer k e n around way → SpellsEntries T k e i b → i < n
    → SpellsOne T k c → BeginsAt T t base (p ++ (b ++ c)) outer e around (way ++ step.Value i ∷ [])
next_value {T = T} {t = t} {e = e} {base = base} {outer = outer} n around way p b c each q k x =
    subst (λ i. BeginsAt T t base (p ++ (b ++ c)) outer e around (way ++ step.Value i ∷ [])) q.2
    (each q.0 x.0 b c q.1 (omega (arith, q.2)) x.1)

pub entries_more : {T : Table} {k e : TypeId} {i : ℕ} (b c d : List ℕ) → SpellsEntries T k e i b → SpellsOne T k c
    → SpellsOne T e d → SpellsEntries T k e (i + 1) (b ++ (c ++ d))
entries_more b c d p q r =
    let more = pairs_more p.1 q.1 r.1 in (more.pairs, more.spelled, more.count ∙ ap (λ n. n + 1) p.2)

-- ---- the fields of a struct

pub next_field : {T : Table} {t u : TypeId} {s : Shape} {types : List Field} {f : Field} {base next number around : ℕ}
    {outer : List Open} {way : List PartStep} (p b c : List ℕ) → BeginsAt T t base p outer u around way
    → shape_of T u ≡ Some s → s.kind ≡ kind.Struct types → FieldsRun T types 0 next b → next ≤ number
    → slice_get types number ≡ Some f → IsUnsigned (number + 1 - next) c
    → BeginsAt T t base (p ++ (b ++ c)) outer f.id (around + 1) (way ++ step.Field u number ∷ [])
next_field p b c g h k run n at q = enters_at g h k (expects.next_field run n at q)

pub run_more_at : {T : Table} {types : List Field} {f : Field} {next number : ℕ} (b c d : List ℕ)
    → FieldsRun T types 0 next b → next ≤ number → slice_get types number ≡ Some f
    → IsUnsigned (number + 1 - next) c → SpellsOne T f.id d → FieldsRun T types 0 (number + 1) (b ++ (c ++ d))
run_more_at b c d run k at q v = run_more run k at q v.1

pub struct_whole : {T : Table} {u : TypeId} {s : Shape} {types : List Field} {next : ℕ} (b c : List ℕ)
    → shape_of T u ≡ Some s → s.kind ≡ kind.Struct types → FieldsRun T types 0 next b → IsUnsigned 0 c
    → SpellsOne T u (b ++ c)
struct_whole {T = T} b c f e run q =
    let all = run_then run (record { fields = no_field; spelled = spelling.end_of_fields q }) in
    one_of f (subst (λ k. SpellsAs T k (Value.fields all.fields) (b ++ c)) (sym e) (spelling.of_struct all.spelled))
