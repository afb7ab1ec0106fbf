-- What nodes say of a value, by the kind of its type, and up to where its nodes stand.
use Rattle.std.proofs.Common.{◌≡◌, ℕ, ◌+◌, ◌-◌, ◌<◌, ◌≤◌, List, ◌∷◌, ◌++◌, length, Some, pos}
use Rattle.std.proofs.Common.{inl, inr, arith, refl, sym, ap, subst, ◌∙◌}
use Rattle.std.proofs.lemmas.Option.{slice_get_within}
use Rattle.std.specs.Prelude.{slice_get}
use Rattle.gob_num.specs.Unsigned.{IsUnsigned}
use Rattle.gob_num.specs.Signed.{IsSigned}
use Rattle.gob_types.specs.declared.id.TypeId.{TypeId}
use Rattle.gob_types.specs.declared.basic.Basic.{Basic}
use Rattle.gob_types.specs.declared.basic.Basic.TheVariants as basic
use Rattle.gob_types.specs.declared.kind.Field.{Field}
use Rattle.gob_types.specs.declared.kind.Kind.{Kind}
use Rattle.gob_types.specs.declared.kind.Kind.TheVariants as kind
use Rattle.gob_types.specs.declared.kind.Marshal.{Marshal}
use Rattle.gob_types.specs.declared.kind.Shape.{Shape}
use Rattle.gob_types.specs.Table.{Table, shape_of}
use Rattle.gob_types.proofs.PublicLaws.{some_injective}
use Rattle.gob_value.specs.Top.{IsStruct, HasStructs}
use Rattle.gob_stream.specs.Body.{MayPut}
use Rattle.gob_tape.specs.FlatNodes.{number_code}
use Rattle.gob_tape.specs.declared.flat.FlatNode.{FlatNode}
use Rattle.gob_nodes.specs.Calls.{HasExtent, one_node, as_told, SaysInterface, says_held, says_nil}
use Rattle.gob_nodes.specs.Says.{IsGroup, IsHeldAt, Says, of_type, SaysAs, of_leaf, of_opaque, of_slice, of_array}
use Rattle.gob_nodes.specs.Says.{of_map, of_struct, of_held, SaysHeld, holds, SaysLeaf, SaysLeafAt}
use Rattle.gob_nodes.specs.Says.{leaf_at, SaysOpaqueAt}
use Rattle.gob_nodes.specs.Says.{opaque_at, SaysOwn, up_to, SaysTop, at_once, tagged, SaysList, a_list, SaysMap, a_map}
use Rattle.gob_nodes.specs.Says.{SaysStruct}
use Rattle.gob_nodes.specs.Says.{a_struct, SaysEach, no_element, element, SaysPairs, no_entry, entry, SaysFields}
use Rattle.gob_nodes.specs.Says.{end_of_fields, next_field, places}
use Rattle.gob_nodes.specs.declared.value.Places.{Places}

-- ---- by the kind

pub said_as : {T : Table} {N : List FlatNode} {P : List ℕ} {t : TypeId} {s : Shape} {k : Kind} {limit : ℕ}
    {p q : Places} {b : List ℕ} → shape_of T t ≡ Some s → s.kind ≡ k → Says T N P t limit p q b
    → SaysAs T N P k limit p q b
said_as {T = T} {N = N} {P = P} {limit = limit} {p = p} {q = q} {b = b} e is (of_type f some h) =
    subst (λ (k : Kind). SaysAs T N P k limit p q b) (ap (λ (r : Shape). r.kind) (some_injective (sym f ∙ e)) ∙ is) h

pub some_depth : {T : Table} {N : List FlatNode} {P : List ℕ} {t : TypeId} {limit : ℕ} {p q : Places} {b : List ℕ}
    → Says T N P t limit p q b → 0 < limit
some_depth (of_type f some h) = some

pub is_known : {T : Table} {N : List FlatNode} {P : List ℕ} {t : TypeId} {limit : ℕ} {p q : Places} {b : List ℕ}
    → Says T N P t limit p q b → (s : Shape) × (shape_of T t ≡ Some s)
is_known (of_type {s = s} f some h) = (s, f)

pub leaf_stands : {T : Table} {N : List FlatNode} {P : List ℕ} {k : Basic} {limit : ℕ} {p q : Places} {b : List ℕ}
    → (k ≡ basic.Interface → ⊥) → SaysAs T N P (kind.Basic k) limit p q b → SaysLeafAt N P k p q b
leaf_stands other (of_leaf h) = h
leaf_stands other (of_held h) = absurd (other refl)

pub opaque_stands : {T : Table} {N : List FlatNode} {P : List ℕ} {m : Marshal} {limit : ℕ} {p q : Places} {b : List ℕ}
    → SaysAs T N P (kind.Opaque m) limit p q b → SaysOpaqueAt N P p q b
opaque_stands (of_opaque h) = h

pub slice_stands : {T : Table} {N : List FlatNode} {P : List ℕ} {e : TypeId} {limit : ℕ} {p q : Places} {b : List ℕ}
    → SaysAs T N P (kind.Slice e) limit p q b → (n : ℕ) × SaysList T N P e (limit - 1) n p q b
slice_stands (of_slice {count = n} h) = (n, h)

pub array_stands : {T : Table} {N : List FlatNode} {P : List ℕ} {e : TypeId} {n limit : ℕ} {p q : Places} {b : List ℕ}
    → SaysAs T N P (kind.Array e n) limit p q b → SaysList T N P e (limit - 1) n p q b
array_stands (of_array h) = h

pub map_stands : {T : Table} {N : List FlatNode} {P : List ℕ} {k e : TypeId} {limit : ℕ} {p q : Places} {b : List ℕ}
    → SaysAs T N P (kind.Map k e) limit p q b → SaysMap T N P k e (limit - 1) p q b
map_stands (of_map h) = h

pub struct_stands : {T : Table} {N : List FlatNode} {P : List ℕ} {types : List Field} {limit : ℕ} {p q : Places}
    {b : List ℕ} → SaysAs T N P (kind.Struct types) limit p q b → SaysStruct T N P types (limit - 1) p q b
struct_stands (of_struct h) = h

-- the node of a list says how many elements it has
pub list_count : {T : Table} {N : List FlatNode} {P : List ℕ} {e : TypeId} {limit n : ℕ} {p q : Places} {b : List ℕ}
    {node : FlatNode} → slice_get N p.at ≡ Some node → SaysList T N P e limit n p q b → node.first ≡ n
list_count there (a_list is c h) =
    ap (λ (n : FlatNode). n.first) (some_injective (sym there ∙ is.there)) ∙ is.counted

-- ---- an interface

pub interface_stands : {T : Table} {N : List FlatNode} {P : List ℕ} {limit : ℕ} {p q : Places} {b : List ℕ}
    → SaysAs T N P (kind.Basic basic.Interface) limit p q b → SaysInterface T N P (limit - 1) p q b
interface_stands (of_leaf h) = says_nil h
interface_stands (of_held h) = says_held h

pub interface_as : {T : Table} {N : List FlatNode} {P : List ℕ} {limit : ℕ} {p q : Places} {b : List ℕ}
    → SaysInterface T N P (limit - 1) p q b → SaysAs T N P (kind.Basic basic.Interface) limit p q b
interface_as (says_nil h) = of_leaf h
interface_as (says_held h) = of_held h

-- a nil is no node of what is held, and what is held none of a nil
pub held_only : {T : Table} {N : List FlatNode} {P : List ℕ} {limit : ℕ} {p q : Places} {b : List ℕ} {n : FlatNode}
    → slice_get N p.at ≡ Some n → n.kind ≡ 15 → SaysInterface T N P limit p q b → SaysHeld T N P limit p q b
held_only there is (says_nil (leaf_at {n = m} stands h)) =
    let same = ap (λ (n : FlatNode). n.kind) (some_injective (sym stands ∙ there)) in
    absurd (omega (arith, same, is, h.kind))
held_only there is (says_held h) = h

pub nil_only : {T : Table} {N : List FlatNode} {P : List ℕ} {limit : ℕ} {p q : Places} {b : List ℕ} {n : FlatNode}
    → slice_get N p.at ≡ Some n → ¬ (n.kind ≡ 15) → SaysInterface T N P limit p q b
    → SaysLeafAt N P basic.Interface p q b
nil_only there isnt (says_nil h) = h
nil_only there isnt (says_held (holds is may a m h c)) =
    absurd (isnt (ap (λ (n : FlatNode). n.kind) (some_injective (sym there ∙ is.there)) ∙ is.kind))

pub interface_there : {T : Table} {N : List FlatNode} {P : List ℕ} {limit : ℕ} {p q : Places} {b : List ℕ}
    → ((n : FlatNode) → slice_get N p.at ≡ Some n → ⊥) → SaysInterface T N P limit p q b → ⊥
interface_there none (says_nil (leaf_at {n = n} stands h)) = none n stands
interface_there none (says_held (holds is may a m h c)) = none is.node is.there

-- what is held, in its parts
pub record HeldStands (T : Table) (N : List FlatNode) (P : List ℕ) (limit : ℕ) (p q : Places) (b : List ℕ) : Type 0
  where
    pub id : TypeId
    pub name : List ℕ
    pub end : ℕ
    pub name_count : List ℕ
    pub number : List ℕ
    pub count : List ℕ
    pub value : List ℕ
    pub is : IsHeldAt N P p.at p.held id name
    pub may : MayPut T id
    pub named : IsUnsigned (length name) name_count
    pub typed : IsSigned (pos id.0) number
    pub says : SaysTop T N P id limit (p.held + 1) end value
    pub counted : IsUnsigned (length value) count
    pub ends : q ≡ places (p.at + 1) end
    pub whole : b ≡ name_count ++ (name ++ (number ++ (count ++ value)))

pub held_parts : {T : Table} {N : List FlatNode} {P : List ℕ} {limit : ℕ} {p q : Places} {b : List ℕ}
    → SaysHeld T N P limit p q b → HeldStands T N P limit p q b
held_parts (holds {id = id} {end = end} {name = name} {a = a} {m = m} {c = c} {b = b} is may p q h r) = record {
  id = id;
  name = name;
  end = end;
  name_count = a;
  number = m;
  count = c;
  value = b;
  is = is;
  may = may;
  named = p;
  typed = q;
  says = h;
  counted = r;
  ends = refl;
  whole = refl;
}

-- ---- behind a tag or without one

pub top_as : {T : Table} {N : List FlatNode} {P : List ℕ} {t : TypeId} {limit from to : ℕ} {b : List ℕ}
    → HasStructs T t → SaysTop T N P t limit from to b → SaysOwn T N P t limit from to b
top_as h (at_once found is said) = said
top_as {T = T} h (tagged {s = s} found isnt said) =
    absurd (isnt (subst (λ (r : Shape). IsStruct r.kind) (some_injective (sym h.found ∙ found)) h.struct))

pub record BehindTag (T : Table) (N : List FlatNode) (P : List ℕ) (t : TypeId) (limit from to : ℕ) (b : List ℕ) : Type
    0 where
  pub bytes : List ℕ
  pub says : SaysOwn T N P t limit from to bytes
  pub whole : b ≡ 0 ∷ bytes

pub top_behind : {T : Table} {N : List FlatNode} {P : List ℕ} {t : TypeId} {limit from to : ℕ} {b : List ℕ}
    → ¬ HasStructs T t → SaysTop T N P t limit from to b → BehindTag T N P t limit from to b
top_behind isnt (at_once {s = s} found is said) = absurd (isnt (record { shape = s; found = found; struct = is }))
top_behind isnt (tagged {b = b} found other said) = record { bytes = b; says = said; whole = refl }

own_known : {T : Table} {N : List FlatNode} {P : List ℕ} {t : TypeId} {limit from to : ℕ} {b : List ℕ}
    → SaysOwn T N P t limit from to b → (s : Shape) × (shape_of T t ≡ Some s)
own_known (up_to h) = is_known h

pub top_of_struct : {T : Table} {N : List FlatNode} {P : List ℕ} {t : TypeId} {limit from to : ℕ} {b : List ℕ}
    → HasStructs T t → SaysOwn T N P t limit from to b → SaysTop T N P t limit from to b
top_of_struct h said = at_once h.found h.struct said

pub top_tagged : {T : Table} {N : List FlatNode} {P : List ℕ} {t : TypeId} {limit from to : ℕ} {b : List ℕ}
    → ¬ HasStructs T t → SaysOwn T N P t limit from to b → SaysTop T N P t limit from to (0 ∷ b)
top_tagged isnt said =
    let k = own_known said in
    tagged k.1 (λ is. isnt (record { shape = k.0; found = k.1; struct = is })) said

-- ---- up to where the nodes of a part stand

pub record Extends (N : List FlatNode) (at end : ℕ) : Type 0 where
  pub node : FlatNode
  pub there : slice_get N at ≡ Some node
  pub size : ℕ
  pub has : HasExtent node size
  pub end_is : end ≡ at + size

code_small : (k : Basic) → number_code k < 9
code_small basic.Bool = omega arith
code_small basic.Int = omega arith
code_small basic.Uint = omega arith
code_small basic.Float = omega arith
code_small basic.Bytes = omega arith
code_small basic.Str = omega arith
code_small basic.Complex = omega arith
code_small basic.Interface = omega arith

leaf_small : {P : List ℕ} {k : Basic} {n : FlatNode} {b : List ℕ} → SaysLeaf P k n b → n.kind < 9
leaf_small {k = k} h = let small = code_small k in omega (arith, h.kind, small)

group_extends : {N : List FlatNode} {code count at end : ℕ} → 9 ≤ code → code ≤ 11 → IsGroup N code count at end
    → Extends N at end
group_extends low high is = record {
  node = is.node;
  there = is.there;
  size = is.node.second;
  has = as_told (omega (arith, is.kind, low)) (omega (arith, is.kind, high)) refl;
  end_is = is.end_is;
}

as_extends : {T : Table} {N : List FlatNode} {P : List ℕ} {k : Kind} {limit : ℕ} {p q : Places} {b : List ℕ}
    → SaysAs T N P k limit p q b → Extends N p.at q.at
as_extends (of_leaf (leaf_at {n = n} there h)) =
    record { node = n; there = there; size = 1; has = one_node (inl (leaf_small h)) refl; end_is = refl }
as_extends (of_opaque (opaque_at {n = n} there is has p)) =
    record { node = n; there = there; size = 1; has = one_node (inr (omega (arith, is))) refl; end_is = refl }
as_extends (of_slice (a_list is c h)) = group_extends (omega arith) (omega arith) is
as_extends (of_array (a_list is c h)) = group_extends (omega arith) (omega arith) is
as_extends (of_map (a_map is c h)) = group_extends (omega arith) (omega arith) is
as_extends (of_struct (a_struct is h)) = group_extends (omega arith) (omega arith) is
as_extends (of_held (holds is may p q h r)) = record {
  node = is.node;
  there = is.there;
  size = 1;
  has = one_node (inr (omega (arith, is.kind))) refl;
  end_is = refl;
}

pub says_extends : {T : Table} {N : List FlatNode} {P : List ℕ} {t : TypeId} {limit : ℕ} {p q : Places} {b : List ℕ}
    → Says T N P t limit p q b → Extends N p.at q.at
says_extends (of_type found some h) = as_extends h

-- ---- no node is wanting

there_below : (N : List FlatNode) (at : ℕ) (n : FlatNode) → slice_get N at ≡ Some n → at + 1 ≤ length N
there_below N at n there = let low = slice_get_within N at n there in omega (arith, low)

mutual
  pub says_within : {T : Table} {N : List FlatNode} {P : List ℕ} {t : TypeId} {limit : ℕ} {p q : Places} {b : List ℕ}
      → Says T N P t limit p q b → q.at ≤ length N
  says_within (of_type found some h) = as_within h

  as_within : {T : Table} {N : List FlatNode} {P : List ℕ} {k : Kind} {limit : ℕ} {p q : Places} {b : List ℕ}
      → SaysAs T N P k limit p q b → q.at ≤ length N
  as_within {N = N} {p = p} (of_leaf (leaf_at {n = n} there h)) = there_below N p.at n there
  as_within {N = N} {p = p} (of_opaque (opaque_at {n = n} there is has q)) = there_below N p.at n there
  as_within {N = N} {p = p} (of_slice (a_list is c h)) = each_within h (there_below N p.at is.node is.there)
  as_within {N = N} {p = p} (of_array (a_list is c h)) = each_within h (there_below N p.at is.node is.there)
  as_within {N = N} {p = p} (of_map (a_map is c h)) = pairs_within h (there_below N p.at is.node is.there)
  as_within {N = N} {p = p} (of_struct (a_struct is h)) = fields_within h (there_below N p.at is.node is.there)
  as_within {N = N} {p = p} (of_held (holds is may a m h r)) = there_below N p.at is.node is.there

  each_within : {T : Table} {N : List FlatNode} {P : List ℕ} {e : TypeId} {limit n : ℕ} {p q : Places} {b : List ℕ}
      → SaysEach T N P e limit n p q b → p.at ≤ length N → q.at ≤ length N
  each_within no_element low = low
  each_within (element h k) low = each_within k (says_within h)

  pairs_within : {T : Table} {N : List FlatNode} {P : List ℕ} {k e : TypeId} {limit n : ℕ} {p q : Places} {b : List ℕ}
      → SaysPairs T N P k e limit n p q b → p.at ≤ length N → q.at ≤ length N
  pairs_within no_entry low = low
  pairs_within (entry g h k) low = pairs_within k (says_within h)

  fields_within : {T : Table} {N : List FlatNode} {P : List ℕ} {types : List Field} {next limit n : ℕ} {p q : Places}
      {b : List ℕ} → SaysFields T N P types next limit n p q b → p.at ≤ length N → q.at ≤ length N
  fields_within (end_of_fields p) low = low
  fields_within (next_field there is order found a h k) low = fields_within k (says_within h)

-- ---- where a whole value ends

-- the end of its own nodes is that of its first part
own_end : {T : Table} {N : List FlatNode} {P : List ℕ} {t : TypeId} {limit from to held end : ℕ} {b : List ℕ}
    → ((n : FlatNode) (size : ℕ) → slice_get N from ≡ Some n → HasExtent n size → from + size ≤ length N
    → held ≡ from + size) → Says T N P t limit (places from end) (places end to) b → held ≡ end
own_end ends h =
    let e = says_extends h in
    let low = says_within h in
    ends e.node e.size e.there e.has (omega (arith, e.end_is, low)) ∙ sym e.end_is

-- so the part stands from there, and goes up to it
pub own_stands : {T : Table} {N : List FlatNode} {P : List ℕ} {t : TypeId} {limit from to : ℕ} {b : List ℕ}
    (held : ℕ)
    → ((n : FlatNode) (size : ℕ) → slice_get N from ≡ Some n → HasExtent n size → from + size ≤ length N
    → held ≡ from + size) → SaysOwn T N P t limit from to b
    → Says T N P t limit (places from held) (places held to) b
own_stands {T = T} {N = N} {P = P} {t = t} {limit = limit} {from = from} {to = to} {b = b} held ends
    (up_to {end = end} h) =
    subst (λ e. Says T N P t limit (places from e) (places e to) b) (sym (own_end ends h)) h

pub own_there : {T : Table} {N : List FlatNode} {P : List ℕ} {t : TypeId} {limit from to : ℕ} {b : List ℕ}
    → ((n : FlatNode) → slice_get N from ≡ Some n → ⊥) → SaysOwn T N P t limit from to b → ⊥
own_there none (up_to h) = let e = says_extends h in none e.node e.there
