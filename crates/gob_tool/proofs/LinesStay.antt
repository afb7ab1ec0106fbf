-- The line of an item of a stream stays the same when the table grows.
use Rattle.std.proofs.Common.{◌≡◌, ℕ, List, [], ◌∷◌, ◌++◌, Option, Some, None, codes, refl, sym, ap, ◌∙◌, cond}
use Rattle.std.proofs.Common.{append_assoc}
use Rattle.std.specs.Cmp.{nat_eq_equiv}
use Rattle.serde_json.specs.Data.{Data, object, member, no_members}
use Rattle.serde_json.specs.Written.{compact_text}
use Rattle.gob_types.specs.declared.id.TypeId.{TypeId}
use Rattle.gob_types.specs.declared.kind.Field.{Field}
use Rattle.gob_types.specs.declared.kind.Kind.{Kind}
use Rattle.gob_types.specs.declared.kind.Kind.TheVariants as kind
use Rattle.gob_types.specs.declared.kind.Shape.{Shape}
use Rattle.gob_types.specs.Table.{Table, shape_of}
use Rattle.gob_types.proofs.PublicLaws.{Keeps, shape_of-append, shape_of-append_new}
use Rattle.gob_value.specs.Tree.{Tree, Trees, Pairs, Fields}
use Rattle.gob_value.specs.Spelling.{Spells, of_type, SpellsAs, of_bool, of_int, of_uint, of_float, of_complex, of_nil}
use Rattle.gob_value.specs.Spelling.{of_bytes, of_text, of_opaque, of_slice, of_array, of_map, of_struct, SpellsEach}
use Rattle.gob_value.specs.Spelling.{no_element, element, SpellsPairs, no_entry, entry, SpellsFields, end_of_fields}
use Rattle.gob_value.specs.Spelling.{next_field}
use Rattle.gob_value.specs.Top.{SpellsTop, at_once, tagged}
use Rattle.gob_read.specs.Machine.Kinds.{HasKind}
use Rattle.gob_stream.specs.Bounds.{Bounds}
use Rattle.gob_stream.specs.Item.{StreamItem, defines, puts}
use Rattle.gob_stream.specs.Body.{Body, definition, value}
use Rattle.gob_stream.specs.Stream.{counted, AreItems, no_more, and_then}
use Rattle.gob_json.specs.Json.{element_type, key_type, struct_fields, field_type, id_json, value_json, elements_json}
use Rattle.gob_json.specs.Json.{pairs_json, fields_json}
use Rattle.gob_json.specs.DefinitionJson.{definition_json}
use Rattle.gob_tool.specs.Line.{line, lines}

pub kept_kind : {T U : Table} {t : TypeId} {k : Kind} → Keeps T U → HasKind T t k → HasKind U t k
kept_kind keeps h = record { shape = h.shape; there = keeps.shape _ _ h.there; kind = h.kind }

-- what the shape says of the parts
pub elements_of : {T : Table} {t e : TypeId} {k : Kind} → HasKind T t k
    → element_type (Some (record { name = []; kind = k })) ≡ e → element_type (shape_of T t) ≡ e
elements_of h e = ap element_type h.there ∙ ap (λ (k : Kind). element_type (Some (record { name = []; kind = k })))
    h.kind ∙ e

pub keys_of : {T : Table} {t e : TypeId} {k : Kind} → HasKind T t k
    → key_type (Some (record { name = []; kind = k })) ≡ e
    → key_type (shape_of T t) ≡ e
keys_of h e = ap key_type h.there ∙ ap (λ (k : Kind). key_type (Some (record { name = []; kind = k }))) h.kind ∙ e

pub fields_of : {T : Table} {t : TypeId} {fs : List Field} → HasKind T t (kind.Struct fs) → struct_fields (shape_of T t)
    ≡ fs
fields_of h = ap struct_fields h.there ∙ ap (λ (k : Kind). struct_fields (Some (record { name = []; kind = k }))) h.kind

mutual
  -- the JSON of a value that has a spelling
  value_stays : {T U : Table} {t : TypeId} {v : Tree} {b : List ℕ} → Keeps T U → Spells T t v b → value_json U t v
      ≡ value_json T t v
  value_stays keeps (of_type {s = s} e p) = as_stays keeps (record { shape = s; there = e; kind = refl }) p

  as_stays : {T U : Table} {t : TypeId} {k : Kind} {v : Tree} {b : List ℕ} → Keeps T U → HasKind T t k
      → SpellsAs T k v b → value_json U t v ≡ value_json T t v
  as_stays keeps h (of_bool p) = refl
  as_stays keeps h (of_int p) = refl
  as_stays keeps h (of_uint p) = refl
  as_stays keeps h (of_float p) = refl
  as_stays keeps h (of_complex p q) = refl
  as_stays keeps h (of_nil p) = refl
  as_stays keeps h (of_bytes p) = refl
  as_stays keeps h (of_text p) = refl
  as_stays keeps h (of_opaque p) = refl
  as_stays {T = T} {U = U} {t = t} keeps h (of_slice {e = e} p ps) =
      let now : element_type (shape_of U t) ≡ e = elements_of (kept_kind keeps h) refl in
      let before : element_type (shape_of T t) ≡ e = elements_of h refl in
      let same = each_stays keeps ps in
      cc
  as_stays {T = T} {U = U} {t = t} keeps h (of_array {e = e} n p ps) =
      let now : element_type (shape_of U t) ≡ e = elements_of (kept_kind keeps h) refl in
      let before : element_type (shape_of T t) ≡ e = elements_of h refl in
      let same = each_stays keeps ps in
      cc
  as_stays {T = T} {U = U} {t = t} keeps h (of_map {k = k} {e = e} p ps) =
      let keys_now : key_type (shape_of U t) ≡ k = keys_of (kept_kind keeps h) refl in
      let keys_before : key_type (shape_of T t) ≡ k = keys_of h refl in
      let now : element_type (shape_of U t) ≡ e = elements_of (kept_kind keeps h) refl in
      let before : element_type (shape_of T t) ≡ e = elements_of h refl in
      let same = pairs_stay keeps ps in
      cc
  as_stays {T = T} {U = U} {t = t} keeps h (of_struct {types = types} ps) =
      let now : struct_fields (shape_of U t) ≡ types = fields_of (kept_kind keeps h) in
      let before : struct_fields (shape_of T t) ≡ types = fields_of h in
      let same = fields_stay keeps ps in
      cc

  each_stays : {T U : Table} {e : TypeId} {vs : Trees} {b : List ℕ} → Keeps T U → SpellsEach T e vs b
      → elements_json U e vs ≡ elements_json T e vs
  each_stays keeps no_element = refl
  each_stays keeps (element p ps) = let one = value_stays keeps p in let rest = each_stays keeps ps in cc

  pairs_stay : {T U : Table} {k e : TypeId} {ps : Pairs} {b : List ℕ} → Keeps T U → SpellsPairs T k e ps b
      → pairs_json U k e ps ≡ pairs_json T k e ps
  pairs_stay keeps no_entry = refl
  pairs_stay keeps (entry p q ps) = let key = value_stays keeps p in let one = value_stays keeps q in let rest =
      pairs_stay keeps ps in cc

  fields_stay : {T U : Table} {types : List Field} {next : ℕ} {fs : Fields} {b : List ℕ} → Keeps T U
      → SpellsFields T types next fs b → fields_json U types fs ≡ fields_json T types fs
  fields_stay keeps (end_of_fields p) = refl
  fields_stay keeps (next_field {e = e} l there p q ps) = let type = ap field_type there in let one = value_stays keeps
      q in let rest = fields_stay keeps ps in cc

-- the table has the types of the item
pub data HasTypesOf (T : Table) : StreamItem → Type 0 where
  is_defined : {id : TypeId} {v : Tree} {s : Shape} → shape_of T id ≡ Some s → HasTypesOf T (defines id v)
  fits_there : {id : TypeId} {v : Tree} {b : List ℕ} → Spells T id v b → HasTypesOf T (puts id v)

pub line_stays : {T U : Table} {i : StreamItem} → Keeps T U → HasTypesOf T i → line U i ≡ line T i
line_stays keeps (is_defined {id = id} {s = s} e) = ap
    (λ (o : Option Shape). compact_text (definition_json id o) ++ 10 ∷ []) (keeps.shape _ _ e ∙ sym e)
line_stays keeps (fits_there {id = id} p) = ap
    (λ (d : Data). compact_text (object (member (codes "type") (id_json id) (member (codes "value") d no_members))) ++
    10 ∷ []) (value_stays keeps p)

-- ---- streams
pub keeps_itself : (T : Table) → Keeps T T
keeps_itself T = record { shape = λ t s e. e }

pub keeps_on : {T U V : Table} → Keeps T U → Keeps U V → Keeps T V
keeps_on p q = record { shape = λ t s e. q.shape t s (p.shape t s e) }

-- an item keeps the types before it, and the table behind it has its own
pub body_keeps : {base : Table} {L : Bounds} {T U : Table} {i : StreamItem} {d : List ℕ} → Body base L T i d U
    → Keeps T U
body_keeps {T = T} (definition {id = id} {s = s} p l x n q k) = record
    { shape = λ t r e. shape_of-append T ((id, s) ∷ []) t r e }
body_keeps {T = T} (value p l n k) = keeps_itself T

spelled_there : {T : Table} {t : TypeId} {v : Tree} {b : List ℕ} → SpellsTop T t v b → HasTypesOf T (puts t v)
spelled_there (at_once e s p) = fits_there p
spelled_there (tagged e s p) = fits_there p

pub body_types : {base : Table} {L : Bounds} {T U : Table} {i : StreamItem} {d : List ℕ} → Body base L T i d U
    → HasTypesOf U i
body_types {T = T} (definition {id = id} {s = s} p l x n q k) = is_defined
    (shape_of-append_new T ((id, s) ∷ []) id p.new ∙ ap (λ b. cond b (Some s) None) (nat_eq_equiv.refl id.0))
body_types (value p l n k) = spelled_there k

-- a stream keeps the types before it
pub stream_keeps : {base : Table} {L : Bounds} {T U : Table} {offset : ℕ} {items : List StreamItem} {b : List ℕ}
    → AreItems base L T offset items b U → Keeps T U
stream_keeps {T = T} no_more = keeps_itself T
stream_keeps (and_then (counted u l s p) e r) = keeps_on (body_keeps p) (stream_keeps r)

-- the lines of the items, by the types behind them, stay
pub lines_stay : {base : Table} {L : Bounds} {T U V : Table} {offset : ℕ} {items : List StreamItem} {b : List ℕ}
    → AreItems base L T offset items b U → Keeps U V → lines V items ≡ lines U items
lines_stay no_more keeps = refl
lines_stay (and_then (counted u l s p) e r) keeps =
    let behind = stream_keeps r in
    let first = line_stays (keeps_on behind keeps) (body_types p) in
    let same = line_stays behind (body_types p) in
    let rest = lines_stay r keeps in
    cc

-- the stream of the first of these items, whose types are kept
pub record BeginsThere (base : Table) (L : Bounds) (T : Table) (offset : ℕ) (items : List StreamItem) (b : List ℕ)
    (V : Table) : Type 0 where
  pub prefix : List ℕ
  pub rest : List ℕ
  pub table : Table
  pub stream : AreItems base L T offset items prefix table
  pub keeps : Keeps table V
  pub whole : b ≡ prefix ++ rest

-- the stream of some items and others begins with the stream of the first
pub first_items : {base : Table} {L : Bounds} {T V : Table} {offset : ℕ} {b : List ℕ} (items others : List StreamItem)
    → AreItems base L T offset (items ++ others) b V → BeginsThere base L T offset items b V
first_items {T = T} {b = b} [] others p = record
    { prefix = []; rest = b; table = T; stream = no_more; keeps = stream_keeps p; whole = refl }
first_items (i ∷ items) others (and_then {b = a} {c = c} q e r) =
    let t = first_items items others r in
    record {
      prefix = a ++ t.prefix;
      rest = t.rest;
      table = t.table;
      stream = and_then q e t.stream;
      keeps = t.keeps;
      whole = ap (λ l. a ++ l) t.whole ∙ sym (append_assoc a t.prefix t.rest);
    }
